-- `parcels::passing::pass_stretch` puts the rows of a stretch behind those before, and stands where it ends.
-- Assumes nothing.
use mathlib.Core.Path.{◌≡◌, sym, ap, subst, ◌∙◌}
use mathlib.Core.List.{List}
use Prim.Native.Nat.{ℕ, ◌≤◌}
use native.Mathlib.Omega.{arith}
use lib.ListN.{length, replicate, length-replicate}
use Rattle.laws.specs.Put.{length_put}
use Rattle.std.specs.Prelude.{Option, Some, None}
use Rattle.answers.specs.declared.Refusal.{Refusal}
use Rattle.interchange.specs.Reader.{numbers}
use Rattle.interchange.specs.Room.{room_size, room_rows}
use Rattle.interchange.specs.Stretch.{Stretched, stretch_on, stretch_of, halt_verdict}
use Rattle.interchange.specs.Stretches.{stretch_whole}
use Rattle.parcel_store.specs.Store.{stand_of}
use Rattle.parcels.specs.declared.passing.Progress.{Progress}
use Rattle.parcels.specs.Onward.{Onward}
use Rattle.parcels.specs.Passing.{Faster}
use Rattle.parcels.specs.Stretches.{within, most, placed, stretch_sound, stretch_faulted}
use Rattle.parcels.proofs.passing.pass_stretch.Goals.{After-read_stretch-stretch, Start}
use Rattle.parcels.proofs.passing.pass_stretch.Goals as goal

-- the stretch that was read
module _ (r : After-read_stretch-stretch) where
  abbrev zeros : List ℕ
  zeros = replicate 384 0

  abbrev read : Stretched
  read = stretch_of r.args.piece.now r.bytes_of-reference.result.now r.args.x.kept.state (length zeros)

  whole : read ≡ stretch_on room_rows r.args.piece.now (stand_of r.args.x.kept r.args.store.now).reference r.args.x.kept.state 0
  whole =
      let h = r.requires.short in
      sym (stretch_whole r.args.piece.now r.bytes_of-reference.result.now r.args.x.kept.state (length zeros) (length-replicate {A = ℕ} 384 0) (omega arith))
      ∙ ap (λ (l : List ℕ). stretch_on room_rows r.args.piece.now l r.args.x.kept.state 0) r.bytes_of-reference.ensures

  near : r.read_stretch-stretch.result.at ≤ length r.args.piece.now
  near =
      let t = r.read_stretch-stretch.ensures.told.1 in
      let i = within r.args.x r.args.store.now r.args.piece.now r.requires read whole in
      omega arith

  many : r.read_stretch-stretch.result.numbers ≤ 384
  many =
      let t = r.read_stretch-stretch.ensures.told.2 in
      let m = most r.args.x r.args.store.now r.args.piece.now r.requires read whole in
      omega arith

  room_long : length r.read_stretch-stretch.new.room ≡ room_size
  room_long = ap length r.read_stretch-stretch.ensures.left ∙ length_put zeros 0 (numbers read.rows) ∙ length-replicate {A = ℕ} 384 0

  judged : (h : Option Refusal) → r.read_stretch-stretch.result.halt ≡ h → read.verdict ≡ halt_verdict h
  judged h e = sym r.read_stretch-stretch.ensures.told.3 ∙ ap halt_verdict e

pub put_rows-requires : goal.put_rows-requires
put_rows-requires c =
    let n = c.read_stretch-stretch.ensures.told.2 in
    let m = many (goal.at.put_rows-requires c).After-read_stretch-stretch in
    let l = room_long (goal.at.put_rows-requires c).After-read_stretch-stretch in
    (omega arith, omega arith, c.requires.goes.sized.offset)

pub overflow_add-beyond : goal.overflow_add-beyond
overflow_add-beyond c =
    let i = near (goal.at.overflow_add-beyond c).After-read_stretch-stretch in
    let o = c.requires.within in
    omega arith

pub overflow_add-beyond-2 : goal.overflow_add-beyond-2
overflow_add-beyond-2 c =
    let i = near (goal.at.overflow_add-beyond-2 c).After-read_stretch-stretch in
    let o = c.requires.room in
    omega arith

pub overflow_add-beyond-3 : goal.overflow_add-beyond-3
overflow_add-beyond-3 c =
    let m = many (goal.at.overflow_add-beyond-3 c).After-read_stretch-stretch in
    let o = c.requires.goes.paced in
    let g = c.requires.goes.sized.offset in
    omega arith

pub overflow_add-kept-in-Some : goal.overflow_add-kept-in-Some
overflow_add-kept-in-Some c =
    let z = c.in-Some.refusal in
    let i = placed c.args.x c.args.store.now c.args.piece.now c.requires (read (goal.at.overflow_add-kept-in-Some c).After-read_stretch-stretch) (whole (goal.at.overflow_add-kept-in-Some c).After-read_stretch-stretch) z (judged (goal.at.overflow_add-kept-in-Some c).After-read_stretch-stretch (Some z) c.in-Some.is) in
    let o = c.requires.within in
    omega arith

pub shape_of-rows-in-None : goal.shape_of-rows-in-None
shape_of-rows-in-None c = c.put_rows.auto.rows

pub returns-in-None : goal.returns-in-None
returns-in-None c =
    let t = c.read_stretch-stretch.ensures.told in
    stretch_sound c.args.x c.args.store.now c.args.piece.now c.requires (read (goal.at.returns-in-None c).After-read_stretch-stretch) (whole (goal.at.returns-in-None c).After-read_stretch-stretch) c.read_stretch-stretch.result.state c.read_stretch-stretch.result.at c.read_stretch-stretch.result.numbers c.counted.result
    c.args.rows.now (zeros (goal.at.returns-in-None c).After-read_stretch-stretch) c.read_stretch-stretch.new.room c.put_rows.new.rows t.0 t.1 t.2 c.counted.ensures (length-replicate {A = ℕ} 384 0)
    c.read_stretch-stretch.ensures.left c.put_rows.ensures (judged (goal.at.returns-in-None c).After-read_stretch-stretch None c.in-None.is)

pub shape_of-rows-in-Some : goal.shape_of-rows-in-Some
shape_of-rows-in-Some c = c.put_rows.auto.rows

pub returns-in-Some : goal.returns-in-Some
returns-in-Some c =
    let t = c.read_stretch-stretch.ensures.told in
    let z = c.in-Some.refusal in
    subst (λ (y : Progress). Onward c.args.piece.now c.args.x c.args.store.now c.args.rows.now y c.args.store.now c.put_rows.new.rows × Faster c.args.x y) (sym c.named.ensures)
    (stretch_faulted c.args.x c.args.store.now c.args.piece.now c.requires (read (goal.at.returns-in-Some c).After-read_stretch-stretch) (whole (goal.at.returns-in-Some c).After-read_stretch-stretch) c.read_stretch-stretch.result.state c.read_stretch-stretch.result.at c.read_stretch-stretch.result.numbers c.counted.result
    c.args.rows.now (zeros (goal.at.returns-in-Some c).After-read_stretch-stretch) c.read_stretch-stretch.new.room c.put_rows.new.rows t.0 t.1 t.2 c.counted.ensures (length-replicate {A = ℕ} 384 0)
    c.read_stretch-stretch.ensures.left c.put_rows.ensures z (judged (goal.at.returns-in-Some c).After-read_stretch-stretch (Some z) c.in-Some.is))
