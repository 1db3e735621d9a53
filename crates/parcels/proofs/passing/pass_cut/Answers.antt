use mathlib.Core.Path.{◌≡◌, sym, subst}
use mathlib.Core.List.{List, ◌++◌}
use Prim.Native.Nat.{ℕ, ◌+◌, ◌≤◌}
use native.Mathlib.Omega.{arith}
use lib.ListN.{length, take}
use lib.Seq.{length-take-le}
use Rattle.parcel_store.specs.Store.{stand_of}
use Rattle.parcels.specs.Onward.{Onward}
use Rattle.parcels.specs.Passing.{Faster}
use Rattle.parcels.specs.OneSegment.{cut_short, cut_room, cut_is, cut_ready, cut_rest}
use Rattle.parcels.proofs.passing.pass_cut.Goals.{After-bytes_of, After-put_bytes, After-put_bytes-2, Start}
use Rattle.parcels.proofs.passing.pass_cut.Goals as goal

-- both pieces are put
module _ (p : After-put_bytes-2) where
  abbrev size : ℕ
  size = p.args.x.kept.body + length p.args.piece.now

  short : size ≤ 4096
  short = cut_short p.args.x p.args.store.now p.args.piece.now p.requires

  room : length p.put_bytes-2.new.out ≡ 4096
  room =
      cut_room p.args.x p.args.store.now p.args.piece.now p.requires p.put_bytes.new.out p.put_bytes-2.new.out p.bytes_of.result.now
      p.put_bytes.ensures.1 p.put_bytes-2.ensures.1

  whole : take size p.put_bytes-2.new.out ≡ (stand_of p.args.x.kept p.args.store.now).body ++ p.args.piece.now
  whole =
      cut_is p.args.x p.args.store.now p.args.piece.now p.requires p.put_bytes.new.out p.put_bytes-2.new.out p.bytes_of.result.now
      p.put_bytes.ensures.1 p.bytes_of.ensures p.put_bytes-2.ensures.1

pub slice_bounds-cut-end : goal.slice_bounds-cut-end
slice_bounds-cut-end c =
    let h = short (goal.at.slice_bounds-cut-end c).After-put_bytes-2 in
    let l = room (goal.at.slice_bounds-cut-end c).After-put_bytes-2 in
    omega arith

pub slice_bounds-pass_one-end : goal.slice_bounds-pass_one-end
slice_bounds-pass_one-end c =
    let h = short (goal.at.slice_bounds-pass_one-end c).After-put_bytes-2 in
    let l = room (goal.at.slice_bounds-pass_one-end c).After-put_bytes-2 in
    sym (length-take-le (size (goal.at.slice_bounds-pass_one-end c).After-put_bytes-2) c.put_bytes-2.new.out (omega arith))

pub pass_one-requires : goal.pass_one-requires
pass_one-requires c =
    let a = c.args in
    cut_ready a.x a.store.now a.piece.now c.requires (take (size (goal.at.pass_one-requires c).After-put_bytes-2) c.put_bytes-2.new.out) (whole (goal.at.pass_one-requires c).After-put_bytes-2)

pub returns : goal.returns
returns c =
    let a = c.args in
    let y = c.pass_one.result in
    subst
    (λ (l : List ℕ). Onward l a.x a.store.now a.rows.now y c.pass_one.new.store c.pass_one.new.rows × Faster a.x y)
    (cut_rest a.x a.store.now a.piece.now c.requires (take (size (goal.at.returns c).After-put_bytes-2) c.put_bytes-2.new.out) (whole (goal.at.returns c).After-put_bytes-2))
    c.pass_one.ensures
