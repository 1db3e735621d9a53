-- `stage_rows` meets its contract.
-- Assumes nothing.
use mathlib.Core.Path.{◌≡◌, sym}
use mathlib.Core.Bool.{Bool}
use Prim.Native.Nat.{◌-◌, ◌*◌}
use native.Mathlib.Omega.{arith}
use borrow.Rule.Slice.PartMut.{put_mid}
use lib.ListN.{take}
use lib.Seq.{length-take-le}
use Rattle.contents.specs.Calls.{answer_on, bytes_after}
use Rattle.rooms.specs.Views.{room_from, room_within}
use Rattle.stages.specs.Stage.{stage_of}
use Rattle.services.specs.Services.{counted_answer}
use Rattle.staging.specs.Few.{Rows}
use Rattle.staging.specs.Closing.{rows_staged}
use Rattle.staging.proofs.stage_rows.Goals.{After-first_day-first, After-room_end-to, After-room_start-from, After-stage_room, Start}
use Rattle.staging.proofs.stage_rows.Goals as goal

pub overflow_mul-end : goal.overflow_mul-end
overflow_mul-end c =
    let h = c.requires.3 in
    omega arith

pub slice_bounds-stage_room-count : goal.slice_bounds-stage_room-count
slice_bounds-stage_room-count c =
    let h = room_from c.args.b.now c.requires.0 c.args.account c.requires.1 in
    let s = c.room_start-from.ensures in
    let e = c.room_end-to.ensures in
    omega arith

pub slice_bounds-stage_room-start : goal.slice_bounds-stage_room-start
slice_bounds-stage_room-start c =
    let h = room_from c.args.b.now c.requires.0 c.args.account c.requires.1 in
    let s = c.room_start-from.ensures in
    let e = c.room_end-to.ensures in
    omega arith

pub slice_bounds-stage_room-end : goal.slice_bounds-stage_room-end
slice_bounds-stage_room-end c =
    let h = room_within c.args.b.now c.requires.0 c.args.account c.requires.1 in
    let e = c.room_end-to.ensures in
    omega arith

pub slice_bounds-stage_room-end-2 : goal.slice_bounds-stage_room-end-2
slice_bounds-stage_room-end-2 c =
    let l = c.requires.2 in
    let h = c.requires.3 in
    sym (length-take-le (3 * c.args.n) c.args.rows.now (omega arith))

-- what the room came to
module _ (p : After-stage_room) where
  staged : (wish : Bool) → Rows wish p.args.s.now p.args.n p.args.rows.now
      → (counted_answer p.stage_room.result ≡ answer_on p.args.b.now p.args.account (λ v. (stage_of wish p.args.s.now v).answer))
      × (put_mid p.room_start-from.result (p.room_end-to.result - p.room_start-from.result) p.args.b.now p.stage_room.new.room
      ≡ bytes_after p.args.b.now p.args.account (λ v. (stage_of wish p.args.s.now v).records))
  staged wish w =
      rows_staged p.args.b.now p.args.account p.requires.0 p.requires.1 wish p.args.s.now w.accepts
      p.first_day-first.result p.room_start-from.result p.room_end-to.result p.first_day-first.ensures p.room_start-from.ensures p.room_end-to.ensures
      (take (3 * p.args.n) p.args.rows.now) p.args.n w.front (sym w.count)
      (counted_answer p.stage_room.result) p.stage_room.new.room p.stage_room.ensures.told p.stage_room.ensures.left

pub returns : goal.returns
returns c =
    record {
      told = λ wish w. (staged (goal.at.returns c).After-stage_room wish w).0;
      left = λ wish w. (staged (goal.at.returns c).After-stage_room wish w).1;
    }
