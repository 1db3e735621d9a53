-- `checking::is_room` meets its contract. Invariant: the slots left fit behind the number before exactly when the room is one.
-- Assumes nothing.
use Prim.Native.Nat.{◌+◌, ◌≤◌}
use native.Mathlib.Omega.{arith}
use lib.ListN.{length}
use borrow.Author.Rules.{rules}
use Rattle.slots.specs.Words.{Bytes}
use Rattle.checking.specs.Room.{left_start, left_end, room_for_slot, left_unused, left_no_slot, left_on}
use Rattle.checking.proofs.is_room.Goals.{After-rises, In-loop-at}
use Rattle.checking.proofs.is_room.Goals as goal

pub loop-at-init : goal.loop-at-init
loop-at-init c = left_start c.args.room.now c.requires

-- in the loop
module _ (i : In-loop-at) where
  bytes : Bytes i.args.room.now
  bytes k = omega (arith, i.type_inv.room k)

  inside : i.loop-at.at + 140 ≤ length i.args.room.now
  inside = room_for_slot i.args.room.now bytes i.loop-at.high i.loop-at.low i.loop-at.at i.loop-at.invariant i.loop-at-test.true

pub overflow_add-next : goal.overflow_add-next
overflow_add-next c = let h = inside (goal.at.overflow_add-next c).In-loop-at in omega arith

pub slice_bounds-high-end : goal.slice_bounds-high-end
slice_bounds-high-end c = let h = inside (goal.at.slice_bounds-high-end c).In-loop-at in search rules

pub slice_bounds-low-end : goal.slice_bounds-low-end
slice_bounds-low-end c = let h = inside (goal.at.slice_bounds-low-end c).In-loop-at in search rules

pub returns-then-not-rises : goal.returns-then-not-rises
returns-then-not-rises c =
    let l = c.loop-at in
    left_unused c.args.room.now (bytes (goal.at.returns-then-not-rises c).In-loop-at) l.high l.low l.at l.invariant c.loop-at-test.true c.high-next_high.result c.low-next_low.result c.high-next_high.ensures c.low-next_low.ensures c.rises.result c.rises.ensures (c.if-not-rises.true) c.is_zero.result c.is_zero.ensures

pub slice_bounds-is_slot-end : goal.slice_bounds-is_slot-end
slice_bounds-is_slot-end c = let h = inside (goal.at.slice_bounds-is_slot-end c).In-loop-at in search rules

pub returns-then-not-is_slot : goal.returns-then-not-is_slot
returns-then-not-is_slot c =
    let l = c.loop-at in
    left_no_slot c.args.room.now (bytes (goal.at.returns-then-not-is_slot c).In-loop-at) l.high l.low l.at l.invariant c.loop-at-test.true c.high-next_high.result c.low-next_low.result c.high-next_high.ensures c.low-next_low.ensures c.rises.result c.rises.ensures (c.if-not-rises.false) c.is_slot.result c.is_slot.ensures (c.if-not-is_slot.true)

pub loop-at-preserved : goal.loop-at-preserved
loop-at-preserved c =
    let l = c.loop-at in
    left_on c.args.room.now (bytes (goal.at.loop-at-preserved c).In-loop-at) l.high l.low l.at l.invariant c.loop-at-test.true c.high-next_high.result c.low-next_low.result c.high-next_high.ensures c.low-next_low.ensures c.rises.result c.rises.ensures (c.if-not-rises.false) c.is_slot.result c.is_slot.ensures (c.if-not-is_slot.false)

pub returns : goal.returns
returns c =
    let l = c.loop-at in
    left_end c.args.room.now (λ i. omega (arith, c.type_inv.room i)) l.high l.low l.at l.invariant c.loop-at-test.false
