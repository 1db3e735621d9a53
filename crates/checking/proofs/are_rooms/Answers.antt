-- `checking::are_rooms` meets its contract. Invariant: the rooms of the accounts from k on fit exactly when all do.
-- Assumes nothing.
use Prim.Native.Nat.{◌+◌, ◌*◌, ◌≤◌}
use native.Mathlib.Omega.{arith}
use lib.ListN.{length}
use borrow.Author.Rules.{rules}
use Rattle.laws.specs.Lists.{length_between}
use Rattle.checking.specs.Register.{rooms_start, rooms_end, rooms_too_long, room_inside, rooms_no_room, rooms_on}
use Rattle.checking.proofs.are_rooms.Goals.{Else-b-at}
use Rattle.checking.proofs.are_rooms.Goals as goal

pub loop-k-init : goal.loop-k-init
loop-k-init c = let h = c.requires in rooms_start c.args.b.now (omega arith)

pub number_at-room-requires : goal.number_at-room-requires
number_at-room-requires c = let h = c.requires in omega arith

pub overflow_mul-room : goal.overflow_mul-room
overflow_mul-room c = let h = c.number_at-room.ensures.1 in omega arith

-- the room of the quota that was read lies within
inside : (e : Else-b-at) → e.loop-k.at + e.number_at-room.result * 140 ≤ length e.args.b.now
inside e =
    let l = e.loop-k in
    room_inside e.args.b.now l.at l.k l.invariant e.loop-k-test.true e.number_at-room.result e.number_at-room.ensures.0 e.if-b-at.false

pub overflow_sub-b : goal.overflow_sub-b
overflow_sub-b c = c.loop-k.invariant.inside

pub returns-then-b-at : goal.returns-then-b-at
returns-then-b-at c =
    let l = c.loop-k in
    rooms_too_long c.args.b.now l.at l.k l.invariant c.loop-k-test.true c.number_at-room.result c.number_at-room.ensures.0 c.if-b-at.true

pub overflow_add-end : goal.overflow_add-end
overflow_add-end c = let h = inside (goal.at.overflow_add-end c).Else-b-at in omega arith

pub slice_bounds-is_room-end : goal.slice_bounds-is_room-end
slice_bounds-is_room-end c = inside (goal.at.slice_bounds-is_room-end c).Else-b-at

pub is_room-requires : goal.is_room-requires
is_room-requires c =
    let h = inside (goal.at.is_room-requires c).Else-b-at in
    let l = length_between c.args.b.now c.loop-k.at (c.loop-k.at + c.number_at-room.result * 140) h in
    omega arith

pub returns-then-not-is_room : goal.returns-then-not-is_room
returns-then-not-is_room c =
    let l = c.loop-k in
    rooms_no_room c.args.b.now l.at l.k l.invariant c.loop-k-test.true c.number_at-room.result c.number_at-room.ensures.0 c.if-b-at.false c.is_room.result c.is_room.ensures (c.if-not-is_room.true)

pub loop-k-preserved : goal.loop-k-preserved
loop-k-preserved c =
    let l = c.loop-k in
    rooms_on c.args.b.now l.at l.k l.invariant c.loop-k-test.true c.number_at-room.result c.number_at-room.ensures.0 c.if-b-at.false c.is_room.result c.is_room.ensures (c.if-not-is_room.false)

pub slice_bounds-is_zero-count : goal.slice_bounds-is_zero-count
slice_bounds-is_zero-count c = let h = c.loop-k.invariant.inside in let p = c.requires in omega arith

pub slice_bounds-is_zero-start : goal.slice_bounds-is_zero-start
slice_bounds-is_zero-start c = let h = c.loop-k.invariant.inside in let p = c.requires in search rules

pub returns : goal.returns
returns c =
    let l = c.loop-k in
    let p = c.requires in
    rooms_end c.args.b.now l.at l.k l.invariant c.loop-k-test.false 35858 (omega arith) c.is_zero.result c.is_zero.ensures
