-- `entries::settle_front` meets its contract. Invariant: the slots passed are released, in their places.
-- Assumes nothing.
use Prim.Native.Nat.{◌*◌}
use native.Mathlib.Omega.{arith}
use lib.ListN.{take, drop}
use Rattle.entries.specs.Released.{one_le, turn_here}
use Rattle.entries.proofs.settle_front.Goals as goal

pub overflow_add-count : goal.overflow_add-count
overflow_add-count c = let o = one_le (take 140 (drop (c.loop-k.k * 140) c.loop-k.room)) in omega arith

pub loop-k-preserved : goal.loop-k-preserved
loop-k-preserved c =
    let l = c.loop-k in
    let m = c.make_live in
    let o = c.pending_at-count in
    turn_here c.args.room.now l.room l.k l.count l.invariant (omega arith) c.if-room-k-eq0.false c.if-room-k-gt1.false o.result m.new.room o.ensures m.auto.room m.ensures
