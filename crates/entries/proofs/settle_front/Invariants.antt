-- `entries::settle_front` meets its contract. Invariant: the slots passed are released, in their places.
-- Assumes nothing.
use Prim.Native.Nat.{◌*◌}
use Rattle.entries.specs.Released.{SoFar}
use Rattle.entries.proofs.settle_front.Given as goal

abbrev pub invariant-loop-k : goal.invariant-loop-k
invariant-loop-k l = SoFar l.initial.room l.room l.k (l.k * 140) l.count
