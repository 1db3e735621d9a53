-- `checking::is_room` meets its contract. Invariant: the slots left fit behind the number before exactly when the room is one.
-- Assumes nothing.
use Prim.Native.Nat.{◌-◌}
use lib.ListN.{length}
use Rattle.checking.specs.Room.{Left}
use Rattle.checking.proofs.is_room.Given as goal

abbrev pub invariant-loop-at : goal.invariant-loop-at
invariant-loop-at l = Left l.room l.high l.low l.at

abbrev pub decreases-loop-at : goal.decreases-loop-at
decreases-loop-at l = length l.room - l.at
