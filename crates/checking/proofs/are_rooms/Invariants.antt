-- `checking::are_rooms` meets its contract. Invariant: the rooms of the accounts from k on fit exactly when all do.
-- Assumes nothing.
use Rattle.checking.specs.Register.{RoomsLeft}
use Rattle.checking.proofs.are_rooms.Given as goal

abbrev pub invariant-loop-k : goal.invariant-loop-k
invariant-loop-k l = RoomsLeft l.b l.at l.k
