-- `parcels::advance::advance` reads a parcel part by part; what is left of it grows less.
-- Assumes nothing.
use Rattle.parcels.specs.Advancing.{Upto, left_of}
use Rattle.parcels.proofs.advance.advance.Given as goal

abbrev pub invariant-loop-x : goal.invariant-loop-x
invariant-loop-x l = Upto l.parcel l.initial.x l.initial.store l.initial.rows l.x l.store l.rows

abbrev pub decreases-loop-x : goal.decreases-loop-x
decreases-loop-x l = left_of l.parcel l.x
