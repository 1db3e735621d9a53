-- `envelope::is_digits` meets its contract.
-- Assumes nothing.
use Rattle.envelope.specs.Counted.{Compared}
use Rattle.envelope.proofs.is_digits.Given as goal

abbrev pub invariant-loop-i : goal.invariant-loop-i
invariant-loop-i l = Compared l.part l.n l.i l.left

abbrev pub decreases-loop-i : goal.decreases-loop-i
decreases-loop-i l = l.i
