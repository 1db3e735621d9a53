-- The bits so far, with those of the weekdays that are left, are those of all.
-- Assumes nothing.
use Rattle.std.proofs.Common.{◌≡◌}
use Rattle.syntax.specs.Bytes.{plain}
use Rattle.joining.specs.Joined.{week_bits}
use Rattle.joining.proofs.week_of.Given as goal

abbrev pub invariant-loop-b : goal.invariant-loop-b
invariant-loop-b l = week_bits l.week (plain l.b-iterator.rest.now) ≡ week_bits 0 (plain l.part)
