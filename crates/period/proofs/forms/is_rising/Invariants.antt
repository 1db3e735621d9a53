-- The weekdays that are left rise from the last one as the whole does from `0`.
-- Assumes nothing.
use Rattle.std.proofs.Common.{◌≡◌}
use Rattle.syntax.specs.Bytes.{plain}
use Rattle.period.specs.Period.{rising_days}
use Rattle.period.proofs.forms.is_rising.Given as goal

abbrev pub invariant-loop-b : goal.invariant-loop-b
invariant-loop-b l = rising_days l.low (plain l.b-iterator.rest.now) ≡ rising_days 48 (plain l.part)
