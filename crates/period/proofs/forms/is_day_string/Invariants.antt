-- What is left of the text is a day string of the characters that are left, as the whole is of n.
-- Assumes nothing.
use Rattle.std.proofs.Common.{◌≡◌}
use Rattle.syntax.specs.Bytes.{plain}
use Rattle.period.specs.Period.{day_string}
use Rattle.period.proofs.forms.is_day_string.Given as goal

abbrev pub invariant-loop-b : goal.invariant-loop-b
invariant-loop-b l = day_string l.left (plain l.b-iterator.rest.now) ≡ day_string l.n (plain l.part)
