-- `services::numbers::plain_end` meets its contract: the number ends where what is left of it does.
-- Assumes nothing.
use mathlib.Core.Path.{◌≡◌}
use Rattle.services.specs.Numbers.{number_end}
use Rattle.services.proofs.numbers.plain_end.Given as goal

abbrev pub invariant-loop-i : goal.invariant-loop-i
invariant-loop-i l = number_end l.s l.i ≡ number_end l.s l.from
