-- `day_character` meets its contract.
-- Assumes nothing.
use mathlib.Core.Path.{sym, ◌∙◌}
use Rattle.calendar.specs.Written.{day_character}
use Rattle.calendar.proofs.day_string.day_character.Goals as goal

pub returns-then-test_day : goal.returns-then-test_day
unfolding day_character
returns-then-test_day c = rw (sym c.test_day.ensures ∙ c.if-test_day.true)

pub returns-else-test_day : goal.returns-else-test_day
unfolding day_character
returns-else-test_day c = rw (sym c.test_day.ensures ∙ c.if-test_day.false)
