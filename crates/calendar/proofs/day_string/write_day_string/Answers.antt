-- `write_day_string` meets its contract.
-- Assumes nothing.
use mathlib.Core.Path.{sym, ◌∙◌}
use Rattle.calendar.specs.Parts.{day_string_bad, day_string_good}
use Rattle.calendar.proofs.day_string.write_day_string.Goals as goal

pub returns-in_default : goal.returns-in_default
returns-in_default c =
    let a = c.args in
    day_string_bad a.short a.days.now a.first a.last a.out.now (sym c.check.ensures ∙ c.in_default.is)

pub returns : goal.returns
returns c =
    let a = c.args in
    day_string_good a.short a.days.now a.first a.last a.out.now (sym c.check.ensures ∙ c.in-Some.is) c.character_count-n.ensures c.write_characters.ensures
