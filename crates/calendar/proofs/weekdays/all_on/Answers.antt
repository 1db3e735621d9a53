-- `all_on` meets its contract.
-- Assumes nothing.
use mathlib.Core.Path.{refl, ◌∙◌}
use native.Mathlib.Omega.{arith}
use borrow.Author.Rules.{rules}
use borrow.Author.Tests.{tests}
use Rattle.std.proofs.lemmas.Iterator.{YieldsList-from_range}
use Rattle.std.proofs.lemmas.Iterator.Search.{all_from_yields_List}
use Rattle.calendar.specs.Days.{has_bit}
use Rattle.calendar.specs.WeekLaws.{on_here, on_in_range}
use Rattle.calendar.proofs.weekdays.all_on.Goals as goal

pub returns : goal.returns
returns c =
    let a = c.args in
    all_from_yields_List (on_here (has_bit a.week) a.days.now a.first) _ _ _ c.all.ensures.ran (YieldsList-from_range 0 a.n a.n refl (omega arith)) (λ x b q k. search (rules, tests))
    ∙ on_in_range (has_bit a.week) a.days.now a.first 0 a.n
