-- `any_day` meets its contract.
-- Assumes nothing.
use mathlib.Core.Path.{refl, ◌∙◌}
use Prim.Native.Nat.{◌-◌}
use borrow.Author.Rules.{rules}
use borrow.Author.Tests.{tests}
use Rattle.std.proofs.lemmas.Iterator.{YieldsList-from_range}
use Rattle.std.proofs.lemmas.Iterator.Search.{any_from_yields_List}
use Rattle.calendar.specs.Days.{day}
use Rattle.calendar.specs.Steps.{any_in_range}
use Rattle.calendar.proofs.days.any_day.Goals as goal

pub returns : goal.returns
returns c =
    let a = c.args in
    any_from_yields_List (day a.days.now) _ _ _ c.any.ensures.ran (YieldsList-from_range a.from a.to (a.to - a.from) refl refl) (λ x b q k. search (rules, tests))
    ∙ any_in_range a.days.now a.from (a.to - a.from)
