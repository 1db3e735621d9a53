-- `pop_at` meets its contract.
-- Assumes nothing.
use mathlib.Core.Path.{sym, ◌∙◌}
use Rattle.period.specs.Pops.{pop_known}
use Rattle.period.specs.Wishes.{wished_pop, unwished_pop}
use Rattle.period.proofs.pop_at.Goals as goal

pub returns-then-suffices : goal.returns-then-suffices
returns-then-suffices c =
    let a = c.args in
    wished_pop a.wish a.s.now a.at (pop_known a.s.now a.at c.read_written.ensures c.in-Some.is) (sym c.suffices.ensures ∙ c.if-suffices.true)

pub returns : goal.returns
returns c =
    let a = c.args in
    unwished_pop a.wish a.s.now a.at (pop_known a.s.now a.at c.read_written.ensures c.in-Some.is) (sym c.suffices.ensures ∙ c.if-suffices.false)
