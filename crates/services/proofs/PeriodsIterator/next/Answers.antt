-- `Periods::next` meets its contract.
-- Assumes nothing.
use mathlib.Core.Path.{sym, ap, ◌∙◌}
use Rattle.std.proofs.Common.{rules, length, arith}
use Rattle.services.specs.Ways.{period_found}
use Rattle.services.proofs.Walks.{period_first, period_last}
use Rattle.services.proofs.PeriodsIterator.next.Goals as goal

pub returns-in_err-pop-clause-steps : goal.returns-in_err-pop-clause-steps
returns-in_err-pop-clause-steps c =
    let e = period_last c.args.self.now (sym c.next_period.ensures ∙ c.in_err-pop.was) in
    rw c.from_residual.ensures (e, e)

pub overflow_add-self : goal.overflow_add-self
overflow_add-self c =
    let it = c.args.self.now in
    let h = (period_found it.rows.now it.i it.to c.in_ok-pop.pop (sym c.next_period.ensures ∙ c.in_ok-pop.was)).inside in
    let k = c.fits-self in
    omega arith

pub returns-clause-steps : goal.returns-clause-steps
returns-clause-steps c = period_first c.args.self.now c.in_ok-pop.pop (sym c.next_period.ensures ∙ c.in_ok-pop.was)

pub returns-clause-goes : goal.returns-clause-goes
returns-clause-goes c =
    let e = ap length (period_first c.args.self.now c.in_ok-pop.pop (sym c.next_period.ensures ∙ c.in_ok-pop.was)) in
    search rules
