-- `pop_end` meets its contract.
-- Assumes nothing.
use Rattle.std.specs.Prelude.{Ok}
use mathlib.Core.Path.{sym, ap, ◌∙◌}
use borrow.Author.Rules.{rules}
use Rattle.std.proofs.lemmas.Option.{same_Some}
use Rattle.period.specs.Period.{is_good}
use Rattle.period.specs.Pops.{pop_told_lem}
use Rattle.interchange.proofs.heads.pop_end.Goals as goal

pub returns-in_err-pop : goal.returns-in_err-pop
returns-in_err-pop c = λ e q. absurd (cc)

pub returns : goal.returns
returns c =
    λ e q.
    let a = c.args in
    let k = pop_told_lem a.wish a.s.now a.at (sym c.pop_at.ensures ∙ c.in_ok-pop.was) in
    (k.segment ∙ ap Ok (same_Some _ _ q), ap is_good k.period)
