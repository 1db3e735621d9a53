use mathlib.Core.Path.{◌≡◌, sym, ap, ◌∙◌}
use Rattle.period.specs.Period.{period_of}
use Prim.Native.Nat.{ℕ}
use Rattle.answers.specs.declared.Refusal.{Refusal}
use Rattle.answers.specs.Answers.{Answer, refused, wrong_period}
use Rattle.steps.specs.Step.{Taken, judged}
use Rattle.steps.specs.Ways.{next_is, whole}
use borrow.Author.Rules.{rules}
use Rattle.steps.proofs.step.judge_period.Goals.{After-read_period, Start}
use Rattle.steps.proofs.step.judge_period.Goals as goal

-- a refusal that names a part beside its number
abbrev with_part : ℕ → Refusal → Answer Taken
with_part part x = refused (record { number = x.number; position = x.position; part = part })

module _ (u : After-read_period) where
  told : u.read_period.result ≡ period_of u.args.st.wish u.args.segment.now
  told = u.read_period.ensures.period ∙ ap (period_of u.args.st.wish) (whole u.args.segment.now)

pub returns-in-Ok : goal.returns-in-Ok
returns-in-Ok c =
    let a = c.args in
    next_is c.onward.ensures c.row.ensures ∙ ap (judged a.st a.at a.segment.now a.place a.group) (sym c.in-Ok.is ∙ told (goal.at.returns-in-Ok c).After-read_period)

pub returns-in-Err : goal.returns-in-Err
returns-in-Err c =
    let a = c.args in
    ap (with_part c.number.result) c.at.ensures
    ∙ ap (wrong_period {A = Taken} a.at) c.number.ensures
    ∙ ap (judged a.st a.at a.segment.now a.place a.group) (sym c.in-Err.is ∙ told (goal.at.returns-in-Err c).After-read_period)
