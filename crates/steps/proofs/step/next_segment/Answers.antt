use mathlib.Core.Path.{◌≡◌, sym, ap, ◌∙◌}
use Prim.Native.Nat.{ℕ}
use Rattle.syntax.specs.Segment.{tag_number}
use Rattle.placing.specs.Rule.{step_of}
use Rattle.steps.specs.Step.{placed}
use Rattle.steps.specs.Ways.{inside_placed, inside_out}
use borrow.Author.Rules.{rules}
use Rattle.steps.proofs.step.next_segment.Goals.{After-step}
use Rattle.steps.proofs.step.next_segment.Goals as goal

module _ (u : After-step) where
  told : u.step.result ≡ step_of u.args.table.now u.args.st.place (tag_number u.args.segment.now)
  told =
      let a = u.args in
      u.step.ensures.step ∙ ap (step_of a.table.now a.st.place) u.tag_at.ensures

pub returns-in-Some : goal.returns-in-Some
returns-in-Some c =
    let a = c.args in
    c.take_segment.ensures
    ∙ ap (λ (x : ℕ). placed a.st a.at a.segment.now a.reference.now x c.in-Some.p) c.group.ensures
    ∙ inside_placed a.st a.at a.segment.now a.table.now a.reference.now c.in-Some.p (sym (told (goal.at.returns-in-Some c).After-step) ∙ c.in-Some.is)

pub returns-in-None : goal.returns-in-None
returns-in-None c =
    let a = c.args in
    c.refused.ensures ∙ inside_out a.st a.at a.segment.now a.table.now a.reference.now (sym (told (goal.at.returns-in-None c).After-step) ∙ c.in-None.is)
