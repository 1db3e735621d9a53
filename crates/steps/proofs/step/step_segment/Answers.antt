use mathlib.Core.Path.{◌≡◌, sym, ap, ◌∙◌}
use Rattle.answers.specs.Answers.{Answer}
use Rattle.steps.specs.declared.state.Phase.{Phase}
use Rattle.steps.specs.declared.state.Phase.TheVariants.{Opening, Between, Inside, Closed}
use Rattle.steps.specs.Step.{Taken, step_by}
use borrow.Author.Rules.{rules}
use Rattle.steps.proofs.step.step_segment.Goals.{After-shared_slice_known-3-1}
use Rattle.steps.proofs.step.step_segment.Goals as goal

-- the step of a phase is the step of the state that is in it
module _ (s : After-shared_slice_known-3-1) where
  abbrev by : Phase → Answer Taken
  by f =
      let a = s.args in
      step_by a.tables.now f a.st a.at a.segment.now a.dialogue.now a.reference.now

  known : (f : Phase) → s.args.st.phase ≡ f → by f ≡ by s.args.st.phase
  known f e = ap by (sym e)

pub returns-in-Opening : goal.returns-in-Opening
unfolding step_by
returns-in-Opening c =
    c.open_dialogue.ensures ∙ known (goal.at.returns-in-Opening c).After-shared_slice_known-3-1 Opening c.in-Opening.is

pub returns-in-Between : goal.returns-in-Between
unfolding step_by
returns-in-Between c =
    c.next_message.ensures ∙ known (goal.at.returns-in-Between c).After-shared_slice_known-3-1 Between c.in-Between.is

pub returns-in-Inside : goal.returns-in-Inside
unfolding step_by
returns-in-Inside c =
    c.in_message.ensures ∙ known (goal.at.returns-in-Inside c).After-shared_slice_known-3-1 Inside c.in-Inside.is

pub returns-in-Closed : goal.returns-in-Closed
unfolding step_by
returns-in-Closed c =
    c.refused.ensures ∙ known (goal.at.returns-in-Closed c).After-shared_slice_known-3-1 Closed c.in-Closed.is
