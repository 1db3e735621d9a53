-- `in_message` meets its contract. Assumes nothing.
use mathlib.Core.Path.{sym, ap, ◌∙◌}
use Rattle.answers.specs.Answers.{Answer}
use Rattle.placing.specs.Table.{Table}
use Rattle.placing.specs.Tables.{apart_own, lent_own}
use Rattle.steps.specs.Step.{Taken, inside_message}
use borrow.Author.Rules.{rules}
use Rattle.steps.proofs.step.in_message.Goals.{After-is_12b}
use Rattle.steps.proofs.step.in_message.Goals as goal

-- the step by a table
module _ (s : After-is_12b) where
  abbrev by : Table → Answer Taken
  by t =
      let a = s.args in
      inside_message t a.st a.at a.segment.now a.reference.now

pub returns-then-is_12b : goal.returns-then-is_12b
returns-then-is_12b c =
    let a = c.args in
    c.next_segment.ensures
    ∙ ap (by (goal.at.returns-then-is_12b c).After-is_12b) (c.tsdupd_12b-own.ensures ∙ apart_own a.tables.now a.st.message (sym c.is_12b.ensures ∙ c.if-is_12b.true))

pub returns : goal.returns
returns c =
    let a = c.args in
    c.next_segment-2.ensures
    ∙ ap (by (goal.at.returns c).After-is_12b) (c.table_of.ensures ∙ lent_own a.tables.now a.st.message (sym c.is_12b.ensures ∙ c.if-is_12b.false))
