use mathlib.Core.Path.{sym, ◌∙◌}
use Rattle.steps.specs.Ways.{next_is, opening_other, opening_good, opening_wrong}
use borrow.Author.Rules.{rules}
use Rattle.steps.proofs.step.open_dialogue.Goals as goal

pub returns-then-tag_at-ne-UIB : goal.returns-then-tag_at-ne-UIB
returns-then-tag_at-ne-UIB c =
    let a = c.args in
    c.refused.ensures ∙ opening_other a.st a.at a.segment.now (λ e. c.if-tag_at-ne-UIB.true (c.tag_at.ensures ∙ e))

pub returns-in-Some : goal.returns-in-Some
returns-in-Some c =
    let a = c.args in
    next_is c.opened.ensures c.row.ensures
    ∙ opening_good a.st a.at a.segment.now (sym c.tag_at.ensures ∙ c.if-tag_at-ne-UIB.false) c.in-Some.dialogue (sym c.read_uib.ensures.uib ∙ c.in-Some.is)

pub returns-in-None : goal.returns-in-None
returns-in-None c =
    let a = c.args in
    c.refused-in-None.ensures
    ∙ opening_wrong a.st a.at a.segment.now (sym c.tag_at.ensures ∙ c.if-tag_at-ne-UIB.false) (sym c.read_uib.ensures.uib ∙ c.in-None.is)
