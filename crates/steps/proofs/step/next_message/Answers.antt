use mathlib.Core.Path.{sym, ◌∙◌}
use Rattle.steps.specs.Ways.{between_uih, between_uiz, between_other}
use borrow.Author.Rules.{rules}
use Rattle.steps.proofs.step.next_message.Goals as goal

pub returns-then-tag-eq-UIH : goal.returns-then-tag-eq-UIH
returns-then-tag-eq-UIH c =
    let a = c.args in
    c.head_message.ensures ∙ between_uih a.st a.at a.segment.now a.dialogue.now (sym c.tag_at-tag.ensures ∙ c.if-tag-eq-UIH.true)

pub returns-then-tag-eq-UIZ : goal.returns-then-tag-eq-UIZ
returns-then-tag-eq-UIZ c =
    let a = c.args in
    c.close_dialogue.ensures
    ∙ between_uiz a.st a.at a.segment.now a.dialogue.now (λ e. c.if-tag-eq-UIH.false (c.tag_at-tag.ensures ∙ e)) (sym c.tag_at-tag.ensures ∙ c.if-tag-eq-UIZ.true)

pub returns : goal.returns
returns c =
    let a = c.args in
    c.refused.ensures
    ∙ between_other a.st a.at a.segment.now a.dialogue.now (λ e. c.if-tag-eq-UIH.false (c.tag_at-tag.ensures ∙ e)) (λ e. c.if-tag-eq-UIZ.false (c.tag_at-tag.ensures ∙ e))
