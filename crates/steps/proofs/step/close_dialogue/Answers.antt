use mathlib.Core.Path.{sym, ◌∙◌}
use Rattle.steps.specs.Ways.{next_is, closing_none, closing_good, closing_wrong}
use borrow.Author.Rules.{rules}
use Rattle.steps.proofs.step.close_dialogue.Goals as goal

pub returns-then-st-eq0 : goal.returns-then-st-eq0
returns-then-st-eq0 c =
    let a = c.args in
    c.refused.ensures ∙ closing_none a.st a.at a.segment.now a.dialogue.now c.if-st-eq0.true

pub returns-then-check_uiz : goal.returns-then-check_uiz
returns-then-check_uiz c =
    let a = c.args in
    next_is c.closed.ensures c.row.ensures
    ∙ closing_good a.st a.at a.segment.now a.dialogue.now c.if-st-eq0.false (sym c.check_uiz.ensures.uiz ∙ c.if-check_uiz.true)

pub returns : goal.returns
returns c =
    let a = c.args in
    c.refused-2.ensures ∙ closing_wrong a.st a.at a.segment.now a.dialogue.now (sym c.check_uiz.ensures.uiz ∙ c.if-check_uiz.false)
