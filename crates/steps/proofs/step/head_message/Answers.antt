use mathlib.Core.Path.{sym, ap, ◌∙◌}
use Rattle.std.specs.Prelude.{Err}
use Rattle.envelope.specs.declared.HeadError.{HeadError}
use Rattle.steps.specs.Step.{headed}
use Rattle.steps.specs.Ways.{next_is}
use borrow.Author.Rules.{rules}
use Rattle.steps.proofs.step.head_message.Goals as goal

pub returns-in-Ok : goal.returns-in-Ok
returns-in-Ok c =
    let a = c.args in
    next_is c.headed.ensures c.row.ensures ∙ ap (headed a.st a.at a.segment.now) (sym c.in-Ok.is ∙ c.read_uih.ensures.uih)

pub returns-in-Err-Missing : goal.returns-in-Err-Missing
returns-in-Err-Missing c =
    let a = c.args in
    c.refused.ensures
    ∙ ap (λ (x : HeadError). headed a.st a.at a.segment.now (Err x)) (sym c.in-Err-Missing.field-0-is)
    ∙ ap (headed a.st a.at a.segment.now) (sym c.in-Err-Missing.is ∙ c.read_uih.ensures.uih)

pub returns-in-Err-Unknown : goal.returns-in-Err-Unknown
returns-in-Err-Unknown c =
    let a = c.args in
    c.refused-in-Err-Unknown.ensures
    ∙ ap (λ (x : HeadError). headed a.st a.at a.segment.now (Err x)) (sym c.in-Err-Unknown.field-0-is)
    ∙ ap (headed a.st a.at a.segment.now) (sym c.in-Err-Unknown.is ∙ c.read_uih.ensures.uih)
