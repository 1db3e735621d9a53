use mathlib.Core.Path.{◌∙◌}
use Rattle.parts.specs.Located.{element_none, element_some}
use Rattle.parts.proofs.element.Goals as goal

pub returns-then-e-eq0 : goal.returns-then-e-eq0
returns-then-e-eq0 c =
    let a = c.args in
    c.none.ensures ∙ element_none a.s.now a.segment a.e c.if-e-eq0.true

pub returns : goal.returns
returns c =
    let a = c.args in
    c.piece.ensures ∙ element_some a.s.now a.segment a.e c.if-e-eq0.false
