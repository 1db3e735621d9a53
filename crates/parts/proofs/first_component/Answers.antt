use mathlib.Core.Path.{◌∙◌}
use Rattle.parts.specs.Component.{component_absent, component_first}
use Rattle.parts.proofs.first_component.Goals as goal

pub returns-then-e-eq0 : goal.returns-then-e-eq0
returns-then-e-eq0 c =
    let a = c.args in
    c.none.ensures ∙ component_absent a.s.now a.segment a.e c.if-e-eq0.true

pub returns : goal.returns
returns c =
    let a = c.args in
    c.component_from.ensures
    ∙ component_first a.s.now a.segment c.rest_from-rest.result a.e c.if-e-eq0.false c.rest_from-rest.ensures
