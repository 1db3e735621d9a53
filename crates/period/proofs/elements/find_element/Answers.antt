-- `find_element` meets its contract.
-- Assumes nothing.
use Rattle.period.specs.Elements.{element_found_lem}
use Rattle.period.proofs.elements.find_element.Goals as goal

pub returns : goal.returns
returns c =
    let a = c.args in
    element_found_lem a.s.now a.segment a.e c.element-whole.ensures c.occurrence-once.ensures
