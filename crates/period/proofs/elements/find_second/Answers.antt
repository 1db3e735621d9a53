-- `find_second` meets its contract.
-- Assumes nothing.
use Rattle.period.specs.Second.{second_found}
use Rattle.period.proofs.elements.find_second.Goals as goal

pub returns : goal.returns
returns c =
    second_found c.args.s.now c.args.segment c.requires c.if-whole-eq0.false c.find_element-2.ensures
