-- `services::rows::offset_of` meets its contract.
-- Assumes nothing.
use Rattle.services.specs.Search.{offset_some, offset_none}
use Rattle.services.proofs.rows.offset_of.Goals as goal

pub returns-then-i-rows : goal.returns-then-i-rows
returns-then-i-rows c =
    let a = c.args in
    offset_some a.rows.now a.i c.if-i-rows.true

pub returns : goal.returns
returns c =
    let a = c.args in
    offset_none a.rows.now a.i c.if-i-rows.false
