-- `services::rows::is_row` meets its contract.
-- Assumes nothing.
use mathlib.Core.Path.{sym}
use Rattle.services.specs.Search.{row_other, row_group}
use Rattle.services.proofs.rows.is_row.Goals as goal

pub returns-then-rows-i : goal.returns-then-rows-i
returns-then-rows-i c =
    sym (row_other c.args.rows.now c.args.group c.args.tag c.args.i c.requires c.if-rows-i.true)

pub returns : goal.returns
returns c =
    sym (row_group c.args.rows.now c.args.group c.args.tag c.args.i c.requires c.if-rows-i.false)
