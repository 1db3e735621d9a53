-- `services::is_removal` meets its contract.
-- Assumes nothing.
use mathlib.Core.Path.{refl}
use Rattle.messages.specs.Tags.{MSD}
use Rattle.services.specs.Rows.{is_row}
use Rattle.services.specs.Search.{found_row, found_no_row}
use Rattle.services.specs.Ways.{removes_none, removes_some}
use Rattle.services.proofs.is_removal.Goals as goal

pub returns-in-None : goal.returns-in-None
returns-in-None c =
    let a = c.args in
    removes_none a.s.now a.rows.now a.from a.to _ refl (found_no_row (is_row a.rows.now 2 MSD) a.from a.to c.first_row.result c.first_row.ensures c.in-None.is)

pub returns-in-Some : goal.returns-in-Some
returns-in-Some c =
    let a = c.args in
    let w = found_row (is_row a.rows.now 2 MSD) a.from a.to c.first_row.result c.first_row.ensures c.in-Some.k c.in-Some.is in
    removes_some a.s.now a.rows.now a.from a.to c.in-Some.k w.0 c.offset_of.result c.says_removal.result c.offset_of.ensures c.says_removal.ensures w.1
