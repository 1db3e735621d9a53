-- `remove_one` meets its contract.
-- Assumes nothing.
use borrow.Author.Tests.{not-true, not-false}
use Rattle.service_entries.specs.Ways.{removes_not, removes_one}
use Rattle.service_entries.proofs.remove_one.Goals as goal

pub returns-then-not-service : goal.returns-then-not-service
returns-then-not-service c =
    let a = c.args in
    removes_not a.s.now a.service a.room.now (not-true _ c.if-not-service.true)

pub returns : goal.returns
returns c =
    let a = c.args in
    removes_one a.s.now a.service a.room.now (not-false _ c.if-not-service.false) c.number_of.result c.remove_service.new.room c.number_of.ensures c.remove_service.ensures
