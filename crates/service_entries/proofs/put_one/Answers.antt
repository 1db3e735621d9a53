-- `put_one` meets its contract.
-- Assumes nothing.
use Rattle.service_entries.specs.Ways.{puts_not, puts_one}
use Rattle.service_entries.proofs.put_one.Goals as goal

pub returns-then-service : goal.returns-then-service
returns-then-service c =
    let a = c.args in
    record {
      left = puts_not a.first a.s.now a.rows.now a.service a.room.now c.if-service.true;
      zeros = c.requires;
    }

pub returns : goal.returns
returns c =
    let a = c.args in
    record {
      left = puts_one a.first a.s.now a.rows.now a.service a.room.now c.if-service.false c.number_of.result c.days_of-days.result c.entry_of.result c.put_service.new.room
          c.number_of.ensures c.days_of-days.ensures c.entry_of.ensures c.put_service.ensures.left;
      zeros = c.put_service.ensures.zeros;
    }
