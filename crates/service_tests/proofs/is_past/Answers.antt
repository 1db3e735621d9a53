-- `is_past` meets its contract.
-- Assumes nothing.
use Rattle.service_tests.specs.Ways.{past_before, past_long, past_end}
use Rattle.service_tests.proofs.is_past.Goals as goal

pub returns-then-days-first : goal.returns-then-days-first
returns-then-days-first c = past_before c.args.first c.args.days.first c.args.days.count c.if-days-first.true

pub returns-then-days-gt512 : goal.returns-then-days-gt512
returns-then-days-gt512 c = past_long c.args.first c.args.days.first c.args.days.count c.if-days-first.false c.if-days-gt512.true

pub returns : goal.returns
returns c = past_end c.args.first c.args.days.first c.args.days.count c.if-days-first.false c.if-days-gt512.false
