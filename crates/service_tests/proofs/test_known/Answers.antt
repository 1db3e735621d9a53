-- `test_known` meets its contract.
-- Assumes nothing.
use mathlib.Core.Path.{ap, ◌∙◌}
use Rattle.answers.specs.Answers.{refused}
use Rattle.service_entries.specs.Room.{held_at}
use Rattle.service_tests.specs.Ways.{known_refused, known_counted, removals_is}
use Rattle.service_tests.proofs.test_known.Goals as goal

pub returns-then-is_unknown : goal.returns-then-is_unknown
returns-then-is_unknown c =
    let a = c.args in
    ap refused c.at.ensures
    ∙ known_refused a.service.removal a.service.prd (held_at a.room.now a.number) a.totals c.held-known.result c.held-known.ensures c.is_unknown.result c.is_unknown.ensures c.if-is_unknown.true

pub returns : goal.returns
returns c =
    let a = c.args in
    known_counted a.service.removal a.service.prd (held_at a.room.now a.number) a.totals c.held-known.result c.held-known.ensures c.is_unknown.result c.is_unknown.ensures c.if-is_unknown.false
    c.added_by.result c.dropped_by.result c.from.result c.added_by.ensures.0 c.dropped_by.ensures.0 (c.from.ensures ∙ removals_is a.service.removal)
