-- `services::test_service` meets its contract.
-- Assumes nothing.
use mathlib.Core.Path.{sym, ap, ◌∙◌}
use Rattle.answers.specs.Answers.{refused}
use Rattle.services.specs.Ways.{tested_wrong, tested_twice, tested_good}
use Rattle.services.proofs.test_service.Goals as goal

pub returns-then-is_wrong : goal.returns-then-is_wrong
returns-then-is_wrong c =
    let a = c.args in
    ap refused c.at.ensures ∙ tested_wrong a.s.now a.rows.now a.service (sym c.is_wrong.ensures ∙ c.if-is_wrong.true)

pub returns-then-is_twice : goal.returns-then-is_twice
returns-then-is_twice c =
    let a = c.args in
    ap refused c.at-then-is_twice.ensures ∙ tested_twice a.s.now a.rows.now a.service (sym c.is_wrong.ensures ∙ c.if-is_wrong.false) c.bytes_of.result.now c.bytes_of.ensures (sym c.is_twice.ensures ∙ c.if-is_twice.true)

pub returns : goal.returns
returns c =
    let a = c.args in
    tested_good a.s.now a.rows.now a.service (sym c.is_wrong.ensures ∙ c.if-is_wrong.false) c.bytes_of.result.now c.bytes_of.ensures (sym c.is_twice.ensures ∙ c.if-is_twice.false)
