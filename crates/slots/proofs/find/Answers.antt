-- `slots::find` meets its contract.
-- Assumes nothing.
use Rattle.std.proofs.Common.{sym, ◌∙◌}
use Rattle.slots.specs.Steps.{none_found}
use Rattle.slots.proofs.find.Goals as goal

pub returns-then-byte_at-eq0 : goal.returns-then-byte_at-eq0
returns-then-byte_at-eq0 c =
    let a = c.args in
    none_found a.room.now a.number.now (sym c.byte_at.ensures.0 ∙ c.if-byte_at-eq0.true)
