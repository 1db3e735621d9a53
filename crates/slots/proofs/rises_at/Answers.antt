-- `slots::rises_at` meets its contract.
-- Assumes nothing.
use Rattle.std.proofs.Common.{◌+◌, ◌-◌, ◌∙◌, arith}
use Rattle.slots.specs.Rising.{rises_told}
use Rattle.slots.proofs.rises_at.Goals as goal

pub returns : goal.returns
returns c =
    let a = c.args in
    c.is_lt.ensures ∙ rises_told a.room.now a.at (a.at + 140) (a.at + 10 - a.at) (a.at + 140 + 10 - (a.at + 140)) (omega arith) (omega arith) c.compare.result c.compare.ensures
