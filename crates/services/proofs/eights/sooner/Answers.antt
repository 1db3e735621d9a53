-- `services::eights::sooner` meets its contract.
-- Assumes nothing.
use native.Mathlib.Omega.{arith}
use Prim.Native.Nat.{◌+◌}
use Rattle.services.specs.Inner.{key_of, passes_start, passes_one, passes_on}
use Rattle.services.proofs.eights.sooner.Goals as goal

pub returns-then-key_of-sought : goal.returns-then-key_of-sought
returns-then-key_of-sought c =
    let g = c.args in
    passes_start (key_of g.rows.now g.sought.column g.sought.turned) g.sought.bound g.i

pub returns-else-key_of-sought : goal.returns-else-key_of-sought
returns-else-key_of-sought c =
    let g = c.args in
    let f = key_of g.rows.now g.sought.column g.sought.turned in
    let e = c.key_of.ensures in
    let l = c.if-key_of-sought.false in
    passes_on f g.sought.bound g.i (g.i + 1) g.later (passes_one f g.sought.bound g.i (omega arith)) c.requires.2
