-- `released` meets its contract.
-- Assumes nothing.
use native.Mathlib.Omega.{arith}
use Rattle.service_entries.specs.Numbers.{quiet_byte}
use Rattle.service_entries.proofs.numbers.released.Goals as goal

pub returns-then-b-eq63 : goal.returns-then-b-eq63
returns-then-b-eq63 c = (omega arith, λ q. absurd (omega arith))

pub returns-else-b-eq63 : goal.returns-else-b-eq63
returns-else-b-eq63 c = (omega arith, λ q. quiet_byte c.args.b c.if-b-eq63.false)
