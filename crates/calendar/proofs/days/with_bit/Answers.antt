-- `with_bit` meets its contract.
-- Assumes nothing.
use Prim.Native.Nat.{◌%◌}
use native.Mathlib.Omega.{arith}
use Rattle.calendar.specs.Days.{with_bit}
use Rattle.calendar.specs.Bits.{shifted}
use Rattle.calendar.proofs.days.with_bit.Goals as goal

pub returns : goal.returns
unfolding with_bit
returns c = rw (shifted (c.args.k % 8) (omega arith))
