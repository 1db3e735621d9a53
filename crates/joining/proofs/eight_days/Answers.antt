-- `eight_days` meets its contract.
-- Assumes nothing.
use Prim.Native.Nat.{◌*◌, ◌/◌, ◌%◌, ◌^◌}
use native.Mathlib.Omega.{arith}
use lib.Bits.{mask_lt}
use Rattle.joining.specs.Eights.{eight_from}
use Rattle.joining.proofs.eight_days.Goals as goal

pub overflow_cast-result : goal.overflow_cast-result
overflow_cast-result c =
    let h = mask_lt (c.args.week / 2 * 129 / 2 ^ (c.args.first % 7)) 8 in
    omega arith

pub returns : goal.returns
returns c = eight_from c.args.week c.args.first (omega arith)
