-- `eight_bits` meets its contract.
-- Assumes nothing.
use mathlib.Core.Path.{refl}
use Prim.Native.Nat.{◌+◌, ◌*◌, ◌/◌, ◌^◌}
use native.Mathlib.Omega.{arith}
use lib.Bits.{bit_and, and_le_r}
use Rattle.joining.specs.Gathered.{gathered_of}
use Rattle.joining.proofs.eight_bits.Goals as goal

pub overflow_add-pairs : goal.overflow_add-pairs
overflow_add-pairs c = omega (arith, and_le_r c.args.word 72340172838076673)

pub overflow_mul-result : goal.overflow_mul-result
overflow_mul-result c =
    let b = bit_and c.args.word 72340172838076673 in
    omega (arith, and_le_r (b + b / 2 ^ 28) 4294967295)

pub overflow_cast-result : goal.overflow_cast-result
overflow_cast-result c =
    let b = bit_and c.args.word 72340172838076673 in
    omega (arith, and_le_r (bit_and (b + b / 2 ^ 28) 4294967295 * 2113665 / 2 ^ 21) 255)

pub returns : goal.returns
unfolding gathered_of
returns c = refl
