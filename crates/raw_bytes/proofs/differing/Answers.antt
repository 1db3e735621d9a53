-- `differing` meets its contract.
-- Assumes nothing.
use mathlib.Core.Path.{refl}
use native.Mathlib.Omega.{arith}
use lib.Bits.{bit_xor, and_le_r}
use Rattle.raw_bytes.specs.Differing.{differs_of}
use Rattle.raw_bytes.proofs.differing.Goals as goal

pub overflow_add-result : goal.overflow_add-result
overflow_add-result c =
    let a = c.args in
    omega (arith, and_le_r (bit_xor a.word a.pattern) 9187201950435737471, and_le_r a.room 9187201950435737471)

pub returns : goal.returns
unfolding differs_of
returns c = refl
