-- `passes_in` meets its contract.
-- Assumes nothing.
use mathlib.Core.Path.{refl}
use Prim.Native.Nat.{◌+◌}
use native.Mathlib.Omega.{arith}
use lib.Bits.{bit_and, and_le_r}
use Rattle.syntax.specs.Passed.{passes_of}
use Rattle.syntax.proofs.ends.passes_in.Goals as goal

pub overflow_add-result : goal.overflow_add-result
overflow_add-result c = let h = and_le_r c.args.x 9187201950435737471 in omega arith

pub overflow_add-result-2 : goal.overflow_add-result-2
overflow_add-result-2 c = let h = and_le_r (bit_and c.args.x 9187201950435737471 + 361700864190383365) 2242545357980376863 in omega arith

pub overflow_add-result-3 : goal.overflow_add-result-3
overflow_add-result-3 c = let h = and_le_r c.args.x 9187201950435737471 in omega arith

pub returns : goal.returns
unfolding passes_of
returns c = refl
