-- `texts_in` meets its contract.
-- Assumes nothing.
use mathlib.Core.Path.{refl}
use native.Mathlib.Omega.{arith}
use lib.Bits.{bit_or, bit_xor, and_le_r}
use Rattle.syntax.specs.Texts.{texts_of}
use Rattle.syntax.proofs.marks.texts_in.Goals as goal

pub overflow_add-result : goal.overflow_add-result
overflow_add-result c = let h = and_le_r (bit_xor (bit_or c.args.x 1229782938247303441) 4268070197446523707) 9187201950435737471 in omega arith

pub returns : goal.returns
unfolding texts_of
returns c = refl
