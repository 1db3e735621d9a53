-- `mark_of` meets its contract.
-- Assumes nothing.
use native.Mathlib.Omega.{arith}
use lib.Bits.{bit_or}
use lib.Dec.{eqb}
use Rattle.syntax.specs.Few.{byte_unit, mark_sum}
use Rattle.syntax.proofs.marks.mark_of.Goals as goal

pub overflow_add-result : goal.overflow_add-result
overflow_add-result c = let x = byte_unit (eqb (bit_or c.args.b 1) 43) in let y = byte_unit (eqb c.args.b 58) in omega arith

pub returns : goal.returns
returns c = mark_sum c.args.b (omega arith)
