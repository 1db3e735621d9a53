-- `closes` meets its contract.
-- Assumes nothing.
use native.Mathlib.Omega.{arith}
use lib.Bits.{xor_lt}
use lib.Dec.{lit≤}
use Rattle.syntax.specs.Quick.{close_two}
use Rattle.syntax.proofs.segment.closes.Goals as goal

pub overflow_cast-result : goal.overflow_cast-result
overflow_cast-result c = let h = xor_lt 8 c.args.b 39 (omega (arith, c.ranges.b)) (lit≤ tt) in omega arith

pub overflow_mul-result : goal.overflow_mul-result
overflow_mul-result c = let h = xor_lt 8 c.args.b 39 (omega (arith, c.ranges.b)) (lit≤ tt) in omega arith

pub returns : goal.returns
returns c = close_two c.args.b c.args.n
