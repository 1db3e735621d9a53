-- `next_eight` meets its contract.
-- Assumes nothing.
use native.Mathlib.Omega.{arith}
use Rattle.joining.specs.Eights.{turned_bit}
use Rattle.joining.proofs.next_eight.Goals as goal

pub returns : goal.returns
returns c = turned_bit c.args.eight (omega arith)
