-- `are_plain` meets its contract.
-- Assumes nothing.
use mathlib.Core.Path.{ap₂}
use Prim.Native.Nat.{ℕ}
use lib.Bits.{bit_and}
use lib.Dec.{eqb}
use Rattle.parts.proofs.ends.are_plain.Goals as goal

pub returns : goal.returns
returns c = ap₂ (λ (x y : ℕ). eqb (bit_and x y) 9259542123273814144) c.differing.ensures c.differing-2.ensures
