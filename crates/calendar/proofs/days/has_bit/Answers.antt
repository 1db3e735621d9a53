-- `has_bit` meets its contract.
-- Assumes nothing.
use mathlib.Core.Path.{ap}
use Prim.Native.Nat.{ℕ, ◌/◌, ◌%◌, ◌^◌}
use lib.Bits.{and_mask}
use lib.Dec.{eqb}
use Rattle.calendar.specs.Days.{has_bit}
use Rattle.calendar.proofs.days.has_bit.Goals as goal

pub returns : goal.returns
unfolding has_bit
returns c =
    let a = c.args in
    ap (λ (x : ℕ). eqb x 1) (and_mask (a.byte / 2 ^ (a.k % 8)) 1)
