-- `day_bits` meets its contract.
-- Assumes nothing.
use mathlib.Core.Path.{◌≡◌}
use Prim.Native.Nat.{ℕ, ◌+◌, ◌-◌, ◌≤◌, ◌<◌}
use lib.Dec.{eqb}
use lib.ListN.{get_or}
use Rattle.calendar.specs.Days.{has_bit}
use Rattle.joining.proofs.day_bits.Given as goal

abbrev pub invariant-loop-left : goal.invariant-loop-left
invariant-loop-left l = (l.left ≤ l.m) × ((j : ℕ) → j < l.m - l.left → has_bit l.bits j ≡ eqb (get_or l.text (l.from + l.left + j) 0) 49)

abbrev pub decreases-loop-left : goal.decreases-loop-left
decreases-loop-left l = l.left
