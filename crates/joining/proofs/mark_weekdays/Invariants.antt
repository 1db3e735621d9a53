-- `mark_weekdays` meets its contract.
-- Assumes nothing.
use mathlib.Core.Path.{◌≡◌}
use mathlib.Core.Bool.{Bool}
use Prim.Native.Nat.{ℕ, ◌+◌, ◌-◌, ◌*◌, ◌≤◌, ◌<◌}
use lib.ListN.{length}
use Rattle.dates.specs.Days.{weekday_of}
use Rattle.calendar.specs.Days.{has_bit}
use Rattle.joining.specs.Joined.{marked}
use Rattle.joining.proofs.mark_weekdays.Given as goal

abbrev pub on : ℕ → ℕ → ℕ → Bool
on week first k = has_bit week (weekday_of (first + k))

abbrev pub invariant-loop-i : goal.invariant-loop-i
invariant-loop-i l =
    (l.at ≤ 8 * l.i) × (8 * l.i ≤ l.at + l.n + 8) × (length l.days ≡ length l.initial.days) × (l.eight < 256) × ((j : ℕ) → j < 8 → has_bit l.eight j ≡ on l.week l.first (8 * l.i - l.at + j))
    × (marked (on l.week l.first) l.days l.at (8 * l.i - l.at) (l.n - (8 * l.i - l.at)) ≡ marked (on l.week l.first) l.initial.days l.at (8 * l.initial.i - l.at) (l.n - (8 * l.initial.i - l.at)))

abbrev pub decreases-loop-i : goal.decreases-loop-i
decreases-loop-i l = l.last - l.i
