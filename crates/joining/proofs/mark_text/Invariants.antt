-- `mark_text` meets its contract.
-- Assumes nothing.
use mathlib.Core.Path.{◌≡◌}
use mathlib.Core.Bool.{Bool}
use mathlib.Core.List.{List}
use Prim.Native.Nat.{ℕ, ◌+◌, ◌-◌, ◌%◌}
use lib.Dec.{eqb}
use lib.ListN.{length, get_or}
use Rattle.joining.specs.Joined.{marked}
use Rattle.joining.proofs.mark_text.Given as goal

abbrev pub on : List ℕ → ℕ → Bool
on text k = eqb (get_or text k 0) 49

abbrev pub invariant-loop-word : goal.invariant-loop-word
invariant-loop-word l =
    ((l.at + l.k) % 8 ≡ 0) × (length l.days ≡ length l.initial.days) × (marked (on l.text) l.days l.at l.k (l.n - l.k) ≡ marked (on l.text) l.initial.days l.at l.initial.k (l.n - l.initial.k))

abbrev pub decreases-loop-word : goal.decreases-loop-word
decreases-loop-word l = l.n - l.k
