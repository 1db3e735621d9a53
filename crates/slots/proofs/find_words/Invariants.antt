-- `slots::find_words` meets its contract. Invariant: halving between lo and hi, with halvings left, leads to the answer.
-- Assumes nothing.
use Rattle.std.proofs.Common.{◌≡◌, ℕ, ◌+◌, ◌-◌, ◌/◌, ◌≤◌, length}
use Rattle.slots.specs.Find.{slot_order, halve, find_of}
use Rattle.slots.proofs.find_words.Given as goal

abbrev pub invariant-loop-lo : goal.invariant-loop-lo
invariant-loop-lo l = (l.hi ≤ length l.room / 140) × ((f : ℕ) × (l.hi ≤ l.lo + f) × (halve (slot_order l.room l.number) f l.lo l.hi ≡ find_of l.room l.number))

abbrev pub decreases-loop-lo : goal.decreases-loop-lo
decreases-loop-lo l = l.hi - l.lo
