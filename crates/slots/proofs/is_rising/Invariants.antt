-- `slots::is_rising` meets its contract. Invariant: the slots from the one before k on rise exactly when all do.
-- Assumes nothing.
use Rattle.std.proofs.Common.{◌≡◌, ◌-◌, drop}
use Rattle.slots.specs.Slots.{slots_of}
use Rattle.slots.specs.Rising.{rising}
use Rattle.slots.proofs.is_rising.Given as goal

abbrev pub invariant-loop-k : goal.invariant-loop-k
invariant-loop-k l = rising (drop (l.k - 1) (slots_of l.room)) ≡ rising (slots_of l.room)
