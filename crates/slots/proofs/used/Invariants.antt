-- `slots::used` meets its contract. Invariant: those passed and those that still lead are all that lead.
-- Assumes nothing.
use Rattle.std.proofs.Common.{◌≡◌, ◌+◌, drop}
use Rattle.slots.specs.Slots.{slots_of}
use Rattle.slots.specs.Rising.{leading}
use Rattle.slots.proofs.used.Given as goal

abbrev pub invariant-loop-k : goal.invariant-loop-k
invariant-loop-k l = l.k + leading (drop l.k (slots_of l.room)) ≡ leading (slots_of l.room)
