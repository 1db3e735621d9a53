-- `slot_check::is_number` meets its contract. Invariant: the word left is that of the bytes behind those seen.
-- Assumes nothing.
use lib.ListN.{take}
use Rattle.slot_check.specs.Word.{Rest, live}
use Rattle.slot_check.proofs.is_number.Given as goal

abbrev pub invariant-loop-left : goal.invariant-loop-left
invariant-loop-left l = Rest (take 10 l.slot) l.left

abbrev pub decreases-loop-left : goal.decreases-loop-left
decreases-loop-left l = live 8 l.left
