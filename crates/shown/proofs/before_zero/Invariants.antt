-- `shown::before_zero` meets its contract. Invariant: the bytes passed and those before the next zero make up the answer.
-- Assumes nothing.
use mathlib.Core.Path.{◌≡◌}
use Prim.Native.Nat.{◌+◌, ◌-◌}
use lib.ListN.{length, drop}
use Rattle.contents.specs.Written.{up_to_zero}
use Rattle.shown.proofs.before_zero.Given as goal

abbrev pub invariant-loop-i : goal.invariant-loop-i
invariant-loop-i l = l.i + length (up_to_zero (drop l.i l.text)) ≡ length (up_to_zero l.text)
