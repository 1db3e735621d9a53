-- `ten_at` meets its contract: so far as much of the text is put as there is.
-- Assumes nothing.
use mathlib.Core.Path.{◌≡◌}
use Prim.Native.Nat.{min}
use lib.ListN.{take, drop, replicate}
use lib.Seq.{paste}
use Rattle.service_entries.proofs.numbers.ten_at.Given as goal

abbrev pub invariant-loop-i : goal.invariant-loop-i
invariant-loop-i l = l.ten ≡ paste (replicate 10 0) 0 (take l.n (drop l.from l.s)) (min l.i l.n)
