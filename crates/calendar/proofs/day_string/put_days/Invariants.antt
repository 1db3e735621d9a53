-- `put_days` meets its contract: after k turns the first k characters are pasted at the offset.
-- Assumes nothing.
use mathlib.Core.Path.{◌≡◌}
use Prim.Native.Nat.{◌+◌, ◌≤◌}
use lib.ListN.{length}
use lib.Seq.{paste}
use Rattle.calendar.specs.Written.{day_characters}
use Rattle.calendar.proofs.day_string.put_days.Given as goal

abbrev pub invariant-loop-k : goal.invariant-loop-k
invariant-loop-k l = (l.at + l.n ≤ length l.initial.out) × (length l.out ≡ length l.initial.out) × (l.out ≡ paste l.initial.out l.at (day_characters l.days 0 l.n) l.k)
