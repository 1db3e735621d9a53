-- `lines::number` reads the digits from the left.
-- Assumes nothing.
use Prim.Native.Nat.{◌<◌}
use mathlib.Core.Path.{◌≡◌}
use lib.ListN.{drop}
use Rattle.lines.specs.Numbers.{last_of, value_on, number_said}
use Rattle.lines.proofs.number.Given as goal

abbrev pub invariant-loop-i : goal.invariant-loop-i
invariant-loop-i l = (l.value < 10000000000000000000) × (last_of (value_on l.value (drop l.i l.s)) ≡ number_said l.s l.from)
