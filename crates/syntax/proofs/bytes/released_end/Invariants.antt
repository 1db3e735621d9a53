use mathlib.Core.Path.{◌≡◌}
use Prim.Native.Nat.{◌+◌, ◌-◌, ◌*◌}
use lib.ListN.{length, drop}
use Rattle.syntax.specs.Released.{release_run}
use Rattle.syntax.proofs.bytes.released_end.Given as goal

abbrev pub invariant-loop-i : goal.invariant-loop-i
invariant-loop-i l = (l.last + 2 ≡ length l.s) × (l.i + 2 * release_run (drop l.i l.s) ≡ l.from + 2 * release_run (drop l.from l.s))

abbrev pub decreases-loop-i : goal.decreases-loop-i
decreases-loop-i l = length l.s - l.i
