-- `is_quiet` meets its contract: as long as nothing is counted, none of the bytes so far is the mark.
-- Assumes nothing.
use mathlib.Core.Path.{◌≡◌}
use mathlib.Core.Bool.{true}
use Prim.Native.Nat.{◌≤◌}
use lib.ListN.{take}
use Rattle.laws.specs.Choice.{all}
use Rattle.free_texts.specs.Free.{quiet}
use Rattle.service_entries.proofs.numbers.is_quiet.Given as goal

abbrev pub invariant-loop-b : goal.invariant-loop-b
invariant-loop-b l = (l.count ≤ l.b-index) × (l.count ≡ 0 → all (quiet 63) (take l.b-index l.number) ≡ true)
