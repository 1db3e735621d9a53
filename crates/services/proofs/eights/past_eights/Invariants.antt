-- `services::eights::past_eights` meets its contract: what is passed so far.
-- Assumes nothing.
use Prim.Native.Nat.{◌-◌}
use Rattle.services.specs.Inner.{key_of, Passes}
use Rattle.services.proofs.eights.past_eights.Given as goal

abbrev pub invariant-loop-i : goal.invariant-loop-i
invariant-loop-i l = Passes (key_of l.rows l.sought.column l.sought.turned) l.sought.bound l.from l.i

abbrev pub decreases-loop-i : goal.decreases-loop-i
decreases-loop-i l = l.end - l.i
