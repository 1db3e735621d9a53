-- `gaps::gathered` meets its contract. Invariant: the bits gathered are 0 and the rest is zero exactly when they were at the start.
-- Assumes nothing.
use Rattle.std.proofs.Common.{◌≡◌, eqb}
use Rattle.laws.specs.Choice.{both}
use Rattle.gaps.specs.Zero.{all_zero, zero_on}
use Rattle.gaps.proofs.gathered.Given as goal

abbrev pub invariant-loop-byte : goal.invariant-loop-byte
invariant-loop-byte l = zero_on l.bytes l.byte-index l.all ≡ both (eqb l.before 0) (all_zero l.bytes)
