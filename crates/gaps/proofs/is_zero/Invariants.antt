-- `gaps::is_zero` meets its contract. Invariant: the bits gathered are 0 and the runs that are left are zero exactly when all runs are.
-- Assumes nothing.
use Rattle.std.proofs.Common.{◌≡◌, eqb, drop}
use Rattle.laws.specs.Choice.{both}
use Rattle.gaps.specs.Zero.{zero_runs}
use Rattle.gaps.proofs.is_zero.Given as goal

abbrev pub invariant-loop-run : goal.invariant-loop-run
invariant-loop-run l = both (eqb l.all 0) (zero_runs (drop l.run-index l.runs)) ≡ zero_runs l.runs
