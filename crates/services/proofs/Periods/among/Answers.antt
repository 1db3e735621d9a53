-- `Periods::among` meets its contract.
-- Assumes nothing.
use mathlib.Core.Path.{refl}
use Rattle.services.specs.Walks.{periods_left}
use Rattle.services.proofs.Periods.among.Goals as goal

pub returns : goal.returns
unfolding periods_left
returns c = refl
