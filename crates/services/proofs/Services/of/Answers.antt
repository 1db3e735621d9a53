-- `Services::of` meets its contract.
-- Assumes nothing.
use mathlib.Core.Path.{refl}
use Rattle.services.specs.Walks.{services_left}
use Rattle.services.proofs.Services.of.Goals as goal

pub returns : goal.returns
unfolding services_left
returns c = refl
