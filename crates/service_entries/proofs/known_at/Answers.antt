-- `known_at` meets its contract.
-- Assumes nothing.
use Rattle.service_entries.specs.Ways.{known_is}
use Rattle.service_entries.proofs.known_at.Goals as goal

pub returns : goal.returns
returns c = known_is c.args.room.now c.args.at
