-- `envelope::check_uit` meets its contract.
-- Assumes nothing.
use Rattle.envelope.specs.Said.{trailer_said}
use Rattle.envelope.proofs.check_uit.Goals as goal

pub returns : goal.returns
returns c = record { uit = (trailer_said c.check_trailer.ensures).0; said = (trailer_said c.check_trailer.ensures).1 }
