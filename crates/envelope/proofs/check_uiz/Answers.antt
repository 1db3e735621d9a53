-- `envelope::check_uiz` meets its contract.
-- Assumes nothing.
use Rattle.envelope.specs.Said.{trailer_said}
use Rattle.envelope.proofs.check_uiz.Goals as goal

pub returns : goal.returns
returns c = record { uiz = (trailer_said c.check_trailer.ensures).0; said = (trailer_said c.check_trailer.ensures).1 }
