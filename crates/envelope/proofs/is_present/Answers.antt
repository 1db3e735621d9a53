-- `envelope::is_present` meets its contract.
-- Assumes nothing.
use mathlib.Core.Path.{sym}
use Rattle.envelope.specs.Laws.{present_length}
use Rattle.envelope.proofs.is_present.Goals as goal

-- src/lib.rt:94:1
pub returns : goal.returns
returns c = sym (present_length c.args.part.now)
