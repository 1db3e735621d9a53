-- `entries::filled_up` meets its contract.
-- Assumes nothing.
use mathlib.Core.Path.{◌∙◌}
use Rattle.entries.specs.Withdrawing.{filled}
use Rattle.entries.proofs.filled_up.Goals as goal

pub returns : goal.returns
returns c = c.put_bytes.ensures.1 ∙ filled c.args.number.now c.requires
