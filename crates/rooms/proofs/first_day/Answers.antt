-- `rooms::first_day` meets its contract.
-- Assumes nothing.
use mathlib.Core.Path.{◌∙◌}
use Rattle.rooms.specs.Head.{first_told}
use Rattle.rooms.proofs.first_day.Goals as goal

pub returns : goal.returns
returns c = c.number_at.ensures.0 ∙ first_told c.args.b.now
