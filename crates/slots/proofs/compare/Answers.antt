-- `slots::compare` meets its contract.
-- Assumes nothing.
use Rattle.std.proofs.Common.{◌∙◌}
use Rattle.slots.specs.Order.{slice_order}
use Rattle.slots.proofs.compare.Goals as goal

pub returns : goal.returns
returns c = c.cmp.ensures ∙ slice_order c.args.a.now c.args.b.now
