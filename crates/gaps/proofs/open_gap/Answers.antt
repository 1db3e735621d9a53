-- `gaps::open_gap` meets its contract.
-- Assumes nothing.
use Rattle.std.proofs.Common.{◌∙◌}
use Rattle.gaps.specs.Move.{opened}
use Rattle.gaps.proofs.open_gap.Goals as goal

pub returns : goal.returns
returns c = c.copy_within.ensures.after ∙ opened c.args.b.now c.args.at c.args.n c.requires
