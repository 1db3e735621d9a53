-- `gaps::close_within` meets its contract.
-- Assumes nothing.
use Rattle.std.proofs.Common.{◌∙◌}
use Rattle.gaps.specs.Move.{shut}
use Rattle.gaps.proofs.close_within.Goals as goal

pub returns : goal.returns
returns c = c.clear_from.ensures ∙ shut c.args.b.now c.args.at c.args.n c.requires c.copy_within.new.self c.copy_within.ensures.after
