-- `day_at` meets its contract.
-- Assumes nothing.
use mathlib.Core.Path.{◌∙◌}
use Rattle.period.specs.Dated.{day_in_lem}
use Rattle.period.proofs.dated.day_at.Goals as goal

pub returns : goal.returns
returns c =
    let a = c.args in
    c.day_of.ensures ∙ day_in_lem a.g.now a.at c.pair_at.ensures.0 c.pair_at-2.ensures.0 c.pair_at-3.ensures.0 c.pair_at-4.ensures.0
