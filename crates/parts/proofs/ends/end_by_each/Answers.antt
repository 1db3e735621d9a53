-- `end_by_each` meets its contract.
-- Assumes nothing.
use mathlib.Core.Path.{◌∙◌}
use Rattle.parts.specs.Component.{by_each}
use Rattle.parts.proofs.ends.end_by_each.Goals as goal

pub returns : goal.returns
returns c =
    let a = c.args in
    c.piece_end.ensures ∙ by_each a.s.now a.from a.to c.piece_end-element.ensures c.piece_end-occurrence.ensures
