use mathlib.Core.Path.{◌∙◌}
use Rattle.interchange.specs.Turns.{turn_lent}
use borrow.Author.Rules.{rules}
use Rattle.interchange.proofs.turn.take_turn.Goals as goal

pub returns : goal.returns
returns c =
    let a = c.args in
    c.turn_with.ensures
    ∙ turn_lent a.tables.now a.s.now c.lent-opening.result.now c.lent-heading.result.now a.st a.at c.lent-opening.ensures c.lent-heading.ensures
