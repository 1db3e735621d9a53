use mathlib.Core.Path.{◌∙◌}
use Rattle.parts.specs.Located.{counted_none, counted_some}
use Rattle.parts.proofs.counted.Goals as goal

pub returns-then-n-eq0 : goal.returns-then-n-eq0
returns-then-n-eq0 c =
    let a = c.args in
    c.none.ensures ∙ counted_none a.s.now a.part a.mark a.n c.if-n-eq0.true

pub returns : goal.returns
returns c =
    let a = c.args in
    c.piece.ensures ∙ counted_some a.s.now a.part a.mark a.n c.if-n-eq0.false
