use mathlib.Core.Path.{ap, ◌∙◌}
use mathlib.Core.List.{List}
use Prim.Native.Nat.{ℕ}
use Rattle.parts.specs.Places.{bytes_of}
use Rattle.laws.specs.Lists.{rest_is}
use Rattle.interchange.specs.Turns.{lent_past}
use borrow.Author.Rules.{rules}
use Rattle.interchange.proofs.turn.lent.Goals as goal

pub returns-then-s-at : goal.returns-then-s-at
returns-then-s-at c =
    let a = c.args in
    lent_past a.s.now a.at a.part c.if-s-at.true

pub returns : goal.returns
returns c =
    let a = c.args in
    c.bytes_of.ensures ∙ ap (λ (x : List ℕ). bytes_of x a.part) (rest_is a.s.now a.at)
