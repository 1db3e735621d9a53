-- `part_in` meets its contract.
-- Assumes nothing.
use mathlib.Core.Path.{ap, ◌∙◌}
use mathlib.Core.List.{List}
use Prim.Native.Nat.{ℕ}
use Rattle.syntax.specs.Pieces.{part_of}
use Rattle.joining.specs.Places.{bytes_all}
use Rattle.joining.proofs.part_in.Goals as goal

pub returns : goal.returns
returns c =
    let a = c.args in
    c.part_of.ensures ∙ ap (λ (x : List ℕ). part_of x a.e 1 a.c) (bytes_all a.g.now)
