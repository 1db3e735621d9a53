use mathlib.Core.Path.{ap, ◌∙◌}
use Prim.Native.Nat.{ℕ}
use Rattle.parts.proofs.piece.Goals as goal

pub returns : goal.returns
returns c =
    ap (λ (x : ℕ). record { from = c.rest_from-rest.result.from; to = x }) c.piece_end-end.ensures ∙ c.rest_from-rest.ensures
