use mathlib.Core.Path.{ap}
use Prim.Native.Nat.{ℕ}
use Rattle.parts.proofs.component_from.Goals as goal

pub returns : goal.returns
returns c =
    let a = c.args in
    ap (λ (x : ℕ). record { from = a.from; to = x }) c.component_end-end.ensures
