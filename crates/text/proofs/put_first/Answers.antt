-- `put_first` meets its contract.
-- Assumes nothing.
use mathlib.Core.Path.{ap, ◌∙◌}
use Prim.Native.Nat.{ℕ}
use native.Mathlib.Nat.{sub-zero}
use lib.ListN.{take}
use Rattle.laws.specs.Put.{put_at}
use Rattle.text.proofs.put_first.Goals as goal

pub returns : goal.returns
returns c =
    let a = c.args in
    c.put_bytes.ensures.1 ∙ ap (λ (k : ℕ). put_at a.out.now a.at (take k a.bytes.now)) (sub-zero a.n)
