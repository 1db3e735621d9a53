-- `envelope::says_first` meets its contract.
-- Assumes nothing.
use mathlib.Core.Path.{ap, ◌∙◌}
use Prim.Native.Nat.{ℕ}
use native.Mathlib.Nat.{sub-zero}
use lib.ListN.{take}
use Rattle.syntax.specs.Bytes.{plain}
use Rattle.values.specs.Values.{same_text}
use Rattle.envelope.proofs.says_first.Goals as goal

pub returns : goal.returns
returns c =
    let a = c.args in
    c.equals.ensures ∙ ap (λ (k : ℕ). same_text (plain a.part.now) (take k a.digits.now)) (sub-zero a.n)
