-- `any_number` meets its contract.
-- Assumes nothing.
use mathlib.Core.Path.{ap, ◌∙◌}
use mathlib.Core.List.{List}
use Prim.Native.Nat.{ℕ}
use lib.ListN.{length}
use Rattle.syntax.specs.Bytes.{plain}
use Rattle.service_entries.proofs.numbers.any_number.Goals as goal

pub returns : goal.returns
returns c =
    (c.plain_number-bytes.ensures, c.plain_length-length.ensures ∙ ap (λ (x : List ℕ). length (plain x)) c.bytes_of.ensures)
