-- `text_bits` meets its contract.
-- Assumes nothing.
use mathlib.Core.Path.{ap₂}
use lib.Bits.{bit_and}
use Rattle.parts.proofs.ends.text_bits.Goals as goal

pub returns : goal.returns
returns c = ap₂ bit_and c.differing.ensures c.differing-2.ensures
