-- `slots::words::low` meets its contract.
-- Assumes nothing.
use Rattle.std.proofs.Common.{arith}
use Rattle.slots.specs.Words.{low_of}
use Rattle.slots.proofs.words.low.Goals as goal

pub returns : goal.returns
unfolding low_of
returns c =
    let a = c.byte_at.ensures.0 in
    let b = c.byte_at-2.ensures.0 in
    omega arith
