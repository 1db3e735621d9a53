-- `eight_at` meets its contract.
-- Assumes nothing.
use native.Mathlib.Omega.{arith}
use Rattle.laws.specs.Eight.{word_row}
use Rattle.raw_bytes.specs.Eights.{eights_of}
use Rattle.raw_bytes.proofs.eight_at.Goals as goal

pub returns : goal.returns
returns c =
    let a = c.args in
    let w = word_row a.s.now a.at c.wide_byte.ensures c.wide_byte-2.ensures c.wide_byte-3.ensures c.wide_byte-4.ensures
    c.wide_byte-5.ensures c.wide_byte-6.ensures c.wide_byte-7.ensures c.wide_byte-8.ensures in
    eights_of a.s.now a.at (omega arith) w.is w.bytes
