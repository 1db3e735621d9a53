-- `slots::words::high` meets its contract.
-- Assumes nothing.
use Rattle.std.proofs.Common.{◌∙◌, arith}
use Rattle.laws.specs.Eight.{row_sum}
use Rattle.slots.specs.Words.{four, high_of}
use Rattle.slots.proofs.words.high.Goals as goal

pub returns : goal.returns
unfolding high_of four
returns c =
    let a = c.byte_at.ensures.0 in
    let b = c.byte_at-2.ensures in
    let d = c.byte_at-3.ensures in
    let e = c.byte_at-4.ensures in
    let f = c.byte_at-5.ensures in
    let g = c.byte_at-6.ensures in
    let h = c.byte_at-7.ensures in
    let i = c.byte_at-8.ensures in
    row_sum c.byte_at.result c.byte_at-2.result c.byte_at-3.result c.byte_at-4.result c.byte_at-5.result c.byte_at-6.result c.byte_at-7.result c.byte_at-8.result b.1 d.1 e.1 f.1 g.1 h.1 i.1
    ∙ omega (arith, a, b.0, d.0, e.0, f.0, g.0, h.0, i.0)
