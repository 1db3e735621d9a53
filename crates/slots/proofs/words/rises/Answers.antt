-- `slots::words::rises` meets its contract.
-- Assumes nothing.
use Rattle.std.proofs.Common.{arith}
use Rattle.slots.specs.Words.{rises_below, rises_above, rises_level}
use Rattle.slots.proofs.words.rises.Goals as goal

pub returns-then-h-k : goal.returns-then-h-k
returns-then-h-k c = rises_below _ _ _ _ c.if-h-k.true

pub returns-then-k-h : goal.returns-then-k-h
returns-then-k-h c = rises_above _ _ _ _ c.if-k-h.true

pub returns : goal.returns
returns c =
    let p = c.if-h-k.false in
    let q = c.if-k-h.false in
    let a = c.args in
    rises_level a.h a.l a.k a.m (omega arith)
