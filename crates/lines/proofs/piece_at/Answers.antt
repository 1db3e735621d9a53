-- `lines::piece_at` answers the bytes up to the next mark.
-- Assumes nothing.
use native.Mathlib.Omega.{arith}
use Rattle.lines.specs.Lines.{piece_none, piece_between, end_within}
use borrow.Author.Rules.{rules}
use Rattle.lines.proofs.piece_at.Goals as goal

pub returns-then-s-from : goal.returns-then-s-from
returns-then-s-from c = let a = c.args in piece_none a.s.now a.from a.mark c.if-s-from.true

pub slice_bounds-result-count-2 : goal.slice_bounds-result-count-2
slice_bounds-result-count-2 c =
    let a = c.args in
    let w = end_within a.s.now a.from a.mark (omega arith) in
    let e = c.end_at-end.ensures in
    omega arith

pub slice_bounds-result-start-2 : goal.slice_bounds-result-start-2
slice_bounds-result-start-2 c =
    let a = c.args in
    let w = end_within a.s.now a.from a.mark (omega arith) in
    let e = c.end_at-end.ensures in
    search rules

pub slice_bounds-result-end-2 : goal.slice_bounds-result-end-2
slice_bounds-result-end-2 c =
    let a = c.args in
    let w = end_within a.s.now a.from a.mark (omega arith) in
    let e = c.end_at-end.ensures in
    search rules

pub returns : goal.returns
returns c = let a = c.args in piece_between a.s.now a.from a.mark _ c.end_at-end.ensures
