-- `cuts::find_terminator` looks by eight bytes first, then byte by byte.
-- Assumes nothing.
use mathlib.Core.Path.{sym, ◌∙◌}
use native.Mathlib.Omega.{arith}
use lib.ListN.{length}
use Rattle.syntax.specs.Found.{end_from, told_is}
use Rattle.cuts.specs.Laws.{none_told, released_told, end_told}
use Rattle.cuts.proofs.find_terminator.Goals as goal

pub returns-then-s-eq0 : goal.returns-then-s-eq0
returns-then-s-eq0 c = rw c.if-released.true (none_told c.args.s.now c.if-s-eq0.true)

pub returns-then-released : goal.returns-then-released
returns-then-released c =
    let a = c.args in
    rw c.if-released.true (released_told a.s.now c.search.result.at c.search.result.released (omega arith) c.search.ensures)

pub returns-in-Some : goal.returns-in-Some
returns-in-Some c =
    let s = c.args.s.now in
    let e = told_is (length s) (end_from s 0) c.in-Some.end (sym c.find_end.ensures ∙ c.in-Some.is) in
    rw c.if-released.false (end_told s c.in-Some.end (sym e.0) (omega (arith, e.0, e.1)))
