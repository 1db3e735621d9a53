-- `find_end` meets its contract.
-- Assumes nothing.
use mathlib.Core.Path.{◌≡◌, sym, ap, ◌∙◌}
use mathlib.Core.List.{List}
use Prim.Native.Nat.{ℕ, ◌<◌}
use native.Mathlib.Omega.{arith}
use lib.ListN.{length}
use Rattle.std.specs.Prelude.{Option, Some, None}
use Rattle.syntax.specs.Found.{end_from, end_past, end_quote, told_of, told_some, told_none}
use Rattle.syntax.proofs.ends.find_end.Goals.{After-common_end-j}
use Rattle.syntax.proofs.ends.find_end.Goals as goal

-- where eight bytes at a time come to
module _ (t : After-common_end-j) where
  abbrev list : List ℕ
  list = t.args.s.now

  on : end_from list t.common_end-j.result ≡ end_from list t.args.from
  on = t.common_end-j.ensures.1 ∙ t.loop-i.invariant

pub returns-then-s-j : goal.returns-then-s-j
returns-then-s-j c =
    let s = c.args.s.now in
    let e = on (goal.at.returns-then-s-j c).After-common_end-j in
    let p = end_past s c.common_end-j.result c.if-s-j.true in
    told_none (length s) (end_from s c.args.from) (omega arith)

pub returns-then-s-j-eq39 : goal.returns-then-s-j-eq39
returns-then-s-j-eq39 c =
    let s = c.args.s.now in
    let e = sym (end_quote s c.common_end-j.result c.if-s-j.false c.if-s-j-eq39.true) ∙ on (goal.at.returns-then-s-j-eq39 c).After-common_end-j in
    told_some (length s) c.common_end-j.result c.if-s-j.false ∙ ap (told_of (length s)) e

pub returns-in_err-i : goal.returns-in_err-i
returns-in_err-i c =
    let s = c.args.s.now in
    let e = on (goal.at.returns-in_err-i c).After-common_end-j in
    let p : end_from s c.common_end-j.result ≡ length s = c.in_err-i.ensures in
    c.from_residual.ensures ∙ told_none (length s) (end_from s c.args.from) (omega arith)

pub returns : goal.returns
returns c =
    let s = c.args.s.now in
    let e = c.loop-i.invariant in
    let p = end_past s c.loop-i.i c.loop-i-test.false in
    told_none (length s) (end_from s c.args.from) (omega arith)
