-- `text_end` meets its contract.
-- Assumes nothing.
use mathlib.Core.Path.{◌≡◌, sym, ◌∙◌}
use mathlib.Core.List.{List}
use Prim.Native.Nat.{ℕ, ◌+◌}
use native.Mathlib.Omega.{arith}
use lib.ListN.{drop}
use Rattle.syntax.specs.Runs.{text_run, run_past, run_on, run_ends}
use Rattle.syntax.proofs.texts.text_end.Goals.{After-words_end-j, At-loop-i}
use Rattle.syntax.proofs.texts.text_end.Goals as goal

-- where eight bytes at a time come to
module _ (t : After-words_end-j) where
  abbrev list : List ℕ
  list = t.args.s.now

  abbrev from : ℕ
  from = t.args.from

  on : t.words_end-j.result + text_run (drop t.words_end-j.result list) ≡ from + text_run (drop from list)
  on = t.words_end-j.ensures.1 ∙ t.loop-i.invariant

pub returns-then-s-j : goal.returns-then-s-j
returns-then-s-j c =
    let v = on (goal.at.returns-then-s-j c).After-words_end-j in
    let e = run_past (list (goal.at.returns-then-s-j c).After-words_end-j) c.words_end-j.result c.if-s-j.true in
    omega arith

pub returns-then-not-is_text : goal.returns-then-not-is_text
returns-then-not-is_text c =
    let v = on (goal.at.returns-then-not-is_text c).After-words_end-j in
    let e = run_ends (list (goal.at.returns-then-not-is_text c).After-words_end-j) c.words_end-j.result c.if-s-j.false (sym c.is_text.ensures ∙ c.if-not-is_text.true) in
    omega arith

pub loop-i-smaller : goal.loop-i-smaller
loop-i-smaller c =
    let h = c.words_end-j.ensures.0 in
    let k = c.few_end-i.ensures.0 in
    omega arith

pub loop-i-preserved : goal.loop-i-preserved
loop-i-preserved c =
    c.few_end-i.ensures.1
    ∙ sym (run_on (list (goal.at.loop-i-preserved c).After-words_end-j) c.words_end-j.result c.if-s-j.false (sym c.is_text.ensures ∙ c.if-not-is_text.false))
    ∙ on (goal.at.loop-i-preserved c).After-words_end-j

pub returns : goal.returns
returns c =
    let v = c.loop-i.invariant in
    let e = run_past c.args.s.now c.loop-i.i c.loop-i-test.false in
    omega arith
