-- `long_end` meets its contract.
-- Assumes nothing.
use mathlib.Core.Path.{◌≡◌, sym, ap, ◌∙◌}
use mathlib.Core.Bool.{Bool}
use native.Mathlib.Omega.{arith}
use lib.ListN.{length}
use Rattle.laws.specs.Choice.{pick}
use Rattle.syntax.specs.Found.{told_some, told_none}
use Rattle.syntax.specs.Quick.{quick_end, quick_small, quick_far, quick_told}
use Rattle.syntax.proofs.segment.long_end.Goals.{After-is_small}
use Rattle.syntax.proofs.segment.long_end.Goals as goal

pub returns-then-end-at-gt512 : goal.returns-then-end-at-gt512
returns-then-end-at-gt512 c =
    let a = c.args in
    let s = a.s.now in
    told_none (length s) (length s) (omega arith) ∙ quick_told s a.at (length s) (quick_far s a.at a.end c.requires.2 (omega arith))

-- after the marks are looked at
module _ (t : After-is_small) where
  small : pick t.is_small.result t.args.end (length t.args.s.now) ≡ quick_end t.args.s.now t.args.at
  small =
      let h = t.if-end-at-gt512.false in
      let f = t.requires.0 in
      quick_small t.args.s.now t.args.at t.args.end t.requires.2 t.is_small.result t.is_small.ensures (omega arith) h

pub returns-then-is_small : goal.returns-then-is_small
returns-then-is_small c =
    let a = c.args in
    let s = a.s.now in
    let e = ap (λ (b : Bool). pick b a.end (length s)) (sym c.if-is_small.true) ∙ small (goal.at.returns-then-is_small c).After-is_small in
    told_some (length s) a.end c.requires.1 ∙ quick_told s a.at a.end e

pub returns : goal.returns
returns c =
    let a = c.args in
    let s = a.s.now in
    let e = ap (λ (b : Bool). pick b a.end (length s)) (sym c.if-is_small.false) ∙ small (goal.at.returns c).After-is_small in
    told_none (length s) (length s) (omega arith) ∙ quick_told s a.at (length s) e
