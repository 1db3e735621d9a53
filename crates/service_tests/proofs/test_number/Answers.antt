-- `test_number` meets its contract.
-- Assumes nothing.
use mathlib.Core.Path.{◌≡◌, ap, ◌∙◌}
use mathlib.Core.List.{List}
use Prim.Native.Nat.{ℕ}
use native.Mathlib.Omega.{arith}
use lib.ListN.{set}
use Rattle.answers.specs.Answers.{refused}
use Rattle.services.specs.Services.{is_wrong}
use Rattle.stages.specs.Stage.{number_in}
use Rattle.service_tests.specs.Marks.{ten_mark, mark_of, is_marked, mark_below, new_wrong, new_good}
use Rattle.service_tests.specs.Ways.{wrong_is}
use Rattle.service_tests.proofs.test_number.Goals.{After-is_wrong, After-set_mark, Start}
use Rattle.service_tests.proofs.test_number.Goals as goal

-- the mark of the number
module _ (t : After-set_mark) where
  abbrev number : List ℕ
  number = number_in t.args.s.now t.args.service

  mark_is : t.mark_of.result ≡ mark_of number
  mark_is = t.mark_of.ensures ∙ ap ten_mark t.requires.1.0

  left : t.set_mark.new.marks ≡ set t.args.marks.now (mark_of number) 1
  left = t.set_mark.ensures.left ∙ ap (λ (k : ℕ). set t.args.marks.now k 1) mark_is

  was : t.set_mark.result ≡ is_marked t.args.marks.now (mark_of number)
  was = t.set_mark.ensures.told ∙ ap (is_marked t.args.marks.now) mark_is

pub set_mark-requires : goal.set_mark-requires
set_mark-requires c =
    let h = mark_below c.args.number.bytes in
    let e = c.mark_of.ensures in
    let l = c.requires.0.size in
    omega arith

pub returns-then-set_mark : goal.returns-then-set_mark
returns-then-set_mark c =
    record {
      told = c.test_service.ensures;
      left = left (goal.at.returns-then-set_mark c).After-set_mark;
    }

-- 11 by what is known of the service
module _ (w : After-is_wrong) where
  wrong : w.is_wrong.result ≡ is_wrong w.args.s.now w.args.rows.now w.args.service
  wrong =
      let a = w.args in
      wrong_is a.s.now a.rows.now a.service w.is_wrong.result a.number.length a.carries w.is_wrong.ensures w.requires.1.1 w.requires.2

pub returns-then-is_wrong : goal.returns-then-is_wrong
returns-then-is_wrong c =
    let a = c.args in
    record {
      told = ap refused c.at.ensures
          ∙ new_wrong a.marks.now a.s.now a.rows.now a.service c.requires.0 c.set_mark.result (was (goal.at.returns-then-is_wrong c).After-set_mark) c.if-set_mark.false c.is_wrong.result (wrong (goal.at.returns-then-is_wrong c).After-is_wrong) c.if-is_wrong.true;
      left = left (goal.at.returns-then-is_wrong c).After-set_mark;
    }

pub returns : goal.returns
returns c =
    let a = c.args in
    record {
      told = new_good a.marks.now a.s.now a.rows.now a.service c.requires.0 c.set_mark.result (was (goal.at.returns c).After-set_mark) c.if-set_mark.false c.is_wrong.result (wrong (goal.at.returns c).After-is_wrong) c.if-is_wrong.false;
      left = left (goal.at.returns c).After-set_mark;
    }
