-- `has_text` meets its contract.
-- Assumes nothing.
use Prim.Native.Nat.{◌+◌, ◌-◌}
use native.Mathlib.Omega.{arith}
use borrow.Author.Tests.{leb-true}
use lib.ListN.{length}
use Rattle.syntax.specs.Few.{marks_length}
use Rattle.syntax.specs.Texts.{two_few, four_few}
use Rattle.syntax.proofs.marks.has_text.Goals as goal

pub returns-then-p-lt32 : goal.returns-then-p-lt32
returns-then-p-lt32 c = λ e. let m = marks_length c.args.p.now in omega arith

pub returns-then-needed-texts : goal.returns-then-needed-texts
returns-then-needed-texts c =
    λ e.
    two_few c.args.p.now c.if-p-lt32.false c.texts_at-texts.ensures c.if-needed-texts.true

pub overflow_add-result : goal.overflow_add-result
overflow_add-result c =
    let a = c.texts_at-texts.ensures.few in
    let b = c.texts_at.ensures.few in
    omega arith

pub returns : goal.returns
returns c =
    λ e.
    let p = c.args.p.now in
    four_few c.args.p.now c.if-p-lt32.false c.texts_at-texts.ensures c.texts_at.ensures
    (leb-true (length c.args.p.now - 31) (c.texts_at-texts.result + c.texts_at.result) e)
