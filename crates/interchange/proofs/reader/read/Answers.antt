use Rattle.answers.specs.Answers.{refused}
use mathlib.Core.Path.{◌≡◌, sym, ap, ◌∙◌}
use Prim.Native.Nat.{ℕ, ◌+◌}
use lib.ListN.{length}
use Rattle.steps.specs.State.{opening_state}
use Rattle.interchange.specs.Reader.{read_on, reading_of, read_answer}
use Rattle.interchange.specs.Answers.{none_read, long_read, sized_read, right_same}
use borrow.Author.Rules.{rules}
use Rattle.interchange.proofs.reader.read.Goals as goal

pub returns-then-interchange-eq0 : goal.returns-then-interchange-eq0
returns-then-interchange-eq0 c =
    let a = c.args in record { told = ap refused c.at.ensures ∙ (none_read a.wish a.interchange.now a.rows.now c.if-interchange-eq0.true).0; left = (none_read a.wish a.interchange.now a.rows.now c.if-interchange-eq0.true).1 }

pub returns-then-interchange-gt60000 : goal.returns-then-interchange-gt60000
returns-then-interchange-gt60000 c =
    let a = c.args in record { told = ap refused c.at-then-interchange-gt60000.ensures ∙ (long_read a.wish a.interchange.now a.rows.now c.if-interchange-gt60000.true).0; left = (long_read a.wish a.interchange.now a.rows.now c.if-interchange-gt60000.true).1 }

pub returns : goal.returns
returns c =
    let a = c.args in
    let s = a.interchange.now in record {
      told = (right_same (read_on (length s + 1) s (opening_state a.wish) 0) (reading_of a.wish s) a.rows.now (read_answer c.read_sized.result) c.read_sized.new.rows
          (sized_read a.wish s c.if-interchange-eq0.false c.if-interchange-gt60000.false) (c.read_sized.ensures.told, c.read_sized.ensures.left)).0;
      left = (right_same (read_on (length s + 1) s (opening_state a.wish) 0) (reading_of a.wish s) a.rows.now (read_answer c.read_sized.result) c.read_sized.new.rows
          (sized_read a.wish s c.if-interchange-eq0.false c.if-interchange-gt60000.false) (c.read_sized.ensures.told, c.read_sized.ensures.left)).1;
    }
