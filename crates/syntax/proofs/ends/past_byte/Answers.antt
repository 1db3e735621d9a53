-- `past_byte` meets its contract.
-- Assumes nothing.
use mathlib.Core.Path.{◌≡◌, sym, ◌∙◌}
use mathlib.Core.Bool.{false}
use native.Mathlib.Omega.{arith}
use borrow.Author.Tests.{ne_eqb}
use lib.Dec.{eqb}
use lib.ListN.{get_or}
use Rattle.syntax.specs.Found.{end_plain, end_other, end_question, end_released_bad}
use Rattle.syntax.specs.Released.{release_from, end_releases}
use Rattle.syntax.proofs.ends.past_byte.Goals.{After-permitted}
use Rattle.syntax.proofs.ends.past_byte.Goals as goal

-- whether the byte is permitted
module _ (t : After-permitted) where
  quote : eqb (get_or t.args.s.now t.args.j 0) 39 ≡ false
  quote = ne_eqb _ _ t.requires.1

pub returns-then-not-permitted : goal.returns-then-not-permitted
returns-then-not-permitted c =
    end_other c.args.s.now c.args.j c.requires.0 (sym c.permitted.ensures ∙ c.if-not-permitted.true) (quote (goal.at.returns-then-not-permitted c).After-permitted)

pub returns-then-s-j-ne63 : goal.returns-then-s-j-ne63
returns-then-s-j-ne63 c =
    (omega arith, sym (end_plain c.args.s.now c.args.j c.requires.0 (sym c.permitted.ensures ∙ c.if-not-permitted.false) (quote (goal.at.returns-then-s-j-ne63 c).After-permitted) (ne_eqb _ _ c.if-s-j-ne63.true)))

pub returns-then-s-k : goal.returns-then-s-k
returns-then-s-k c = end_question c.args.s.now c.args.j c.requires.0 c.if-s-j-ne63.false c.if-s-k.true

pub returns-then-not-permitted-2 : goal.returns-then-not-permitted-2
returns-then-not-permitted-2 c =
    end_released_bad c.args.s.now c.args.j c.requires.0 c.if-s-j-ne63.false c.if-s-k.false (sym c.permitted-2.ensures ∙ c.if-not-permitted-2.true)

pub returns : goal.returns
returns c =
    let e = release_from c.args.s.now c.args.j c.released_end.result c.if-s-k.false c.if-s-j-ne63.false (sym c.permitted-2.ensures ∙ c.if-not-permitted-2.false) c.released_end.ensures in
    let g = c.released_end.ensures in
    (omega arith, sym (end_releases c.args.s.now c.args.j c.released_end.result e))
