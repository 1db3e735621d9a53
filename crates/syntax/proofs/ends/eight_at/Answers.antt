-- `eight_at` meets its contract.
-- Assumes nothing.
use Rattle.laws.specs.Eight.{word_row}
use Rattle.syntax.proofs.ends.eight_at.Goals as goal

pub returns : goal.returns
returns c =
    let a = c.args in
    word_row a.s.now a.i c.wide.ensures c.wide-2.ensures c.wide-3.ensures c.wide-4.ensures
    c.wide-5.ensures c.wide-6.ensures c.wide-7.ensures c.wide-8.ensures
