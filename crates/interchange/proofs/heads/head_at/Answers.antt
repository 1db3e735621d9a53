use borrow.Author.Rules.{rules}
use Rattle.interchange.specs.Heads.{head_turned}
use Rattle.interchange.proofs.heads.head_at.Goals as goal

pub returns : goal.returns
returns c =
    let a = c.args in
    (rw c.four_at-four.ensures.0 (head_turned a.s.now a.at c.four_at-four.ensures.1), c.four_at-four.ensures.1)
