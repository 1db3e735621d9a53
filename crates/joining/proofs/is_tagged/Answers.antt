-- `is_tagged` meets its contract.
-- Assumes nothing.
use borrow.Author.Tests.{eqb-true}
use lib.ListN.{get_or}
use Rattle.laws.specs.Choice.{false≢true}
use Rattle.joining.specs.Places.{tag_begins}
use Rattle.joining.proofs.is_tagged.Goals as goal

pub returns-then-g-lt4 : goal.returns-then-g-lt4
returns-then-g-lt4 c = λ q. absurd (false≢true q)

pub returns-then-g-ne80 : goal.returns-then-g-ne80
returns-then-g-ne80 c = λ q. absurd (false≢true q)

pub returns-then-g-ne79 : goal.returns-then-g-ne79
returns-then-g-ne79 c = λ q. absurd (false≢true q)

pub returns-then-g-ne80-2 : goal.returns-then-g-ne80-2
returns-then-g-ne80-2 c = λ q. absurd (false≢true q)

pub returns : goal.returns
returns c =
    let g = c.args.g.now in
    λ q. tag_begins g c.if-g-lt4.false c.if-g-ne80.false c.if-g-ne79.false c.if-g-ne80-2.false (eqb-true (get_or g 3 0) 43 q)
