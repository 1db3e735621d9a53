-- `is_repeated` meets its contract.
-- Assumes nothing.
use borrow.Author.Tests.{lt-ltb, le-ltb}
use Rattle.period.proofs.elements.is_repeated.Goals as goal

pub returns-then-found-end : goal.returns-then-found-end
returns-then-found-end c =
    let x = c.args.found in
    rw (le-ltb x.once.to x.whole.to c.if-found-end.true)

pub returns : goal.returns
returns c =
    let x = c.args.found in
    rw (lt-ltb x.once.to x.whole.to c.if-found-end.false)
