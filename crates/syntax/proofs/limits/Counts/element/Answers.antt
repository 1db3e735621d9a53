use borrow.Author.Tests.{lt-ltb, le-ltb}
use Rattle.syntax.specs.Counts.{element_of}
use Rattle.syntax.proofs.limits.Counts.element.Goals as goal

pub returns-then-self-lt64 : goal.returns-then-self-lt64
unfolding element_of
returns-then-self-lt64 c = rw (lt-ltb _ 64 c.if-self-lt64.true)

pub returns : goal.returns
unfolding element_of
returns c = rw (le-ltb _ 64 c.if-self-lt64.false) c.passed.ensures
