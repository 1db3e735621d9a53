use borrow.Author.Tests.{lt-ltb, le-ltb}
use Rattle.syntax.specs.Counts.{occurrence_of}
use Rattle.syntax.proofs.limits.Counts.occurrence.Goals as goal

pub returns-then-self-lt98 : goal.returns-then-self-lt98
unfolding occurrence_of
returns-then-self-lt98 c = rw (lt-ltb _ 98 c.if-self-lt98.true)

pub returns : goal.returns
unfolding occurrence_of
returns c = rw (le-ltb _ 98 c.if-self-lt98.false) c.passed.ensures
