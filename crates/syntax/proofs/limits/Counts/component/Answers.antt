use borrow.Author.Tests.{lt-ltb, le-ltb}
use Rattle.syntax.specs.Counts.{component_of}
use Rattle.syntax.proofs.limits.Counts.component.Goals as goal

pub returns-then-self-lt31 : goal.returns-then-self-lt31
unfolding component_of
returns-then-self-lt31 c = rw (lt-ltb _ 31 c.if-self-lt31.true)

pub returns : goal.returns
unfolding component_of
returns c = rw (le-ltb _ 31 c.if-self-lt31.false) c.passed.ensures
