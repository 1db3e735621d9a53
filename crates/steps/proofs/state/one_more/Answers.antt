use borrow.Author.Tests.{lt-ltb, le-ltb}
use borrow.Author.Rules.{rules}
use Rattle.steps.proofs.state.one_more.Goals as goal

pub returns-then-n-lt65535 : goal.returns-then-n-lt65535
returns-then-n-lt65535 c = rw (lt-ltb _ 65535 c.if-n-lt65535.true)

pub returns-else-n-lt65535 : goal.returns-else-n-lt65535
returns-else-n-lt65535 c = rw (le-ltb _ 65535 c.if-n-lt65535.false)
