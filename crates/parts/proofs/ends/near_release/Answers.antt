-- `near_release` meets its contract.
-- Assumes nothing.
use borrow.Author.Tests.{lt-ltb, le-ltb}
use Rattle.parts.proofs.ends.near_release.Goals as goal

pub returns-then-b-gt58 : goal.returns-then-b-gt58
returns-then-b-gt58 c = rw (lt-ltb 58 c.args.b c.if-b-gt58.true)

pub returns-else-b-gt58 : goal.returns-else-b-gt58
returns-else-b-gt58 c = rw (le-ltb 58 c.args.b c.if-b-gt58.false)
