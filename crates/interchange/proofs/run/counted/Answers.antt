use borrow.Author.Rules.{rules}
use native.Mathlib.Omega.{arith}
use borrow.Author.Tests.{lt-ltb, le-ltb, le-leb, lt-leb}
use Rattle.interchange.proofs.run.counted.Goals as goal

pub returns-then-segments-ge65535 : goal.returns-then-segments-ge65535
returns-then-segments-ge65535 c = simp (le-leb _ _ c.if-segments-ge65535.true)

pub returns-then-segments-more : goal.returns-then-segments-more
returns-then-segments-more c = simp (lt-leb _ _ c.if-segments-ge65535.false, lt-ltb _ _ c.if-segments-more.true)

pub returns : goal.returns
returns c = simp (lt-leb _ _ c.if-segments-ge65535.false, le-ltb _ _ c.if-segments-more.false)
