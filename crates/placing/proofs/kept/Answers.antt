-- `placing::kept` meets its contract. Assumes nothing.
use borrow.Author.Tests.{lt-ltb, le-ltb, eq-eqb, ne_eqb, le-leb, lt-leb}
use Rattle.placing.proofs.kept.Goals as goal

pub returns-then-k-level : goal.returns-then-k-level
returns-then-k-level c = simp (lt-ltb _ _ c.if-k-level.true)

pub returns-then-k-level-2 : goal.returns-then-k-level-2
returns-then-k-level-2 c = simp (le-ltb _ _ c.if-k-level.false, eq-eqb _ _ c.if-k-level-2.true)

pub returns-then-k-last : goal.returns-then-k-last
returns-then-k-last c = simp (le-ltb _ _ c.if-k-level.false, ne_eqb _ _ c.if-k-level-2.false, le-leb _ _ c.if-k-last.true)

pub returns-else-k-last : goal.returns-else-k-last
returns-else-k-last c = simp (le-ltb _ _ c.if-k-level.false, ne_eqb _ _ c.if-k-level-2.false, lt-leb _ _ c.if-k-last.false)
