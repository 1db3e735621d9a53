-- `is_marked` meets its contract.
-- Assumes nothing.
use Rattle.laws.specs.Choice.{false≢true}
use Rattle.joining.proofs.is_marked.Goals as goal

pub returns-then-g-lt31 : goal.returns-then-g-lt31
returns-then-g-lt31 c = λ q. absurd (false≢true q)

pub returns-then-g-eq63 : goal.returns-then-g-eq63
returns-then-g-eq63 c = λ q. absurd (false≢true q)

pub returns-then-g-ne43 : goal.returns-then-g-ne43
returns-then-g-ne43 c = λ q. absurd (false≢true q)

pub returns : goal.returns
returns c =
    λ q. record { tagged = c.is_tagged.ensures q; long = c.if-g-lt31.false; bare = c.if-g-eq63.false; mark = c.if-g-ne43.false }
