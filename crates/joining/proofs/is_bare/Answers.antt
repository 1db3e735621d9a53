-- `is_bare` meets its contract.
-- Assumes nothing.
use mathlib.Core.Path.{sym, ◌∙◌}
use Rattle.laws.specs.Choice.{false≢true}
use Rattle.joining.proofs.is_bare.Goals as goal

pub returns-then-g-lt31 : goal.returns-then-g-lt31
returns-then-g-lt31 c = λ q. absurd (false≢true q)

pub returns-then-not-are_days : goal.returns-then-not-are_days
returns-then-not-are_days c = λ q. absurd (false≢true q)

pub returns : goal.returns
returns c =
    λ q. record { tagged = c.is_tagged.ensures q; long = c.if-g-lt31.false; days = sym c.are_days.ensures ∙ c.if-not-are_days.false }
