-- `services::numbers::is_plain` meets its contract.
-- Assumes nothing.
use mathlib.Core.Logic.{inl, inr}
use native.Mathlib.Omega.{arith}
use borrow.Author.Tests.{ltb-true}
use Rattle.laws.specs.Choice.{false≢true}
use Rattle.services.proofs.numbers.is_plain.Goals as goal

pub returns-then-b-lt48 : goal.returns-then-b-lt48
returns-then-b-lt48 c = λ q. absurd (false≢true q)

pub returns-then-b-le57 : goal.returns-then-b-le57
returns-then-b-le57 c = λ q. inl (omega arith, omega arith)

pub returns : goal.returns
returns c = λ q. inr (ltb-true 63 c.args.b q)
