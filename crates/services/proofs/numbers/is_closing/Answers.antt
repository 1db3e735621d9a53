-- `services::numbers::is_closing` meets its contract.
-- Assumes nothing.
use mathlib.Core.Logic.{inl, inr}
use borrow.Author.Tests.{eqb-true}
use Rattle.services.proofs.numbers.is_closing.Goals as goal

pub returns-then-b-eq58 : goal.returns-then-b-eq58
returns-then-b-eq58 c = λ q. inl c.if-b-eq58.true

pub returns-then-b-eq43 : goal.returns-then-b-eq43
returns-then-b-eq43 c = λ q. inr (inl c.if-b-eq43.true)

pub returns-then-b-eq42 : goal.returns-then-b-eq42
returns-then-b-eq42 c = λ q. inr (inr (inl c.if-b-eq42.true))

pub returns : goal.returns
returns c = λ q. inr (inr (inr (eqb-true c.args.b 39 q)))
