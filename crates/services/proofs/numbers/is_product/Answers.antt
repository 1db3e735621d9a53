-- `services::numbers::is_product` meets its contract.
-- Assumes nothing.
use Prim.Native.Nat.{◌+◌}
use native.Mathlib.Omega.{arith}
use borrow.Author.Tests.{eqb-true}
use Rattle.laws.specs.Choice.{false≢true}
use Rattle.services.specs.Numbers.{product_here}
use Rattle.services.proofs.numbers.is_product.Goals as goal

pub returns-then-s-lt4 : goal.returns-then-s-lt4
returns-then-s-lt4 c = λ q. absurd (false≢true q)

pub returns-then-s-at : goal.returns-then-s-at
returns-then-s-at c = λ q. absurd (false≢true q)

pub returns : goal.returns
returns c =
    let a = c.args in
    λ q.
    let z = eqb-true (c.other-first.result + c.other-second.result + c.other-third.result + c.other-fourth.result) 0 q in
    product_here a.s.now a.at (omega arith) (c.other-first.ensures.0 (omega arith)) (c.other-second.ensures.0 (omega arith)) (c.other-third.ensures.0 (omega arith)) (c.other-fourth.ensures.0 (omega arith))
