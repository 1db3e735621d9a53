-- `is_near` meets its contract.
-- Assumes nothing.
use native.Mathlib.Omega.{arith}
use borrow.Author.Tests.{leb-true}
use Prim.Native.Nat.{◌-◌}
use lib.ListN.{length}
use Rattle.laws.specs.Choice.{false≢true}
use Rattle.service_entries.proofs.numbers.is_near.Goals as goal

pub returns-then-to-from : goal.returns-then-to-from
returns-then-to-from c = λ q. absurd (false≢true q)

pub returns-then-to-from-gt10 : goal.returns-then-to-from-gt10
returns-then-to-from-gt10 c = λ q. absurd (false≢true q)

pub returns-then-s-lt10 : goal.returns-then-s-lt10
returns-then-s-lt10 c = λ q. absurd (false≢true q)

pub returns : goal.returns
returns c = λ q.
    let a = c.args in
    let h = leb-true a.from (length a.s.now - 10) q in
    (omega arith, omega arith, omega arith)
