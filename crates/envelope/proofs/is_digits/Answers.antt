-- `envelope::is_digits` meets its contract.
-- Assumes nothing.
use Prim.Native.Nat.{◌-◌}
use native.Mathlib.Omega.{arith}
use borrow.Author.Tests.{eqb-true}
use Rattle.laws.specs.Choice.{false≢true}
use Rattle.envelope.specs.Counted.{none_compared, one_compared, all_compared}
use Rattle.envelope.proofs.is_digits.Goals as goal

pub returns-then-part-gt20 : goal.returns-then-part-gt20
returns-then-part-gt20 c = λ q. absurd (false≢true q)

pub loop-i-init : goal.loop-i-init
loop-i-init c = let a = c.args in none_compared a.part.now a.n c.if-part-gt20.false

pub overflow_sub-i : goal.overflow_sub-i
overflow_sub-i c = omega (arith, c.loop-i-test.true)

pub bounds-part-i : goal.bounds-part-i
bounds-part-i c =
    omega (arith, c.loop-i-test.true, c.loop-i.invariant.inside)

pub returns-then-part-i : goal.returns-then-part-i
returns-then-part-i c = λ q. absurd (false≢true q)

pub returns-then-left-lt10 : goal.returns-then-left-lt10
returns-then-left-lt10 c = λ q.
    let a = c.args in
    all_compared a.part.now a.n c.loop-i.i c.loop-i.left c.loop-i.invariant c.loop-i-test.true c.if-part-i.false c.if-left-lt10.true (eqb-true (c.loop-i.i - 1) 0 q)

pub loop-i-smaller : goal.loop-i-smaller
loop-i-smaller c = omega (arith, c.loop-i-test.true)

pub loop-i-preserved : goal.loop-i-preserved
loop-i-preserved c =
    let a = c.args in
    one_compared a.part.now a.n c.loop-i.i c.loop-i.left c.loop-i.invariant c.loop-i-test.true c.if-part-i.false c.if-left-lt10.false

pub returns : goal.returns
returns c = λ q. absurd (false≢true q)
