-- `short_count` meets its contract: the days left decide as all the days do.
-- Assumes nothing.
use mathlib.Core.Path.{◌≡◌, sym, ◌∙◌}
use Prim.Native.Nat.{◌+◌, ◌-◌}
use native.Mathlib.Omega.{arith}
use Rattle.calendar.specs.Short.{short_found, short_on, short_none}
use Rattle.calendar.proofs.day_string.short_count.Goals as goal

pub returns-then-test_day : goal.returns-then-test_day
returns-then-test_day c =
    let l = c.loop-k in
    let e : l.k - 1 + 1 ≡ l.k = omega (arith, c.loop-k-test.true) in
    e ∙ short_found c.args.days.now l.k c.loop-k-test.true (sym c.test_day.ensures ∙ c.if-test_day.true) ∙ l.invariant

pub loop-k-preserved : goal.loop-k-preserved
loop-k-preserved c =
    short_on c.args.days.now c.loop-k.k c.loop-k-test.true (sym c.test_day.ensures ∙ c.if-test_day.false) ∙ c.loop-k.invariant

pub returns : goal.returns
returns c =
    short_none c.args.days.now c.loop-k.k c.loop-k-test.false ∙ c.loop-k.invariant
