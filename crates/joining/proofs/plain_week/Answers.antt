-- `plain_week` meets its contract.
-- Assumes nothing.
use mathlib.Core.Path.{◌≡◌, ◌∙◌}
use mathlib.Core.List.{◌∷◌}
use Prim.Native.Nat.{◌+◌}
use lib.ListN.{get_or, drop}
use Rattle.laws.specs.Lists.{drop_here, drop_past}
use Rattle.joining.specs.Weekdays.{week_under, week_over, week_on, week_over_all}
use Rattle.joining.proofs.plain_week.Goals.{At-loop-i, In-loop-i}
use Rattle.joining.proofs.plain_week.Goals as goal

-- what is left begins with the byte that is read
module _ (t : In-loop-i) where
  here : drop t.loop-i.i t.args.g.now ≡ get_or t.args.g.now t.loop-i.i 0 ∷ drop (t.loop-i.i + 1) t.args.g.now
  here = drop_here t.args.g.now t.loop-i.i t.loop-i-test.true

pub returns-then-b-lt49 : goal.returns-then-b-lt49
returns-then-b-lt49 c =
    week_under (drop c.loop-i.i c.args.g.now) (drop (c.loop-i.i + 1) c.args.g.now) c.loop-i.week (get_or c.args.g.now c.loop-i.i 0) (here (goal.at.returns-then-b-lt49 c).In-loop-i) c.if-b-lt49.true ∙ c.loop-i.invariant

pub returns-then-b-gt55 : goal.returns-then-b-gt55
returns-then-b-gt55 c =
    week_over (drop c.loop-i.i c.args.g.now) (drop (c.loop-i.i + 1) c.args.g.now) c.loop-i.week (get_or c.args.g.now c.loop-i.i 0) (here (goal.at.returns-then-b-gt55 c).In-loop-i) c.if-b-gt55.true ∙ c.loop-i.invariant

pub loop-i-preserved : goal.loop-i-preserved
loop-i-preserved c =
    week_on (drop c.loop-i.i c.args.g.now) (drop (c.loop-i.i + 1) c.args.g.now) c.loop-i.week (get_or c.args.g.now c.loop-i.i 0) (here (goal.at.loop-i-preserved c).In-loop-i) c.if-b-lt49.false c.if-b-gt55.false c.with_bit-week.ensures ∙ c.loop-i.invariant

pub returns : goal.returns
returns c =
    week_over_all (drop c.loop-i.i c.args.g.now) c.loop-i.week (drop_past c.args.g.now c.loop-i.i c.loop-i-test.false) ∙ c.loop-i.invariant
