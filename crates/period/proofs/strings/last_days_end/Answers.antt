-- `last_days_end` meets its contract.
-- Assumes nothing.
use mathlib.Core.Path.{◌∙◌}
use Rattle.period.specs.Strings.{run_below, run_above, run_goes, run_ends}
use Rattle.period.proofs.strings.last_days_end.Goals as goal

pub returns-then-b-lt48 : goal.returns-then-b-lt48
returns-then-b-lt48 c =
    run_below c.args.g.now c.loop-i.i c.loop-i-test.true c.if-b-lt48.true ∙ c.loop-i.invariant

pub returns-then-b-gt49 : goal.returns-then-b-gt49
returns-then-b-gt49 c =
    run_above c.args.g.now c.loop-i.i c.loop-i-test.true c.if-b-gt49.true ∙ c.loop-i.invariant

pub loop-i-preserved : goal.loop-i-preserved
loop-i-preserved c =
    run_goes c.args.g.now c.loop-i.i c.loop-i-test.true c.if-b-lt48.false c.if-b-gt49.false ∙ c.loop-i.invariant

pub returns : goal.returns
returns c =
    run_ends c.args.g.now c.loop-i.i c.loop-i-test.false ∙ c.loop-i.invariant
