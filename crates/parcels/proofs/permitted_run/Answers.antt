-- `parcels::permitted_run` meets its contract. Invariant: the bytes up to here are permitted, so that the rest decides.
-- Assumes nothing.
use native.Mathlib.Nat.{zero-add}
use Rattle.syntax.specs.Segment.{permitted_run}
use Rattle.parcels.specs.CallLaws.{run_more, run_stops, run_whole}
use Rattle.parcels.proofs.permitted_run.Goals as goal

pub loop-i-init : goal.loop-i-init
loop-i-init c = zero-add (permitted_run c.args.text.now)

pub returns-then-not-permitted : goal.returns-then-not-permitted
returns-then-not-permitted c =
    run_stops c.args.text.now c.loop-i.i c.permitted.result c.loop-i-test.true c.permitted.ensures
    (c.if-not-permitted.true) c.loop-i.invariant

pub loop-i-preserved : goal.loop-i-preserved
loop-i-preserved c =
    run_more c.args.text.now c.loop-i.i c.permitted.result c.loop-i-test.true c.permitted.ensures
    (c.if-not-permitted.false) c.loop-i.invariant

pub returns : goal.returns
returns c =
    run_whole c.args.text.now c.loop-i.i c.loop-i-test.false c.loop-i.invariant
