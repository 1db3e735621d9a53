-- `rising_end` meets its contract.
-- Assumes nothing.
use mathlib.Core.Path.{◌∙◌}
use borrow.Author.Tests.{le-ltb, lt-ltb, le-leb, lt-leb}
use lib.ListN.{get_or}
use Rattle.period.specs.Pops.{run_stops, run_goes, run_ends}
use Rattle.period.proofs.written.rising_end.Goals.{At-loop-i, In-loop-i}
use Rattle.period.proofs.written.rising_end.Goals as goal

pub returns-then-b-last : goal.returns-then-b-last
returns-then-b-last c =
    run_stops c.args.g.now c.loop-i.i c.loop-i.last c.loop-i-test.true (rw (le-ltb c.loop-i.last (get_or c.args.g.now c.loop-i.i 0) c.if-b-last.true)) ∙ c.loop-i.invariant

pub returns-then-b-gt55 : goal.returns-then-b-gt55
returns-then-b-gt55 c =
    run_stops c.args.g.now c.loop-i.i c.loop-i.last c.loop-i-test.true
    (rw (lt-ltb c.loop-i.last (get_or c.args.g.now c.loop-i.i 0) c.if-b-last.false, lt-leb (get_or c.args.g.now c.loop-i.i 0) 55 c.if-b-gt55.true)) ∙ c.loop-i.invariant

pub loop-i-preserved : goal.loop-i-preserved
loop-i-preserved c =
    run_goes c.args.g.now c.loop-i.i c.loop-i.last c.loop-i-test.true
    (rw (lt-ltb c.loop-i.last (get_or c.args.g.now c.loop-i.i 0) c.if-b-last.false, le-leb (get_or c.args.g.now c.loop-i.i 0) 55 c.if-b-gt55.false)) ∙ c.loop-i.invariant

pub returns : goal.returns
returns c =
    run_ends c.args.g.now c.loop-i.i c.loop-i.last c.loop-i-test.false ∙ c.loop-i.invariant
