-- `gaps::is_zero` meets its contract. Invariant: the bits gathered are 0 and the runs that are left are zero exactly when all runs are.
-- Assumes nothing.
use Rattle.std.proofs.Common.{eqb, ◌/◌, length, ap, ◌∙◌}
use Rattle.laws.specs.Choice.{both}
use Rattle.gaps.specs.Zero.{all_zero, run_step, runs_end, in_runs}
use Rattle.gaps.proofs.is_zero.Goals as goal

pub loop-run-preserved : goal.loop-run-preserved
loop-run-preserved c =
    let l = c.loop-run in
    run_step c.as_chunks.result.0.now l.run-index (eqb l.all 0) (eqb c.gathered-all.result 0) c.loop-run-test.true c.gathered-all.ensures ∙ l.invariant

pub returns : goal.returns
returns c =
    let l = c.loop-run in
    let d = c.as_chunks in
    let b = c.args.b.now in
    c.gathered.ensures
    ∙ ap (λ t. both t (all_zero d.result.1.now)) (runs_end d.result.0.now l.run-index (eqb l.all 0) c.loop-run-test.false ∙ l.invariant)
    ∙ rw (d.ensures.front, d.ensures.back) (in_runs 512 (length b / 512) b)
