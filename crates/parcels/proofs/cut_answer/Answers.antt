-- `parcels::cut_answer` meets its contract.
-- Assumes nothing.
use mathlib.Core.Path.{ap, ◌∙◌}
use Rattle.answers.specs.Answers.{refused}
use Rattle.parcels.specs.CallLaws.{cut_bad, cut_good}
use Rattle.parcels.proofs.cut_answer.Goals as goal

pub returns-then-run-body : goal.returns-then-run-body
returns-then-run-body c =
    ap refused c.at.ensures ∙ cut_bad c.args.body.now c.args.offset c.permitted_run-run.result c.permitted_run-run.ensures c.if-run-body.true

pub returns : goal.returns
returns c =
    ap refused c.at-2.ensures ∙ cut_good c.args.body.now c.args.offset c.permitted_run-run.result c.permitted_run-run.ensures c.if-run-body.false
