use borrow.Author.Rules.{rules}
use Rattle.steps.proofs.step.row.Goals as goal

pub returns : goal.returns
returns c = rw c.tag_at.ensures
