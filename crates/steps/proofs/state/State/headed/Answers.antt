use borrow.Author.Rules.{rules}
use Rattle.steps.proofs.state.State.headed.Goals as goal

pub returns : goal.returns
returns c = rw c.start.ensures
