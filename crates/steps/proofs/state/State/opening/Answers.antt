use borrow.Author.Rules.{rules}
use Rattle.steps.proofs.state.State.opening.Goals as goal

pub returns : goal.returns
returns c = rw c.start-place.ensures
