use mathlib.Core.Path.{◌∙◌}
use borrow.Author.Rules.{rules}
use Rattle.steps.proofs.state.State.onward.Goals as goal

pub returns : goal.returns
returns c = c.with.ensures ∙ rw c.one_more.ensures
