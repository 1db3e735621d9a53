use mathlib.Core.Path.{◌∙◌}
use borrow.Author.Rules.{rules}
use Rattle.steps.proofs.state.State.ended.Goals as goal

pub returns : goal.returns
returns c = c.with.ensures ∙ rw (c.one_more-segments.ensures, c.one_more-messages.ensures)
