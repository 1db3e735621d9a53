-- `envelope::repeated_at` meets its contract.
-- Assumes nothing.
use mathlib.Core.Path.{sym, ◌∙◌}
use Rattle.envelope.specs.Written.{uit_tag, uiz_tag}
use Rattle.envelope.proofs.repeated_at.Goals as goal

pub returns-then-begins : goal.returns-then-begins
returns-then-begins c =
    c.behind.ensures ∙ uit_tag c.args.segment.now (sym c.begins.ensures ∙ c.if-begins.true)

pub returns-then-begins-2 : goal.returns-then-begins-2
returns-then-begins-2 c =
    c.behind-then-begins-2.ensures ∙ uiz_tag c.args.segment.now (sym c.begins-2.ensures ∙ c.if-begins-2.true)

pub returns : goal.returns
returns c = c.place.ensures
