-- `envelope::message_12b` meets its contract.
-- Assumes nothing.
use mathlib.Core.Path.{sym, ◌∙◌}
use Rattle.envelope.proofs.message_12b.Goals as goal

pub returns-then-not-equals : goal.returns-then-not-equals
returns-then-not-equals c =
    rw (sym c.equals.ensures ∙ c.if-not-equals.true)

pub returns : goal.returns
returns c =
    rw (sym c.equals.ensures ∙ c.if-not-equals.false)
