-- `envelope::message` meets its contract.
-- Assumes nothing.
use mathlib.Core.Path.{sym, ◌∙◌}
use Rattle.envelope.proofs.message.Goals as goal

pub returns-then-equals : goal.returns-then-equals
returns-then-equals c = rw (sym c.equals.ensures ∙ c.if-equals.true)

pub returns-then-equals-2 : goal.returns-then-equals-2
returns-then-equals-2 c =
    rw (sym c.equals.ensures ∙ c.if-equals.false, sym c.equals-2.ensures ∙ c.if-equals-2.true)

pub returns : goal.returns
returns c =
    rw (sym c.equals.ensures ∙ c.if-equals.false, sym c.equals-2.ensures ∙ c.if-equals-2.false)
