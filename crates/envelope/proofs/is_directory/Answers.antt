-- `envelope::is_directory` meets its contract.
-- Assumes nothing.
use mathlib.Core.Path.{sym, ◌∙◌}
use Rattle.envelope.proofs.is_directory.Goals as goal

pub returns-then-not-equals : goal.returns-then-not-equals
returns-then-not-equals c =
    rw (sym c.equals.ensures ∙ c.if-not-equals.true)

pub returns-then-is_present : goal.returns-then-is_present
returns-then-is_present c =
    rw (sym c.equals.ensures ∙ c.if-not-equals.false, sym c.is_present.ensures ∙ c.if-is_present.true)

pub returns : goal.returns
returns c =
    rw (sym c.equals.ensures ∙ c.if-not-equals.false, sym c.is_present.ensures ∙ c.if-is_present.false) c.equals-2.ensures
