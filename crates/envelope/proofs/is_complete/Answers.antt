-- `envelope::is_complete` meets its contract.
-- Assumes nothing.
use mathlib.Core.Path.{sym, ◌∙◌}
use Rattle.laws.specs.Choice.{both_true}
use Rattle.parts.specs.Places.{present}
use Rattle.envelope.proofs.is_complete.Goals as goal

pub returns-then-not-is_present : goal.returns-then-not-is_present
returns-then-not-is_present c =
    rw (sym c.is_present.ensures ∙ c.if-not-is_present.true)

pub returns-then-not-is_present-2 : goal.returns-then-not-is_present-2
returns-then-not-is_present-2 c =
    rw (sym c.is_present.ensures ∙ c.if-not-is_present.false, sym c.is_present-2.ensures ∙ c.if-not-is_present-2.true)

pub returns-then-not-is_present-3 : goal.returns-then-not-is_present-3
returns-then-not-is_present-3 c =
    rw (sym c.is_present.ensures ∙ c.if-not-is_present.false, sym c.is_present-2.ensures ∙ c.if-not-is_present-2.false, sym c.is_present-3.ensures ∙ c.if-not-is_present-3.true)

pub returns : goal.returns
returns c =
    let a = c.args in
    rw (sym c.is_present.ensures ∙ c.if-not-is_present.false, sym c.is_present-2.ensures ∙ c.if-not-is_present-2.false, sym c.is_present-3.ensures ∙ c.if-not-is_present-3.false)
    (c.is_present-4.ensures ∙ sym (both_true (present a.agency.now)))
