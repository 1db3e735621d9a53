-- `envelope::open_written` meets its contract.
-- Assumes nothing.
use Rattle.std.specs.Prelude.{Some, None}
use mathlib.Core.Path.{sym, ◌∙◌}
use Rattle.envelope.specs.Written.{found_absent, found_good}
use Rattle.envelope.proofs.open_written.Goals as goal

pub returns-then-is_absent : goal.returns-then-is_absent
returns-then-is_absent c =
    found_absent None Some c.behind-dialogue.ensures (sym c.is_absent.ensures ∙ c.if-is_absent.true)

pub returns : goal.returns
returns c =
    found_good None Some c.behind-dialogue.ensures (sym c.is_absent.ensures ∙ c.if-is_absent.false)
