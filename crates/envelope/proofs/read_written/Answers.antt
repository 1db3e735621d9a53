-- `envelope::read_written` meets its contract.
-- Assumes nothing.
use Rattle.std.specs.Prelude.{Err}
use mathlib.Core.Path.{sym, ◌∙◌}
use Rattle.envelope.specs.Written.{found_absent, found_good}
use Rattle.envelope.proofs.read_written.Goals as goal
use Rattle.envelope.specs.declared.HeadError.TheVariants.{Missing}
use Rattle.envelope.specs.Envelope.{heading}

pub returns-then-is_absent : goal.returns-then-is_absent
returns-then-is_absent c =
    found_absent (Err Missing) (heading c.args.message) c.behind-reference.ensures (sym c.is_absent.ensures ∙ c.if-is_absent.true)

pub returns : goal.returns
returns c =
    found_good (Err Missing) (heading c.args.message) c.behind-reference.ensures (sym c.is_absent.ensures ∙ c.if-is_absent.false)
