-- `envelope::read_uib` meets its contract.
-- Assumes nothing.
use mathlib.Core.Path.{sym, ◌∙◌}
use Rattle.envelope.specs.Said.{uib_said}
use Rattle.envelope.specs.Written.{opening_head}
use Rattle.envelope.proofs.read_uib.Goals as goal

pub returns-then-begins : goal.returns-then-begins
returns-then-begins c =
    let g = c.args.segment.now in record { uib = (uib_said g (c.open_written.ensures ∙ opening_head g (sym c.begins.ensures ∙ c.if-begins.true))).0; said = (uib_said g (c.open_written.ensures ∙ opening_head g (sym c.begins.ensures ∙ c.if-begins.true))).1 }

pub returns : goal.returns
returns c = record { uib = (uib_said c.args.segment.now c.open_any.ensures).0; said = (uib_said c.args.segment.now c.open_any.ensures).1 }
