-- `envelope::read_uih` meets its contract.
-- Assumes nothing.
use mathlib.Core.Path.{sym, ◌∙◌}
use Rattle.envelope.specs.Said.{uih_said}
use Rattle.envelope.specs.Written.{skdupd_head, tsdupd_head, tsdupd_12b_head}
use Rattle.envelope.proofs.read_uih.Goals as goal

pub returns-then-begins : goal.returns-then-begins
returns-then-begins c =
    let g = c.args.segment.now in record { uih = (uih_said g (c.read_written.ensures ∙ skdupd_head g (sym c.begins.ensures ∙ c.if-begins.true))).0; said = (uih_said g (c.read_written.ensures ∙ skdupd_head g (sym c.begins.ensures ∙ c.if-begins.true))).1 }

pub returns-then-begins-2 : goal.returns-then-begins-2
returns-then-begins-2 c =
    let g = c.args.segment.now in record { uih = (uih_said g (c.read_written-then-begins-2.ensures ∙ tsdupd_head g (sym c.begins-2.ensures ∙ c.if-begins-2.true))).0; said = (uih_said g (c.read_written-then-begins-2.ensures ∙ tsdupd_head g (sym c.begins-2.ensures ∙ c.if-begins-2.true))).1 }

pub returns-then-begins-3 : goal.returns-then-begins-3
returns-then-begins-3 c =
    let g = c.args.segment.now in record { uih = (uih_said g (c.read_written-then-begins-3.ensures ∙ tsdupd_12b_head g (sym c.begins-3.ensures ∙ c.if-begins-3.true))).0; said = (uih_said g (c.read_written-then-begins-3.ensures ∙ tsdupd_12b_head g (sym c.begins-3.ensures ∙ c.if-begins-3.true))).1 }

pub returns : goal.returns
returns c = record { uih = (uih_said c.args.segment.now c.read_any.ensures).0; said = (uih_said c.args.segment.now c.read_any.ensures).1 }
