-- `envelope::value` meets its contract.
-- Assumes nothing.
use mathlib.Core.Path.{ap, ◌∙◌}
use Rattle.parts.specs.Places.{bytes_of}
use Rattle.envelope.specs.Laws.{value_at}
use Rattle.envelope.proofs.value.Goals as goal

-- src/lib.rt:70:1
pub returns : goal.returns
returns c =
    let a = c.args in
    c.bytes_of.ensures ∙ ap (bytes_of a.segment.now) c.place.ensures ∙ value_at a.segment.now a.e a.c
