-- `part_of` meets its contract.
-- Assumes nothing.
use mathlib.Core.Path.{ap, ◌∙◌}
use Rattle.parts.specs.Places.{bytes_of}
use Rattle.parts.specs.Located.{part_bytes}
use Rattle.period.proofs.elements.part_of.Goals as goal

pub returns : goal.returns
returns c =
    let a = c.args in
    c.bytes_of.ensures ∙ ap (bytes_of a.s.now) c.part_at.ensures ∙ part_bytes a.s.now a.segment a.e 1 a.c
