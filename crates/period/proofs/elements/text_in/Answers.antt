-- `text_in` meets its contract.
-- Assumes nothing.
use mathlib.Core.Path.{ap, ◌∙◌}
use Rattle.parts.specs.Places.{bytes_of}
use Rattle.period.proofs.elements.text_in.Goals as goal

pub returns : goal.returns
returns c =
    let a = c.args in
    c.bytes_of.ensures ∙ ap (bytes_of a.s.now) c.component.ensures
