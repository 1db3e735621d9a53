-- `envelope::value_in` meets its contract.
-- Assumes nothing.
use mathlib.Core.Path.{ap, ◌∙◌}
use Rattle.parts.specs.declared.Part.{Part}
use Rattle.parts.specs.Places.{bytes_of, component_at}
use Rattle.envelope.specs.Laws.{value_at}
use Rattle.envelope.proofs.value_in.Goals as goal

pub returns : goal.returns
returns c =
    let s = c.args.segment.now in
    c.bytes_of.ensures ∙ ap (bytes_of s) (c.component.ensures ∙ ap (λ (x : Part). component_at s x c.args.c) c.requires) ∙ value_at s 1 c.args.c
