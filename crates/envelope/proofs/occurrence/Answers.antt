-- `envelope::occurrence` meets its contract.
-- Assumes nothing.
use mathlib.Core.Path.{ap, ◌∙◌}
use Rattle.parts.specs.declared.Part.{Part}
use Rattle.parts.specs.Places.{occurrence_at}
use Rattle.envelope.proofs.occurrence.Goals as goal

pub returns : goal.returns
returns c =
    let s = c.args.segment.now in
    c.occurrence.ensures ∙ ap (λ (x : Part). occurrence_at s x 1) c.element.ensures
