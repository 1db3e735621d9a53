use mathlib.Core.Path.{◌∙◌}
use native.Mathlib.Omega.{arith}
use Rattle.syntax.specs.Masks.{permitted_mask}
use Rattle.syntax.proofs.bytes.permitted.Goals as goal

pub returns : goal.returns
returns c = c.in_mask.ensures ∙ permitted_mask c.args.b (omega arith)
