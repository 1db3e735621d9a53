use mathlib.Core.Path.{◌∙◌}
use native.Mathlib.Omega.{arith}
use Rattle.syntax.specs.Masks.{text_mask}
use Rattle.syntax.proofs.bytes.is_text.Goals as goal

pub returns : goal.returns
returns c = c.in_mask.ensures ∙ text_mask c.args.b (omega arith)
