-- `services::numbers::plain_from` meets its contract.
-- Assumes nothing.
use mathlib.Core.Path.{◌∙◌}
use Rattle.services.specs.Numbers.{number_on}
use Rattle.services.proofs.numbers.plain_from.Goals as goal

pub returns-then-is_plain : goal.returns-then-is_plain
returns-then-is_plain c =
    number_on c.args.s.now c.args.i c.requires.0 (c.is_plain.ensures c.if-is_plain.true) ∙ c.requires.1
