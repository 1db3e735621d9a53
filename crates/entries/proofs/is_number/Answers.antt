-- `entries::is_number` meets its contract.
-- Assumes nothing.
use mathlib.Core.Path.{◌∙◌}
use Rattle.entries.specs.Withdrawing.{number_none, number_long, number_is}
use Rattle.entries.proofs.is_number.Goals as goal

pub returns-then-text-lt1 : goal.returns-then-text-lt1
returns-then-text-lt1 c = number_none c.args.text.now c.if-text-lt1.true

pub returns-then-text-gt10 : goal.returns-then-text-gt10
returns-then-text-gt10 c = number_long c.args.text.now c.if-text-gt10.true

pub returns : goal.returns
returns c = c.all_permitted.ensures ∙ number_is c.args.text.now c.if-text-lt1.false c.if-text-gt10.false
