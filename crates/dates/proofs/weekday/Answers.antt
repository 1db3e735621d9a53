-- `weekday` meets its contract.
-- Assumes nothing.
use borrow.Author.Rules.{rules}
use Rattle.dates.specs.Days.{weekday_of}
use Rattle.dates.proofs.weekday.Goals as goal

pub returns : goal.returns
unfolding weekday_of
returns c = search rules
