-- `services::eights::key_of` meets its contract.
-- Assumes nothing.
use borrow.Author.Rules.{rules}
use Rattle.services.specs.Inner.{key_of}
use Rattle.services.proofs.eights.key_of.Goals as goal

pub returns : goal.returns
unfolding key_of
returns c = search rules
