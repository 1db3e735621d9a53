-- `parcels::passing::named` gives the refusal as the final answer.
-- Assumes nothing.
use Rattle.parcels.proofs.passing.named.Goals as goal

pub returns : goal.returns
returns c = rw c.answered.ensures
