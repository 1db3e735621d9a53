-- `load` meets its contract.
-- Assumes nothing.
use Rattle.parcel_store.specs.Store.{kept_in}
use Rattle.parcel_store.proofs.load.Goals as goal

pub returns : goal.returns
unfolding kept_in
returns c =
    rw (c.state_in.ensures, c.number_at.ensures.0, c.length_of.ensures.0, c.number_at-3.ensures.0, c.length_of-2.ensures.0, c.length_of-3.ensures.0, c.number_at-6.ensures.0, c.final_of.ensures)
    (rw (c.number_at-2.ensures.0, c.number_at-4.ensures.0, c.number_at-5.ensures.0, c.number_at-7.ensures.0, c.number_at-8.ensures.0, c.number_at-9.ensures.0))
