-- `state_in` meets its contract.
-- Assumes nothing.
use Rattle.parcel_store.proofs.state_in.Goals as goal

pub returns : goal.returns
returns c =
    rw (c.phase_of.ensures, c.message_of.ensures, c.number_at-3.ensures.0, c.number_at-4.ensures.0, c.place_in.ensures, c.number_at-5.ensures.0)
    (rw (c.number_at.ensures.0, c.number_at-2.ensures.0))
