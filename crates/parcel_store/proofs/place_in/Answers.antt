-- `place_in` meets its contract.
-- Assumes nothing.
use Rattle.parcel_store.proofs.place_in.Goals as goal

pub returns : goal.returns
returns c = rw (c.number_at.ensures.0, c.count_at.ensures, c.count_at-2.ensures, c.count_at-3.ensures, c.count_at-4.ensures, c.count_at-5.ensures)
