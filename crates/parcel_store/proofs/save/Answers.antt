-- `save` meets its contract.
-- Assumes nothing.
use Rattle.parcel_store.proofs.save.Goals as goal

pub returns : goal.returns
returns c = rw (c.put_bytes-2.ensures.1, c.put_bytes.ensures.1, c.other_head.ensures, c.state_head.ensures)
