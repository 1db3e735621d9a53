-- `parcels::begin` meets its contract.
-- Assumes nothing.
use Rattle.parcels.specs.Calls.{parcel_told}
use Rattle.parcels.specs.CallLaws.{begin_other, begun}
use Rattle.parcels.proofs.begin.Goals as goal

pub returns-then-store-ne-STORE : goal.returns-then-store-ne-STORE
returns-then-store-ne-STORE c =
    let t = begin_other c.args.wish c.args.store.now (parcel_told c.no_room.result) c.if-store-ne-STORE.true c.no_room.ensures in
    record { told = t.0; left = t.1 }

pub returns : goal.returns
returns c =
    let t = begun c.args.wish c.args.store.now c.opening.result c.save.new.store c.if-store-ne-STORE.false c.opening.ensures c.save.ensures in
    record { told = t.0; left = t.1 }
