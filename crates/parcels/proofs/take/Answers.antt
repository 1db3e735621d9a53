-- `parcels::take` meets its contract.
-- Assumes nothing.
use mathlib.Core.Path.{sym, ◌∙◌}
use native.Mathlib.Omega.{arith}
use Rattle.parcels.specs.Calls.{parcel_told}
use Rattle.parcels.specs.CallLaws.{take_other, take_given, take_crowded, take_open, sized_loaded, awaited_is}
use Rattle.parcels.proofs.take.Goals as goal

pub returns-then-store-ne-STORE : goal.returns-then-store-ne-STORE
returns-then-store-ne-STORE c =
    let t = take_other c.args.store.now c.args.parcel.now c.args.rows.now (parcel_told c.no_room.result) c.if-store-ne-STORE.true c.no_room.ensures in
    record { told = t.0; left = t.1.0; out = t.1.1 }

pub returns-then-not-is_awaited : goal.returns-then-not-is_awaited
returns-then-not-is_awaited c =
    let t = take_given c.args.store.now c.args.parcel.now c.args.rows.now c.load-kept.result (parcel_told c.told.result) c.if-store-ne-STORE.false c.load-kept.ensures
    (sym c.is_awaited.ensures ∙ c.if-not-is_awaited.true) c.told.ensures in
    record { told = t.0; left = t.1.0; out = t.1.1 }

pub has_room-requires : goal.has_room-requires
has_room-requires c = (
  c.if-store-ne-STORE.false,
  sized_loaded c.args.store.now c.load-kept.result c.load-kept.ensures (λ j. omega (arith, c.slice_known-1.given j)),
  awaited_is c.load-kept.result.answer (sym c.is_awaited.ensures ∙ c.if-not-is_awaited.false),
)

pub returns-then-not-has_room : goal.returns-then-not-has_room
returns-then-not-has_room c =
    let t = take_crowded c.args.store.now c.args.parcel.now c.args.rows.now c.load-kept.result (parcel_told c.no_room-then-not-has_room.result) c.has_room.result c.if-store-ne-STORE.false c.load-kept.ensures
    c.has_room.ensures (c.if-not-has_room.true) c.no_room-then-not-has_room.ensures in
    record { told = t.0; left = t.1.0; out = t.1.1 }

pub advance-x-requires : goal.advance-x-requires
advance-x-requires c = (
  c.if-store-ne-STORE.false,
  sized_loaded c.args.store.now c.load-kept.result c.load-kept.ensures (λ j. omega (arith, c.slice_known-1.given j)),
  awaited_is c.load-kept.result.answer (sym c.is_awaited.ensures ∙ c.if-not-is_awaited.false),
)

pub returns : goal.returns
returns c =
    let t = take_open c.args.store.now c.args.parcel.now c.args.rows.now c.load-kept.result c.advance-x.result c.advance-x.new.store c.advance-x.new.rows c.save.new.store
    (parcel_told c.told-2.result) c.has_room.result c.if-store-ne-STORE.false c.load-kept.ensures
    (awaited_is c.load-kept.result.answer (sym c.is_awaited.ensures ∙ c.if-not-is_awaited.false))
    c.has_room.ensures (c.if-not-has_room.false) c.advance-x.ensures c.save.ensures c.told-2.ensures in
    record { told = t.0; left = t.1.0; out = t.1.1 }
