-- `parcels::advance::advance` reads a parcel part by part; what is left of it grows less.
-- Assumes nothing.
use mathlib.Core.Path.{refl}
use borrow.Author.Tests.{not-true, not-false}
use Rattle.parcels.specs.Advancing.{upto_start, upto_size, upto_within, upto_standing, upto_on, upto_less, upto_held, advanced}
use Rattle.parcels.proofs.advance.advance.Goals as goal

pub loop-x-init : goal.loop-x-init
loop-x-init c =
    let a = c.args in
    let p = c.requires in
    upto_start a.parcel.now _ a.store.now a.rows.now p.0 refl refl refl p.1 p.2

pub go_on-x-requires : goal.go_on-x-requires
go_on-x-requires c =
    (upto_standing _ _ _ _ _ _ _ c.loop-x.invariant (not-true _ c.loop-x-test.true), upto_within _ _ _ _ _ _ _ c.loop-x.invariant)

pub loop-x-smaller : goal.loop-x-smaller
loop-x-smaller c =
    upto_less _ _ _ _ _ _ _ c.loop-x.invariant _ _ _ c.go_on-x.ensures (not-true _ c.loop-x-test.true)

pub loop-x-preserved : goal.loop-x-preserved
loop-x-preserved c =
    upto_on _ _ _ _ _ _ _ c.loop-x.invariant _ _ _ c.go_on-x.ensures

pub hold-requires : goal.hold-requires
hold-requires c =
    (upto_size _ _ _ _ _ _ _ c.loop-x.invariant, c.loop-x.invariant.onward.sized, upto_within _ _ _ _ _ _ _ c.loop-x.invariant, c.loop-x.invariant.last (not-false _ c.loop-x-test.false))

pub shape_of-store : goal.shape_of-store
shape_of-store c =
    upto_held _ _ _ _ _ _ _ c.loop-x.invariant _ _ c.hold.ensures

pub shape_of-rows : goal.shape_of-rows
shape_of-rows c = c.loop-x.invariant.onward.long

pub returns : goal.returns
returns c =
    advanced _ _ _ _ _ _ _ c.loop-x.invariant _ _ c.hold.ensures
