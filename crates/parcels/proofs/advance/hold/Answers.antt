-- `parcels::advance::hold` puts the rest of a parcel behind the bytes that are kept.
-- Assumes nothing.
use Prim.Native.Nat.{◌-◌}
use mathlib.Core.Path.{sym, ◌∙◌}
use native.Mathlib.Omega.{arith}
use lib.ListN.{length, take, drop}
use Rattle.laws.specs.Lists.{rest_is}
use Rattle.parcels.specs.Holding.{awaited_is, tail_fits, held_final, held_on}
use Rattle.parcels.proofs.advance.hold.Goals as goal

pub returns-then-not-is_awaited : goal.returns-then-not-is_awaited
returns-then-not-is_awaited c =
    let a = c.args in
    let p = c.requires in
    held_final a.parcel.now a.x a.store.now p.0 p.1 (sym c.is_awaited.ensures ∙ c.if-not-is_awaited.true) p.3

pub overflow_add-result : goal.overflow_add-result
overflow_add-result c =
    let a = c.args in
    let p = c.requires in
    let h = tail_fits a.parcel.now a.x a.store.now (awaited_is a.x.kept.answer (sym c.is_awaited.ensures ∙ c.if-not-is_awaited.false)) p.3 _ (rest_is a.parcel.now a.x.at) in
    omega arith

pub returns : goal.returns
returns c =
    let a = c.args in
    let p = c.requires in
    held_on a.parcel.now a.x a.store.now p.0 p.1 (take (length a.parcel.now - a.x.at) (drop a.x.at a.parcel.now)) (rest_is a.parcel.now a.x.at)
    c.find_terminator-ending.result.released c.find_terminator-ending.ensures.1 (awaited_is a.x.kept.answer (sym c.is_awaited.ensures ∙ c.if-not-is_awaited.false)) p.3 (length a.parcel.now) c.put_bytes.new.out c.put_bytes.ensures.1
