-- `slot_check::is_slot` meets its contract.
-- Assumes nothing.
use mathlib.Core.Path.{◌≡◌, sym, ◌∙◌}
use mathlib.Core.Bool.{Bool, true, false}
use Prim.Native.Nat.{ℕ}
use native.Mathlib.Omega.{arith}
use lib.ListN.{get_or, take, drop}
use Rattle.gaps.specs.Zero.{all_zero}
use Rattle.slots.specs.Words.{Bytes}
use Rattle.slot_check.specs.Slot.{is_slot, flags_fit, fits_put, fits_none, fits_no_flag, fits_both, fits_no_entry, fits_live, other_slot, slot_no_number, slot_number_fits}
use Rattle.slot_check.proofs.is_slot.Goals.{After-is_number}
use Rattle.slot_check.proofs.is_slot.Goals as goal

pub returns-then-slot-ne-SLOT : goal.returns-then-slot-ne-SLOT
returns-then-slot-ne-SLOT c = sym (other_slot c.args.slot.now c.if-slot-ne-SLOT.true)

pub is_number-requires : goal.is_number-requires
is_number-requires c = c.if-slot-ne-SLOT.false

-- the number was looked at
module _ (n : After-is_number) where
  bytes : Bytes n.args.slot.now
  bytes i = omega (arith, n.type_inv.slot i)

  refused : n.is_number.result ≡ false → false ≡ is_slot n.args.slot.now
  refused t = slot_no_number n.args.slot.now n.if-slot-ne-SLOT.false bytes n.is_number.result n.is_number.ensures t

  abbrev live : ℕ
  live = get_or n.args.slot.now 10 0

  abbrev pending : ℕ
  pending = get_or n.args.slot.now 75 0

  abbrev no_live : Bool
  no_live = all_zero (take 64 (drop 11 n.args.slot.now))

  abbrev no_put : Bool
  no_put = all_zero (take 64 (drop 76 n.args.slot.now))

  fitting : n.is_number.result ≡ true → flags_fit live pending no_live no_put ≡ is_slot n.args.slot.now
  fitting t = slot_number_fits n.args.slot.now n.if-slot-ne-SLOT.false bytes n.is_number.result n.is_number.ensures t

pub returns-then-not-is_number : goal.returns-then-not-is_number
returns-then-not-is_number c = refused (goal.at.returns-then-not-is_number c).After-is_number (c.if-not-is_number.true)

pub returns-then-pending-ne1 : goal.returns-then-pending-ne1
returns-then-pending-ne1 c =
    let n = (goal.at.returns-then-pending-ne1 c).After-is_number in
    fits_none (live n) (pending n) (no_live n) (no_put n) c.if-live-eq0.true c.if-pending-ne1.true ∙ fitting n (c.if-not-is_number.false)

pub returns-then-live-eq0 : goal.returns-then-live-eq0
returns-then-live-eq0 c =
    let n = (goal.at.returns-then-live-eq0 c).After-is_number in
    c.is_zero.ensures ∙ fits_put (live n) (pending n) (no_live n) (no_put n) c.if-live-eq0.true c.if-pending-ne1.false ∙ fitting n (c.if-not-is_number.false)

pub returns-then-live-ne1 : goal.returns-then-live-ne1
returns-then-live-ne1 c =
    let n = (goal.at.returns-then-live-ne1 c).After-is_number in
    fits_no_flag (live n) (pending n) (no_live n) (no_put n) c.if-live-eq0.false c.if-live-ne1.true ∙ fitting n (c.if-not-is_number.false)

pub returns-then-pending-eq1 : goal.returns-then-pending-eq1
returns-then-pending-eq1 c =
    let n = (goal.at.returns-then-pending-eq1 c).After-is_number in
    fits_both (live n) (pending n) (no_live n) (no_put n) c.if-live-ne1.false c.if-pending-eq1.true ∙ fitting n (c.if-not-is_number.false)

pub returns-then-pending-gt2 : goal.returns-then-pending-gt2
returns-then-pending-gt2 c =
    let n = (goal.at.returns-then-pending-gt2 c).After-is_number in
    fits_no_entry (live n) (pending n) (no_live n) (no_put n) c.if-live-ne1.false c.if-pending-eq1.false c.if-pending-gt2.true ∙ fitting n (c.if-not-is_number.false)

pub returns : goal.returns
returns c =
    let n = (goal.at.returns c).After-is_number in
    c.is_zero-2.ensures ∙ fits_live (live n) (pending n) (no_live n) (no_put n) c.if-live-ne1.false c.if-pending-eq1.false c.if-pending-gt2.false ∙ fitting n (c.if-not-is_number.false)
