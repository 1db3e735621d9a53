-- `entries::withdraw_number` meets its contract.
-- Assumes nothing.
use mathlib.Core.Path.{◌≡◌, sym, ◌∙◌, ap}
use mathlib.Core.Bool.{true}
use Prim.Native.Nat.{◌/◌, ◌<◌}
use native.Mathlib.Omega.{arith}
use lib.ListN.{length}
use Rattle.laws.specs.Filled.{filled_up}
use Rattle.slots.specs.Find.{find_of}
use Rattle.contents.specs.Contents.{good_number}
use Rattle.rooms.specs.Order.{number_most}
use Rattle.entries.specs.Withdrawing.{found_no, found_at, found_gap, found_within}
use Rattle.entries.proofs.withdraw_number.Goals.{In-Ok}
use Rattle.entries.proofs.withdraw_number.Goals as goal

pub returns-then-not-is_number : goal.returns-then-not-is_number
returns-then-not-is_number c =
    let w = found_no c.args.room.now c.args.number.now (sym c.is_number.ensures ∙ c.if-not-is_number.true) in
    record { told = w.0; left = w.1 }

pub filled_up-filled-requires : goal.filled_up-filled-requires
filled_up-filled-requires c = number_most c.args.number.now (sym c.is_number.ensures ∙ c.if-not-is_number.false)

-- the number was found
module _ (t : In-Ok) where
  is_good : good_number t.args.number.now ≡ true
  is_good = sym t.is_number.ensures ∙ t.if-not-is_number.false

  is_found : t.find.result ≡ find_of t.args.room.now (filled_up 10 t.args.number.now)
  is_found = t.find.ensures ∙ ap (find_of t.args.room.now) t.filled_up-filled.ensures

  inside : t.in-Ok.k < length t.args.room.now / 140
  inside = found_within t.args.room.now (filled_up 10 t.args.number.now) t.find.result t.in-Ok.k is_found t.in-Ok.is

pub overflow_mul-k : goal.overflow_mul-k
overflow_mul-k c = let h = inside (goal.at.overflow_mul-k c).In-Ok in omega arith

pub withdraw_at-requires : goal.withdraw_at-requires
withdraw_at-requires c = let h = inside (goal.at.withdraw_at-requires c).In-Ok in omega arith

pub returns-in-Ok : goal.returns-in-Ok
returns-in-Ok c =
    let w = found_at c.args.room.now c.args.number.now (is_good (goal.at.returns-in-Ok c).In-Ok) c.find.result (is_found (goal.at.returns-in-Ok c).In-Ok) c.in-Ok.k c.in-Ok.is in
    record {
      told = c.withdraw_at.ensures.told ∙ w.0;
      left = c.withdraw_at.ensures.left ∙ w.1;
    }

pub returns-in-Err : goal.returns-in-Err
returns-in-Err c =
    let a = c.args in
    let w = found_gap a.room.now a.number.now (sym c.is_number.ensures ∙ c.if-not-is_number.false) c.find.result (c.find.ensures ∙ ap (find_of a.room.now) c.filled_up-filled.ensures) c.in-Err.field-0 c.in-Err.is in
    record { told = w.0; left = w.1 }
