-- `put_service` meets its contract.
-- Assumes nothing.
use mathlib.Core.Path.{◌≡◌}
use Prim.Native.Nat.{◌+◌, ◌*◌, ◌≤◌}
use native.Mathlib.Omega.{arith}
use borrow.Author.Rules.{rules}
use lib.ListN.{length}
use Rattle.service_entries.specs.Ways.{found_fits, gap_fits, put_found, put_gap}
use Rattle.service_entries.specs.Front.{entry_put}
use Rattle.service_entries.proofs.put_service.Goals.{After-find, In-Ok, In-Err, Start}
use Rattle.service_entries.proofs.put_service.Goals as goal

-- the slot that was found
module _ (k : In-Ok) where
  fits : k.in-Ok.k * 140 + 140 ≤ length k.args.room.now
  fits = found_fits k.args.room.now k.args.number k.find.result k.find.ensures k.in-Ok.k k.in-Ok.is

pub overflow_mul-at : goal.overflow_mul-at
overflow_mul-at c =
    let h = fits (goal.at.overflow_mul-at c).In-Ok in
    omega arith

pub overflow_add-at : goal.overflow_add-at
overflow_add-at c =
    let h = fits (goal.at.overflow_add-at c).In-Ok in
    omega arith

pub overflow_add-at-in-Ok : goal.overflow_add-at-in-Ok
overflow_add-at-in-Ok c =
    let h = fits (goal.at.overflow_add-at-in-Ok c).In-Ok in
    omega arith

-- the place where it would go
module _ (k : In-Err) where
  within : k.in-Err.k * 140 ≤ length k.args.room.now
  within = gap_fits k.args.room.now k.args.number k.find.result k.find.ensures k.in-Err.k k.in-Err.is

pub overflow_mul-k : goal.overflow_mul-k
overflow_mul-k c =
    let h = within (goal.at.overflow_mul-k c).In-Err in
    omega arith

pub insert_slot-requires : goal.insert_slot-requires
insert_slot-requires c =
    (within (goal.at.insert_slot-requires c).In-Err, c.requires)

pub returns-in-Ok : goal.returns-in-Ok
returns-in-Ok c =
    let l : length c.args.entry ≡ 65 = search rules in
    record {
      left = put_found c.args.room.now c.args.number c.find.result c.find.ensures c.in-Ok.k c.args.entry c.put_bytes.new.out c.in-Ok.is c.put_bytes.ensures.1;
      zeros = entry_put c.args.room.now c.args.end c.max.result c.requires (c.in-Ok.k * 140) c.args.entry c.put_bytes.new.out (fits (goal.at.returns-in-Ok c).In-Ok) c.max.ensures l c.put_bytes.ensures.1;
    }

pub returns-in-Err : goal.returns-in-Err
returns-in-Err c =
    let a = c.args in
    record {
      left = put_gap a.room.now a.number c.find.result c.find.ensures c.in-Err.k a.entry c.new_slot-slot.result c.insert_slot.new.room c.in-Err.is c.new_slot-slot.ensures
          c.insert_slot.ensures.left;
      zeros = c.insert_slot.ensures.zeros;
    }
