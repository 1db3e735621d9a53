-- `remove_service` meets its contract.
-- Assumes nothing.
use native.Mathlib.Omega.{arith}
use Rattle.service_entries.specs.Ways.{found_fits, remove_found, remove_gap}
use Rattle.service_entries.proofs.remove_service.Goals as goal

pub overflow_mul-k : goal.overflow_mul-k
overflow_mul-k c =
    let a = c.args in
    let h = found_fits a.room.now a.number c.find.result c.find.ensures c.in-Ok.k c.in-Ok.is in
    omega arith

pub remove_at-requires : goal.remove_at-requires
remove_at-requires c =
    let a = c.args in
    found_fits a.room.now a.number c.find.result c.find.ensures c.in-Ok.k c.in-Ok.is

pub returns-in-Ok : goal.returns-in-Ok
returns-in-Ok c =
    let a = c.args in
    remove_found a.room.now a.number c.find.result c.find.ensures c.in-Ok.k c.remove_at.new.room c.in-Ok.is c.remove_at.ensures

pub returns-in-Err : goal.returns-in-Err
returns-in-Err c =
    let a = c.args in
    remove_gap a.room.now a.number c.find.result c.find.ensures _ c.in-Err.is
