-- `held` meets its contract.
-- Assumes nothing.
use native.Mathlib.Omega.{arith}
use Rattle.service_entries.specs.Ways.{found_fits, held_found, held_gap}
use Rattle.service_entries.proofs.held.Goals as goal

pub overflow_mul-k : goal.overflow_mul-k
overflow_mul-k c =
    let a = c.args in
    let h = found_fits a.room.now a.number c.find.result c.find.ensures c.in-At.k c.in-At.is in
    omega arith

pub known_at-requires : goal.known_at-requires
known_at-requires c =
    let a = c.args in
    found_fits a.room.now a.number c.find.result c.find.ensures c.in-At.k c.in-At.is

pub returns-in-At : goal.returns-in-At
returns-in-At c =
    let a = c.args in
    held_found a.room.now a.number c.find.result c.find.ensures c.in-At.k c.known_at.result c.in-At.is c.known_at.ensures

pub returns-in-Gap : goal.returns-in-Gap
returns-in-Gap c =
    let a = c.args in
    held_gap a.room.now a.number c.find.result c.find.ensures _ c.in-Gap.is
