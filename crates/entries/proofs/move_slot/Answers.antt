-- `entries::move_slot` meets its contract.
-- Assumes nothing.
use Prim.Native.Nat.{◌+◌, ◌-◌}
use native.Mathlib.Omega.{arith}
use Rattle.entries.specs.Released.{move_put}
use Rattle.entries.proofs.move_slot.Goals as goal

pub returns : goal.returns
returns c =
    let a = c.args in
    let w = c.whole_slot-slot in
    let p = c.put_bytes in
    move_put a.room.now a.from a.to c.requires.0 c.requires.1 (a.to + 140 - a.to) w.result p.new.out (omega arith) w.ensures p.ensures.1
