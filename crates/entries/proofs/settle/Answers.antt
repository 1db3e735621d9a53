-- `entries::settle` meets its contract.
-- Assumes nothing.
use Rattle.entries.specs.Released.{settle_gone, settle_kept}
use Rattle.entries.proofs.settle.Goals as goal

pub returns-then-room-from-gt1 : goal.returns-then-room-from-gt1
returns-then-room-from-gt1 c =
    let a = c.args in
    let s = settle_gone a.room.now a.from a.to c.if-room-from-gt1.true in
    record { told = s.0; left = s.1.0; behind = s.1.1 }

pub returns : goal.returns
returns c =
    let a = c.args in
    let l = c.make_live in
    let m = c.move_slot in
    let s = settle_kept a.room.now a.from a.to l.new.room m.new.room c.requires.0 c.requires.1 c.if-room-from-gt1.false l.ensures m.ensures in
    record { told = s.0; left = s.1.0; behind = s.1.1 }
