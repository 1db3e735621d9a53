-- `entries::make_live` meets its contract.
-- Assumes nothing.
use Prim.Native.Nat.{◌+◌, ◌-◌}
use native.Mathlib.Omega.{arith}
use Rattle.entries.specs.Released.{live_none, live_put}
use Rattle.entries.proofs.make_live.Goals as goal

pub returns-then-room-at-eq0 : goal.returns-then-room-at-eq0
returns-then-room-at-eq0 c = let a = c.args in live_none a.room.now a.at c.if-room-at-eq0.true

pub returns : goal.returns
returns c =
    let g = c.close_gap in
    live_put c.args.room.now c.args.at c.requires.0 c.requires.1 c.if-room-at-eq0.false (c.args.at + 140 - (c.args.at + 10)) g.new.b (omega arith) g.ensures
