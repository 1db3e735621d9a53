-- `entries::withdraw_at` meets its contract.
-- Assumes nothing.
use mathlib.Core.Path.{◌∙◌}
use Rattle.entries.specs.Withdrawing.{left_none, left_out, left_live}
use Rattle.entries.proofs.withdraw_at.Goals as goal

pub returns-then-room-at-eq0 : goal.returns-then-room-at-eq0
returns-then-room-at-eq0 c =
    let w = left_none c.args.room.now c.args.at c.if-room-at-eq0.true in
    record { told = w.0; left = w.1 }

pub returns-then-room-at-eq0-2 : goal.returns-then-room-at-eq0-2
returns-then-room-at-eq0-2 c =
    let a = c.args in
    let w = left_out a.room.now a.at c.requires c.if-room-at-eq0.false c.if-room-at-eq0-2.true in
    record {
      told = w.0;
      left = c.close_gap.ensures ∙ w.1;
    }

pub returns : goal.returns
returns c =
    let a = c.args in
    let w = left_live a.room.now a.at c.requires c.if-room-at-eq0.false c.if-room-at-eq0-2.false in
    record {
      told = w.0;
      left = c.put_bytes.ensures.1 ∙ w.1;
    }
