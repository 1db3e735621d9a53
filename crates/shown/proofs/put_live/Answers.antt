-- `shown::put_live` meets its contract.
-- Assumes nothing.
use native.Mathlib.Omega.{arith}
use mathlib.Core.Path.{◌∙◌, ap}
use Rattle.laws.specs.Put.{put_at}
use Rattle.shown.specs.Laws.{live_put_none, live_size, live_is}
use Rattle.shown.proofs.put_live.Goals as goal

pub returns-then-slot-eq0 : goal.returns-then-slot-eq0
returns-then-slot-eq0 c = live_put_none c.args.slot.now c.args.number.now c.args.out.now c.if-slot-eq0.true

pub put_line-requires : goal.put_line-requires
put_line-requires c = let l = live_size c.args.slot.now c.args.number.now c.if-slot-eq0.false in omega arith

pub returns : goal.returns
returns c = let a = c.args in c.put_line.ensures ∙ ap (put_at a.out.now 0) (live_is a.slot.now a.number.now c.if-slot-eq0.false)
