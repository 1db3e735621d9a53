-- `shown::put_pending` meets its contract.
-- Assumes nothing.
use native.Mathlib.Omega.{arith}
use mathlib.Core.Path.{◌∙◌, ap}
use Rattle.laws.specs.Put.{put_at}
use Rattle.shown.specs.Laws.{pending_put_none, put_size, put_is, del_size, del_is}
use Rattle.shown.proofs.put_pending.Goals as goal

pub returns-then-slot-eq0 : goal.returns-then-slot-eq0
returns-then-slot-eq0 c = pending_put_none c.args.slot.now c.args.number.now c.args.out.now c.args.at c.if-slot-eq0.true

pub put_line-requires : goal.put_line-requires
put_line-requires c = let l = put_size c.args.slot.now c.args.number.now c.if-slot-eq0.false c.if-slot-eq1.true in omega arith

pub returns-then-slot-eq1 : goal.returns-then-slot-eq1
returns-then-slot-eq1 c = let a = c.args in c.put_line.ensures ∙ ap (put_at a.out.now a.at) (put_is a.slot.now a.number.now c.if-slot-eq0.false c.if-slot-eq1.true)

pub put_line-requires-2 : goal.put_line-requires-2
put_line-requires-2 c = let l = del_size c.args.slot.now c.args.number.now c.if-slot-eq0.false c.if-slot-eq1.false in omega arith

pub returns : goal.returns
returns c = let a = c.args in c.put_line-2.ensures ∙ ap (put_at a.out.now a.at) (del_is a.slot.now a.number.now c.if-slot-eq0.false c.if-slot-eq1.false)
