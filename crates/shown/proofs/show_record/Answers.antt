-- `shown::show_record` meets its contract.
-- Assumes nothing.
use mathlib.Core.Path.{◌∙◌, ap}
use native.Mathlib.Omega.{arith}
use Prim.Native.Nat.{◌+◌, ◌-◌, ◌*◌}
use Rattle.contents.specs.Calls.{shown_answer, shown_bytes}
use Rattle.shown.specs.Laws.{past_shown, unused_shown, used_shown, number_least, number_part, length_slot}
use Rattle.shown.proofs.show_record.Goals as goal

pub returns-then-room-k : goal.returns-then-room-k
returns-then-room-k c =
    let w = past_shown c.args.room.now c.args.out.now c.args.k c.if-room-k.true in
    record { told = w.0; left = w.1 }

pub returns-then-room-at-eq0 : goal.returns-then-room-at-eq0
returns-then-room-at-eq0 c =
    let w = unused_shown c.args.room.now c.args.out.now c.args.k (omega arith) c.if-room-at-eq0.true in
    record { told = w.0; left = w.1 }

pub overflow_add-text_end : goal.overflow_add-text_end
overflow_add-text_end c = let a = c.args in let n = number_least a.room.now (a.k * 140) c.before_zero-number.result (a.k * 140 + 10 - a.k * 140) (omega arith) c.before_zero-number.ensures in omega arith

pub slice_bounds-show_slot-count-2 : goal.slice_bounds-show_slot-count-2
slice_bounds-show_slot-count-2 c = let a = c.args in let n = number_least a.room.now (a.k * 140) c.before_zero-number.result (a.k * 140 + 10 - a.k * 140) (omega arith) c.before_zero-number.ensures in omega arith

pub slice_bounds-show_slot-start-2 : goal.slice_bounds-show_slot-start-2
slice_bounds-show_slot-start-2 c = let a = c.args in let n = number_least a.room.now (a.k * 140) c.before_zero-number.result (a.k * 140 + 10 - a.k * 140) (omega arith) c.before_zero-number.ensures in omega arith

pub slice_bounds-show_slot-end-2 : goal.slice_bounds-show_slot-end-2
slice_bounds-show_slot-end-2 c = let a = c.args in let n = number_least a.room.now (a.k * 140) c.before_zero-number.result (a.k * 140 + 10 - a.k * 140) (omega arith) c.before_zero-number.ensures in omega arith

pub show_slot-requires : goal.show_slot-requires
show_slot-requires c =
    let a = c.args in
    let at = a.k * 140 in (
      length_slot a.room.now at (at + 140 - at) (omega arith) (omega arith),
      number_part a.room.now at c.before_zero-number.result (at + 10 - at) (omega arith) c.before_zero-number.ensures (at + c.before_zero-number.result - at) (at + 140 - at) (omega arith) (omega arith),
    )

pub returns : goal.returns
returns c =
    let a = c.args in
    let at = a.k * 140 in
    let w = used_shown a.room.now a.out.now a.k (omega arith) c.if-room-at-eq0.false (at + 140 - at) (omega arith) in
    record {
      told = c.show_slot.ensures.told ∙ ap (shown_answer a.out.now) w;
      left = c.show_slot.ensures.left ∙ ap (shown_bytes a.out.now) w;
    }
