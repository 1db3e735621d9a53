-- `shown::show_slot` meets its contract.
-- Assumes nothing.
use mathlib.Core.Path.{◌∙◌, ap}
use mathlib.Core.List.{List}
use Prim.Native.Nat.{ℕ}
use native.Mathlib.Omega.{arith}
use Rattle.laws.specs.Put.{put_at}
use Rattle.contents.specs.Written.{pending_in}
use Rattle.contents.specs.Calls.{pending_line}
use Rattle.shown.specs.Laws.{number_ten, live_most, pending_most, shown_short, shown_fits}
use Rattle.shown.proofs.show_slot.Goals as goal

pub live_length-live-requires : goal.live_length-live-requires
live_length-live-requires c = (c.requires.0, number_ten c.args.slot.now c.args.number.now c.requires.1)

pub pending_length-pending-requires : goal.pending_length-pending-requires
pending_length-pending-requires c = (c.requires.0, number_ten c.args.slot.now c.args.number.now c.requires.1)

pub overflow_add-live : goal.overflow_add-live
overflow_add-live c =
    let a = c.args in
    let n = number_ten a.slot.now a.number.now c.requires.1 in
    let l = live_most a.slot.now a.number.now in
    let p = pending_most a.slot.now a.number.now in
    omega arith

pub returns-then-out-live : goal.returns-then-out-live
returns-then-out-live c =
    let a = c.args in
    let w = shown_short a.slot.now a.number.now a.out.now c.live_length-live.result c.pending_length-pending.result c.requires.1 c.live_length-live.ensures c.pending_length-pending.ensures c.if-out-live.true in
    record { told = w.0; left = w.1 }

pub returns : goal.returns
returns c =
    let a = c.args in
    let w = shown_fits a.slot.now a.number.now a.out.now c.live_length-live.result c.pending_length-pending.result c.requires.1 c.live_length-live.ensures c.pending_length-pending.ensures c.if-out-live.false in
    record {
      told = w.0;
      left = c.put_pending.ensures ∙ ap (λ (l : List ℕ). put_at l c.live_length-live.result (pending_line a.number.now (pending_in a.slot.now))) c.put_live.ensures ∙ w.1;
    }
