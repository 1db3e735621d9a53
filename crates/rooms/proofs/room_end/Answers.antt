-- `rooms::room_end` meets its contract. Invariant: the head and the rooms before k are passed.
-- Assumes nothing.
use mathlib.Core.Path.{◌≡◌, ◌∙◌, ap}
use Prim.Native.Nat.{ℕ, ◌+◌, ◌*◌}
use native.Mathlib.Omega.{arith}
use Rattle.rooms.specs.Views.{room_end}
use Rattle.rooms.specs.Head.{end_zero, end_more, end_last}
use Rattle.rooms.proofs.room_end.Goals as goal

pub loop-k-init : goal.loop-k-init
loop-k-init c = (omega arith, end_zero c.args.b.now, omega arith)

pub returns-then-account-k : goal.returns-then-account-k
returns-then-account-k c =
    let a = c.args in
    let l = c.loop-k in
    let e : l.k ≡ a.account = omega arith in
    l.invariant.1 ∙ ap (room_end a.b.now) e

pub loop-k-preserved : goal.loop-k-preserved
loop-k-preserved c =
    let a = c.args in
    let l = c.loop-k in
    let m = end_more a.b.now l.k c.number_at.result (omega arith) c.number_at.ensures.0 in
    (omega arith, ap (λ (x : ℕ). x + c.number_at.result * 140) l.invariant.1 ∙ m, omega arith)

pub returns : goal.returns
returns c =
    let a = c.args in
    let l = c.loop-k in
    let e : l.k ≡ 8 = omega arith in
    l.invariant.1 ∙ ap (room_end a.b.now) e ∙ end_last a.b.now a.account (omega arith)
