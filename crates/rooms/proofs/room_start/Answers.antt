-- `rooms::room_start` meets its contract.
-- Assumes nothing.
use mathlib.Core.Path.{◌≡◌, ◌∙◌, ap}
use Prim.Native.Nat.{◌-◌}
use native.Mathlib.Omega.{arith}
use Rattle.rooms.specs.Views.{room_end}
use Rattle.rooms.specs.Head.{start_end}
use Rattle.rooms.proofs.room_start.Goals as goal

pub returns-then-account-eq0 : goal.returns-then-account-eq0
returns-then-account-eq0 c =
    let a = c.args in
    let e : 0 ≡ a.account - 1 = omega arith in
    c.room_end.ensures ∙ ap (room_end a.b.now) e ∙ start_end a.b.now a.account

pub returns : goal.returns
returns c =
    let a = c.args in
    c.room_end-2.ensures ∙ start_end a.b.now a.account
