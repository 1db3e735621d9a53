-- `set_day` meets its contract.
-- Assumes nothing.
use mathlib.Core.Path.{sym, ap}
use Prim.Native.Nat.{◌/◌}
use lib.ListN.{set}
use Rattle.calendar.specs.Days.{with_day}
use Rattle.calendar.specs.Laws.{with_past}
use Rattle.calendar.proofs.days.set_day.Goals as goal

pub returns-then-days-at : goal.returns-then-days-at
returns-then-days-at c =
    let a = c.args in
    sym (with_past a.days.now a.k c.if-days-at.true)

pub returns : goal.returns
unfolding with_day
returns c =
    let a = c.args in
    ap (set a.days.now (a.k / 8)) c.with_bit.ensures
