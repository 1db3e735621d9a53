-- `read_written` meets its contract.
-- Assumes nothing.
use mathlib.Core.Path.{ap}
use native.Mathlib.Omega.{arith}
use lib.ListN.{length, take, drop, length-drop}
use Prim.Native.Nat.{◌-◌}
use Rattle.laws.specs.Lists.{rest_is}
use Rattle.period.specs.Written.{span_known}
use Rattle.period.proofs.written.read_written.Goals as goal

pub read_behind-requires : goal.read_behind-requires
read_behind-requires c =
    let a = c.args in
    let h = c.if-g-le29.false in
    let i = c.if-s-at.false in
    let r = rest_is a.s.now a.at in
    let d = length-drop a.at a.s.now in
    let e = ap length r in
    (r, span_known (take (length a.s.now - a.at) (drop a.at a.s.now)) c.written_span.ensures c.in_ok-days.was, h, omega arith)
