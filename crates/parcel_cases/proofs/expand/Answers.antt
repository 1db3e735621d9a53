-- `parcel_cases::expand` is safe and ends: past a piece stands less of the notation.
-- Assumes nothing.
use native.Mathlib.Omega.{arith}
use Rattle.lines.specs.Lines.{past_forward}
use Rattle.parcel_cases.proofs.expand.Goals as goal

pub loop-i-smaller : goal.loop-i-smaller
loop-i-smaller c =
    let s = c.args.notation.now in
    let h = past_forward s c.loop-i.i 123 c.loop-i-test.true in
    let e = c.past-group.ensures in
    let k = past_forward s c.past-group.result 125 c.if-notation-group.false in
    let q = c.past-i.ensures in
    omega arith
