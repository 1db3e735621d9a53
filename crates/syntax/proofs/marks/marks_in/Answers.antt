-- `marks_in` meets its contract.
-- Assumes nothing.
use native.Mathlib.Omega.{arith}
use lib.ListN.{get_or}
use Rattle.syntax.specs.Bytes.{is_mark}
use Rattle.syntax.specs.Few.{marks_past, marks_here, unit_bound}
use Rattle.syntax.proofs.marks.marks_in.Goals as goal

pub loop-b-preserved : goal.loop-b-preserved
loop-b-preserved c =
    let v = c.loop-b.invariant in
    let u = unit_bound c.mark_of-marks.result (is_mark (get_or c.args.p.now c.loop-b.b-index 0)) c.mark_of-marks.ensures in
    let e = marks_here c.args.p.now c.loop-b.b-index c.loop-b-test.true in
    let m = c.mark_of-marks.ensures in
    let x = v.0 in
    let q = v.1 in
    (omega arith, omega arith, v.2)

pub returns : goal.returns
returns c =
    let v = c.loop-b.invariant in
    let e = marks_past c.args.p.now c.loop-b.b-index c.loop-b-test.false in
    let q = v.1 in
    omega arith
