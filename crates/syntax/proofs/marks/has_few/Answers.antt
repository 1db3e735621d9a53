-- `has_few` meets its contract.
-- Assumes nothing.
use mathlib.Core.Path.{◌≡◌, ap}
use mathlib.Core.List.{List}
use Prim.Native.Nat.{ℕ, ◌-◌, ◌≤◌}
use native.Mathlib.Omega.{arith}
use native.Mathlib.Nat.{zero-add}
use lib.Dec.{leb}
use Rattle.laws.specs.Lists.{between, length_between}
use Rattle.syntax.specs.Few.{marks_in, marks_past, marks_part, marks_length}
use Rattle.syntax.proofs.marks.has_few.Goals.{After-marks_in, At-loop-i}
use Rattle.syntax.proofs.marks.has_few.Goals as goal

pub loop-i-init : goal.loop-i-init
loop-i-init c = (omega arith, omega arith, zero-add _, c.requires)

pub overflow_cast-marks : goal.overflow_cast-marks
overflow_cast-marks c = omega (arith, c.marks_in.type_inv)

-- a part has no more marks than bytes
module _ (t : After-marks_in) where
  abbrev list : List ℕ
  list = t.args.p.now

  few : t.marks_in.result ≤ t.next_end-e.result - t.loop-i.i
  few =
      let q = t.marks_in.ensures in
      let m = marks_length (between list t.loop-i.i t.next_end-e.result) in
      let l = length_between list t.loop-i.i t.next_end-e.result t.next_end-e.ensures.1 in
      omega arith

pub overflow_add-marks : goal.overflow_add-marks
overflow_add-marks c =
    let f = few (goal.at.overflow_add-marks c).After-marks_in in
    let v = c.loop-i.invariant in
    let n = c.next_end-e.ensures in
    let x = v.0 in
    let y = n.1 in
    let z = v.3 in
    omega arith

pub loop-i-preserved : goal.loop-i-preserved
loop-i-preserved c =
    let f = few (goal.at.loop-i-preserved c).After-marks_in in
    let v = c.loop-i.invariant in
    let n = c.next_end-e.ensures in
    let x = v.0 in
    let b = n.0 in
    let m = c.marks_in.ensures in
    let p = marks_part (list (goal.at.loop-i-preserved c).After-marks_in) c.loop-i.i c.next_end-e.result (omega arith) in
    let q = v.2 in
    (omega arith, n.1, omega arith, v.3)

pub returns : goal.returns
returns c =
    let v = c.loop-i.invariant in
    let p = c.args.p.now in
    let e = marks_past p c.loop-i.i c.loop-i-test.false in
    let q = v.2 in
    let m : c.loop-i.marks ≡ marks_in p = omega arith in
    ap (λ (x : ℕ). leb x 31) m
