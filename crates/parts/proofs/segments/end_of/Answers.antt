-- `end_of` meets its contract: what stands from here on ends where the whole does.
-- Assumes nothing.
use mathlib.Core.Path.{sym, ◌∙◌}
use native.Mathlib.Omega.{arith}
use Rattle.parts.specs.Segments.{body_past, body_here, body_released, body_goes}
use Rattle.parts.proofs.segments.end_of.Goals.{then-released, else-released+else-b-eq39}
use Rattle.parts.proofs.segments.end_of.Goals as goal

pub returns-then-b-eq39 : goal.returns-then-b-eq39
returns-then-b-eq39 c =
    let a = c.args in
    let e = body_here a.s.now c.loop-i.i c.loop-i-test.true c.if-b-eq39.true in
    let v = rw c.if-released.false at c.loop-i.invariant.left in
    omega arith

pub loop-i-preserved : goal.loop-i-preserved
loop-i-preserved c =
    let a = c.args in
    let v = c.loop-i.invariant.left in
    record {
      within = omega arith;
      left = elim c.if-released.branch [
        | then-released w ↦ rw w.released-is (sym (body_released a.s.now c.loop-i.i c.loop-i-test.true) ∙ (rw w.if-released.true at v))
        | else-released+else-b-eq39 w ↦ rw w.released-is (sym (body_goes a.s.now c.loop-i.i c.loop-i-test.true w.if-b-eq39.false) ∙ (rw w.if-released.false at v))
      ];
    }

pub returns : goal.returns
returns c =
    let e = body_past c.args.s.now c.loop-i.i c.loop-i.released (omega arith) in
    let v = c.loop-i.invariant in
    let m = c.max.ensures in
    omega arith
