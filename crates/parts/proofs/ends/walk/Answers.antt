-- `walk` meets its contract.
-- Assumes nothing.
use mathlib.Core.Path.{refl, ◌∙◌}
use Prim.Native.Nat.{◌<◌}
use native.Mathlib.Omega.{arith}
use Rattle.parts.specs.Walked.{cut_none, cut_here, cut_on, cut_last, cut_released}
use Rattle.parts.proofs.ends.walk.Goals.{At-loop-i, In-loop-i}
use Rattle.parts.proofs.ends.walk.Goals as goal

pub returns-then-end-from : goal.returns-then-end-from
returns-then-end-from c = let a = c.args in cut_none a.s.now a.from a.end a.mark c.if-end-from.true

pub overflow_add-stop : goal.overflow_add-stop
overflow_add-stop c = omega (arith, c.min.ensures)

pub loop-i-init : goal.loop-i-init
loop-i-init c =
    let l = c.min.ensures in
    (omega (arith, l), omega (arith, l), omega arith, c.requires, refl)

-- what is known where a byte is read
module _ (t : In-loop-i) where
  inside : t.loop-i.i < t.args.end
  inside =
      let a = t.loop-i-test.true in
      let b = t.loop-i.invariant.1 in
      omega (arith, a, b)

pub bounds-s-i : goal.bounds-s-i
bounds-s-i c = omega (arith, inside (goal.at.bounds-s-i c).In-loop-i, c.loop-i.invariant.3)

pub returns-then-b-mark : goal.returns-then-b-mark
returns-then-b-mark c =
    cut_here c.args.s.now c.loop-i.i c.args.end c.args.mark (inside (goal.at.returns-then-b-mark c).In-loop-i) c.loop-i.invariant.3 c.if-b-mark.true ∙ c.loop-i.invariant.4

pub overflow_sub-end-then-b-eq63 : goal.overflow_sub-end-then-b-eq63
overflow_sub-end-then-b-eq63 c = omega (arith, inside (goal.at.overflow_sub-end-then-b-eq63 c).In-loop-i)

pub returns-then-end-i-lt2 : goal.returns-then-end-i-lt2
returns-then-end-i-lt2 c =
    cut_last c.args.s.now c.loop-i.i c.args.end c.args.mark (inside (goal.at.returns-then-end-i-lt2 c).In-loop-i) c.loop-i.invariant.3 c.if-b-mark.false c.if-b-eq63.true c.if-end-i-lt2.true ∙ c.loop-i.invariant.4

pub overflow_add-i : goal.overflow_add-i
overflow_add-i c = omega (arith, inside (goal.at.overflow_add-i c).In-loop-i, c.loop-i.invariant.3, c.if-end-i-lt2.false)

pub loop-i-smaller-then-b-eq63 : goal.loop-i-smaller-then-b-eq63
loop-i-smaller-then-b-eq63 c = omega (arith, inside (goal.at.loop-i-smaller-then-b-eq63 c).In-loop-i)

pub loop-i-preserved-then-b-eq63 : goal.loop-i-preserved-then-b-eq63
loop-i-preserved-then-b-eq63 c =
    let v = c.loop-i.invariant in (
      v.0,
      v.1,
      omega (arith, inside (goal.at.loop-i-preserved-then-b-eq63 c).In-loop-i, c.if-end-i-lt2.false),
      v.3,
      cut_released c.args.s.now c.loop-i.i c.args.end c.args.mark (inside (goal.at.loop-i-preserved-then-b-eq63 c).In-loop-i) v.3 c.if-b-mark.false c.if-b-eq63.true c.if-end-i-lt2.false ∙ v.4,
    )

pub overflow_add-i-in-loop-i : goal.overflow_add-i-in-loop-i
overflow_add-i-in-loop-i c = omega (arith, inside (goal.at.overflow_add-i-in-loop-i c).In-loop-i, c.loop-i.invariant.3)

pub loop-i-smaller : goal.loop-i-smaller
loop-i-smaller c = omega (arith, inside (goal.at.loop-i-smaller c).In-loop-i)

pub loop-i-preserved : goal.loop-i-preserved
loop-i-preserved c =
    let v = c.loop-i.invariant in
    (v.0, v.1, omega (arith, inside (goal.at.loop-i-preserved c).In-loop-i), v.3, cut_on c.args.s.now c.loop-i.i c.args.end c.args.mark (inside (goal.at.loop-i-preserved c).In-loop-i) v.3 c.if-b-mark.false c.if-b-eq63.false ∙ v.4)

pub returns-then-end-i : goal.returns-then-end-i
returns-then-end-i c =
    let a = c.args in
    cut_none a.s.now c.loop-i.i a.end a.mark c.if-end-i.true ∙ c.loop-i.invariant.4

pub returns : goal.returns
returns c =
    let v = c.loop-i.invariant in
    (omega (arith, v.0, c.loop-i-test.false), c.if-end-i.false, v.4)
