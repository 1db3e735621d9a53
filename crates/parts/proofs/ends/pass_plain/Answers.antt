-- `pass_plain` meets its contract.
-- Assumes nothing.
use mathlib.Core.Path.{refl, sym, ◌∙◌}
use native.Mathlib.Omega.{arith}
use Rattle.raw_bytes.specs.Eights.{Eights, eights_known}
use Rattle.parts.specs.Plain.{pass_eight}
use Rattle.parts.proofs.ends.pass_plain.Goals.{At-loop-i, In-Some}
use Rattle.parts.proofs.ends.pass_plain.Goals as goal

pub overflow_mul-marks : goal.overflow_mul-marks
overflow_mul-marks c = omega (arith, c.wide_byte-marks.ensures.1)

pub loop-i-init : goal.loop-i-init
loop-i-init c = (omega arith, refl)

pub returns-then-to-i-lt8 : goal.returns-then-to-i-lt8
returns-then-to-i-lt8 c = c.loop-i.invariant

pub returns-in_default : goal.returns-in_default
returns-in_default c = c.loop-i.invariant

-- eight bytes were found
module _ (t : In-Some) where
  found : Eights t.args.s.now t.loop-i.i t.in-Some.word
  found = eights_known t.args.s.now t.loop-i.i t.eight_at.ensures t.in-Some.is

pub returns-then-not-are_plain : goal.returns-then-not-are_plain
returns-then-not-are_plain c = c.loop-i.invariant

pub overflow_add-i : goal.overflow_add-i
overflow_add-i c = let f = (found (goal.at.overflow_add-i c).In-Some).inside in omega arith

pub loop-i-preserved : goal.loop-i-preserved
loop-i-preserved c =
    let r = c.are_plain in
    (omega arith, pass_eight c.args.s.now c.loop-i.i c.args.to (found (goal.at.loop-i-preserved c).In-Some) c.wide_byte-marks.ensures (sym r.ensures ∙ c.if-not-are_plain.false) (omega arith) ∙ c.loop-i.invariant.1)

pub returns : goal.returns
returns c = c.loop-i.invariant
