-- `few_end` meets its contract.
-- Assumes nothing.
use mathlib.Core.Path.{refl, sym, ◌∙◌}
use native.Mathlib.Omega.{arith}
use Rattle.syntax.specs.Runs.{run_on}
use Rattle.syntax.proofs.texts.few_end.Goals as goal

pub loop-i-init : goal.loop-i-init
loop-i-init c = (omega arith, refl)

pub overflow_sub-i : goal.overflow_sub-i
overflow_sub-i c = let h = c.loop-i.invariant.0 in omega arith

pub returns-then-i-from-ge8 : goal.returns-then-i-from-ge8
returns-then-i-from-ge8 c = c.loop-i.invariant

pub returns-then-not-is_text : goal.returns-then-not-is_text
returns-then-not-is_text c = c.loop-i.invariant

pub loop-i-preserved : goal.loop-i-preserved
loop-i-preserved c =
    let v = c.loop-i.invariant in
    let h = v.0 in (
      omega arith,
      sym (run_on c.args.s.now c.loop-i.i c.loop-i-test.true (sym c.is_text.ensures ∙ c.if-not-is_text.false)) ∙ v.1,
    )

pub returns : goal.returns
returns c = c.loop-i.invariant
