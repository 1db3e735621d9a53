-- `are_days` meets its contract.
-- Assumes nothing.
use mathlib.Core.Path.{◌∙◌}
use native.Mathlib.Omega.{arith}
use Rattle.raw_bytes.specs.Eights.{Eights, eights_known}
use Rattle.period.specs.Strings.{days_eight, days_other, days_none, run_whole}
use Rattle.period.proofs.strings.are_days.Goals.{At-loop-word, In-Some}
use Rattle.period.proofs.strings.are_days.Goals as goal

pub returns-then-other-ne0 : goal.returns-then-other-ne0
returns-then-other-ne0 c =
    days_other c.args.g.now c.loop-word.i c.loop-word.other c.if-other-ne0.true ∙ c.loop-word.invariant

pub returns-in_default : goal.returns-in_default
returns-in_default c =
    run_whole c.args.g.now c.loop-word.i c.last_days_end.result c.last_days_end.ensures ∙ days_none c.args.g.now c.loop-word.i c.loop-word.other c.if-other-ne0.false ∙ c.loop-word.invariant

-- eight bytes were found
module _ (t : In-Some) where
  found : Eights t.args.g.now t.loop-word.i t.in-Some.word
  found = eights_known t.args.g.now t.loop-word.i t.eight_at.ensures t.in-Some.is

pub overflow_add-i : goal.overflow_add-i
overflow_add-i c = let f = (found (goal.at.overflow_add-i c).In-Some).inside in omega arith

pub loop-word-smaller : goal.loop-word-smaller
loop-word-smaller c = let f = (found (goal.at.loop-word-smaller c).In-Some).inside in omega arith

pub loop-word-preserved : goal.loop-word-preserved
loop-word-preserved c = days_eight c.args.g.now c.loop-word.i c.loop-word.other (found (goal.at.loop-word-preserved c).In-Some) ∙ c.loop-word.invariant
