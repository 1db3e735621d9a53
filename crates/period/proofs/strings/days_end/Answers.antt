-- `days_end` meets its contract.
-- Assumes nothing.
use mathlib.Core.Path.{◌∙◌}
use native.Mathlib.Omega.{arith}
use Rattle.raw_bytes.specs.Eights.{Eights, eights_known}
use Rattle.period.specs.Strings.{run_eight}
use Rattle.period.proofs.strings.days_end.Goals.{At-loop-word, In-Some}
use Rattle.period.proofs.strings.days_end.Goals as goal

pub returns-in_default : goal.returns-in_default
returns-in_default c = c.last_days_end.ensures ∙ c.loop-word.invariant

-- eight bytes were found
module _ (t : In-Some) where
  found : Eights t.args.g.now t.loop-word.i t.in-Some.word
  found = eights_known t.args.g.now t.loop-word.i t.eight_at.ensures t.in-Some.is

pub returns-then-word-ne0 : goal.returns-then-word-ne0
returns-then-word-ne0 c = c.last_days_end-then-word-ne0.ensures ∙ c.loop-word.invariant

pub overflow_add-i : goal.overflow_add-i
overflow_add-i c = let f = (found (goal.at.overflow_add-i c).In-Some).inside in omega arith

pub loop-word-smaller : goal.loop-word-smaller
loop-word-smaller c = let f = (found (goal.at.loop-word-smaller c).In-Some).inside in omega arith

pub loop-word-preserved : goal.loop-word-preserved
loop-word-preserved c =
    run_eight c.args.g.now c.loop-word.i (found (goal.at.loop-word-preserved c).In-Some) c.if-word-ne0.false ∙ c.loop-word.invariant
