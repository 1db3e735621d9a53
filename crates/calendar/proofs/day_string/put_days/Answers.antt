-- `put_days` meets its contract: after k turns the first k characters are pasted at the offset.
-- Assumes nothing.
use mathlib.Core.Path.{refl, ◌∙◌}
use native.Mathlib.Omega.{arith}
use lib.ListN.{length-set}
use lib.Seq.{paste-zero}
use Rattle.calendar.specs.Written.{day_characters}
use Rattle.calendar.specs.Steps.{days_refused, days_step, days_done}
use Rattle.calendar.proofs.day_string.put_days.Goals as goal
use Rattle.calendar.proofs.day_string.put_days.Goals.{then-out-n-via-then-out-n, then-out-n-via-else-out-n+then-out-n-2}

pub returns-then-out-n : goal.returns-then-out-n
returns-then-out-n c =
    let a = c.args in
    elim c.then-out-n.branch [
      | then-out-n-via-then-out-n w ↦ days_refused a.days.now a.n a.out.now a.at (omega arith)
      | then-out-n-via-else-out-n+then-out-n-2 w ↦ days_refused a.days.now a.n a.out.now a.at (omega arith)
    ]

pub loop-k-init : goal.loop-k-init
loop-k-init c =
    let a = c.args in
    (omega arith, refl, paste-zero a.out.now a.at (day_characters a.days.now 0 a.n))

pub loop-k-preserved : goal.loop-k-preserved
loop-k-preserved c =
    let a = c.args in
    let l = c.loop-k in (
      l.invariant.0,
      simp length-set l.invariant.1,
      rw l.invariant.2 (days_step a.days.now a.n a.out.now a.at l.k c.day_character.result (omega arith) (omega arith) c.day_character.ensures),
    )

pub shape_of-out : goal.shape_of-out
shape_of-out c = c.loop-k.invariant.1

pub returns : goal.returns
returns c =
    let a = c.args in
    let l = c.loop-k in
    l.invariant.2 ∙ days_done a.days.now a.n a.out.now a.at l.k l.invariant.0 (omega arith)
