-- `lines::end_at` stops at the first mark.
-- Assumes nothing.
use mathlib.Core.Path.{sym, ◌∙◌}
use native.Mathlib.Omega.{arith}
use Rattle.lines.specs.Lines.{end_none, end_here, end_on}
use Rattle.lines.proofs.end_at.Goals as goal

pub returns-then-s-i : goal.returns-then-s-i
returns-then-s-i c = sym (end_here c.args.s.now c.loop-i.i c.args.mark (omega arith) c.if-s-i.true) ∙ c.loop-i.invariant.left

pub loop-i-preserved : goal.loop-i-preserved
loop-i-preserved c =
    record { within = omega arith; left = sym (end_on c.args.s.now c.loop-i.i c.args.mark (omega arith) c.if-s-i.false) ∙ c.loop-i.invariant.left }

pub returns : goal.returns
returns c =
    let e = end_none c.args.s.now c.loop-i.i c.args.mark (omega arith) in
    let v = c.loop-i.invariant in
    let m = c.max.ensures in
    omega arith
