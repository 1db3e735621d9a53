-- `lines::field` passes so many tabs.
-- Assumes nothing.
use Prim.Native.Nat.{◌+◌, ◌-◌}
use mathlib.Core.Path.{◌≡◌, sym, ◌∙◌}
use native.Mathlib.Omega.{arith}
use Rattle.lines.specs.Lines.{start_step, start_none}
use Rattle.lines.proofs.field.Goals as goal

pub loop-preserved : goal.loop-preserved
loop-preserved c =
    let a = c.args in
    let l = c.loop in
    let e : a.k - (l.counter + 1) ≡ a.k - l.counter - 1 = omega arith in
    rw (c.past-at.ensures, e) (sym (start_step a.line.now l.at 9 (a.k - l.counter) (omega arith)) ∙ l.invariant)

pub returns : goal.returns
returns c = sym (start_none c.args.line.now c.loop.at 9 (c.args.k - c.loop.counter) (omega arith)) ∙ c.loop.invariant
