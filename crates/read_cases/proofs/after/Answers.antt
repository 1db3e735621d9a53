-- `read_cases::after` stands past the sign.
-- Assumes nothing.
use mathlib.Core.Path.{sym, ◌∙◌}
use native.Mathlib.Omega.{arith}
use Rattle.lines.specs.Lines.{past_forward}
use Rattle.lines.specs.Coded.{sign_forward}
use Rattle.read_cases.proofs.after.Goals as goal

pub returns-then-line-i-eq123 : goal.returns-then-line-i-eq123
returns-then-line-i-eq123 c =
    let a = c.args in
    let h = past_forward a.line.now a.i 124 c.requires in
    let e = c.past.ensures in
    omega arith

pub returns-in-Some : goal.returns-in-Some
returns-in-Some c = sign_forward c.args.line.now c.args.i c.in-Some.sign (sym c.sign_at.ensures ∙ c.in-Some.is)
