-- `cuts::past` passes a release with the byte behind it.
-- Assumes nothing.
use native.Mathlib.Omega.{arith}
use Rattle.cuts.specs.Laws.{gone_plain, gone_release}
use Rattle.cuts.proofs.past.Goals as goal

pub returns-then-s-i-eq63 : goal.returns-then-s-i-eq63
returns-then-s-i-eq63 c =
    let a = c.args in
    let p = c.requires in
    (omega arith, omega arith, λ n flag v. gone_release a.s.now a.i p.0 p.1 n flag v c.if-s-i-eq63.true)

pub returns : goal.returns
returns c =
    let a = c.args in
    let p = c.requires in
    (omega arith, omega arith, λ n flag v. gone_plain a.s.now a.i p.0 p.1 n flag v c.if-s-i-eq63.false)
