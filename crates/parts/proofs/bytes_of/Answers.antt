use mathlib.Core.Path.{sym}
use native.Mathlib.Omega.{arith}
use Rattle.laws.specs.Lists.{between_none, between_past, between_all}
use Rattle.parts.proofs.bytes_of.Goals as goal

pub returns-then-to-from : goal.returns-then-to-from
returns-then-to-from c =
    let a = c.args in
    sym (between_none a.s.now a.part.from a.part.to c.if-to-from.true)

pub returns-then-s-from : goal.returns-then-s-from
returns-then-s-from c =
    let a = c.args in
    sym (between_past a.s.now a.part.from a.part.to c.if-s-from.true)

pub returns-then-s-to : goal.returns-then-s-to
returns-then-s-to c =
    let a = c.args in
    between_all a.s.now a.part.from a.part.to (omega arith)
