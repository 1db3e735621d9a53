use mathlib.Core.Path.{sym}
use native.Mathlib.Omega.{arith}
use Rattle.syntax.specs.Tags.{number_few, number_three}
use Rattle.syntax.proofs.segment.tag_at.Goals as goal

pub returns-then-s-lt3 : goal.returns-then-s-lt3
returns-then-s-lt3 c =
    let a = c.args in
    sym (number_few a.s.now a.at (omega arith))

pub returns-then-s-at : goal.returns-then-s-at
returns-then-s-at c =
    let a = c.args in
    sym (number_few a.s.now a.at (omega arith))

pub returns : goal.returns
returns c =
    let a = c.args in
    rw (number_three a.s.now a.at (omega arith), c.wide.ensures.0, c.wide-2.ensures.0, c.wide-3.ensures.0)
