use mathlib.Core.Path.{sym, ◌∙◌}
use native.Mathlib.Omega.{arith}
use Rattle.syntax.specs.Tags.{tag_few, tag_four}
use Rattle.syntax.proofs.segment.is_tagged.Goals as goal

pub returns-then-s-lt4 : goal.returns-then-s-lt4
returns-then-s-lt4 c =
    let a = c.args in
    sym (tag_few a.s.now a.at (omega arith))

pub returns-then-s-at : goal.returns-then-s-at
returns-then-s-at c =
    let a = c.args in
    sym (tag_few a.s.now a.at (omega arith))

pub returns : goal.returns
returns c =
    let a = c.args in
    c.is_tag.ensures ∙ sym (tag_four a.s.now a.at (omega arith))
