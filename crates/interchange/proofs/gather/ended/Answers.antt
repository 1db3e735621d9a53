use Rattle.std.specs.Prelude.{Err}
use borrow.Author.Rules.{rules}
use mathlib.Core.Path.{sym, ap, ◌∙◌}
use mathlib.Core.Bool.{Bool}
use Rattle.interchange.specs.Chunks.{ended_at}
use Rattle.interchange.proofs.gather.ended.Goals as goal

pub returns-then-is_closed : goal.returns-then-is_closed
returns-then-is_closed c =
    let a = c.args in
    sym (ap (λ (b : Bool). ended_at b a.numbers a.size) (sym c.is_closed.ensures ∙ c.if-is_closed.true))

pub returns : goal.returns
returns c =
    let a = c.args in
    ap Err c.at.ensures ∙ sym (ap (λ (b : Bool). ended_at b a.numbers a.size) (sym c.is_closed.ensures ∙ c.if-is_closed.false))
