-- `lent::segment_at` meets its contract.
-- Assumes nothing.
use mathlib.Core.Path.{sym, ap, ◌∙◌}
use Prim.Native.Nat.{ℕ, ◌+◌}
use native.Mathlib.Omega.{arith}
use Rattle.std.specs.Prelude.{Some, Ok, Err}
use Rattle.syntax.specs.Ends.{end_within}
use Rattle.lent.specs.declared.Segment.{Segment}
use Rattle.lent.specs.Laws.{found_over, found_told}
use Rattle.lent.specs.Answer.{told_by_lem}
use Rattle.lent.proofs.segment_at.Goals as goal

made : ℕ → ℕ → Segment
made tag after = record { tag = tag; after = after }

pub returns-then-s-at : goal.returns-then-s-at
returns-then-s-at c =
    let a = c.args in
    told_by_lem a.s.now a.at _ (found_over a.s.now a.at (omega arith))

pub overflow_add-result : goal.overflow_add-result
overflow_add-result c =
    let a = c.args in
    let w = end_within a.s.now a.at c.in-Ok.end (sym c.read_segment.ensures.scan ∙ c.in-Ok.is) in
    omega arith

pub returns-in-Ok : goal.returns-in-Ok
unfolding made
returns-in-Ok c =
    let a = c.args in
    told_by_lem a.s.now a.at _
    (ap (λ (t : ℕ). Ok (Some (made t (c.in-Ok.end + 1)))) c.tag_at.ensures
    ∙ found_told a.s.now a.at (Ok c.in-Ok.end) c.if-s-at.false (sym c.read_segment.ensures.scan ∙ c.in-Ok.is))

pub returns-in-Err : goal.returns-in-Err
returns-in-Err c =
    let a = c.args in
    told_by_lem a.s.now a.at _
    (ap Err c.refusal.ensures
    ∙ found_told a.s.now a.at (Err c.in-Err.error) c.if-s-at.false (sym c.read_segment.ensures.scan ∙ c.in-Err.is))
