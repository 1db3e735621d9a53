-- `lent::offset_after` meets its contract.
-- Assumes nothing.
use mathlib.Core.Path.{sym, ap, ◌∙◌}
use Rattle.std.specs.Prelude.{Option, Ok}
use Rattle.lent.specs.declared.Segment.{Segment}
use Rattle.lent.specs.Lent.{after_found}
use Rattle.lent.specs.Laws.{after_found_lem}
use Rattle.lent.proofs.offset_after.Goals as goal

pub returns-in-Ok-Some : goal.returns-in-Ok-Some
returns-in-Ok-Some c =
    let a = c.args in
    ap (λ (g : Option Segment). after_found a.at (Ok g)) (sym c.in-Ok-Some.field-0-is) ∙ sym (ap (after_found a.at) c.in-Ok-Some.is)
    ∙ after_found_lem a.s.now a.at c.segment_at.result (sym c.segment_at.ensures.0)

pub returns-in-Ok-None : goal.returns-in-Ok-None
returns-in-Ok-None c =
    let a = c.args in
    ap (λ (g : Option Segment). after_found a.at (Ok g)) (sym c.in-Ok-None.field-0-is) ∙ sym (ap (after_found a.at) c.in-Ok-None.is)
    ∙ after_found_lem a.s.now a.at c.segment_at.result (sym c.segment_at.ensures.0)

pub returns-in-Err : goal.returns-in-Err
returns-in-Err c =
    let a = c.args in
    sym (ap (after_found a.at) c.in-Err.is) ∙ after_found_lem a.s.now a.at c.segment_at.result (sym c.segment_at.ensures.0)
