-- `join_one` meets its contract.
-- Assumes nothing.
use Rattle.std.specs.Prelude.{Err}
use mathlib.Core.Path.{sym, ap, ◌∙◌}
use Rattle.joining.specs.declared.JoinError.{JoinError}
use Rattle.syntax.specs.Segment.{body_at}
use Rattle.service_tests.specs.Orders.{is_outside, join_told}
use Rattle.service_tests.proofs.join_one.Goals as goal

pub returns-in-Err-Outside : goal.returns-in-Err-Outside
returns-in-Err-Outside c =
    let a = c.args in
    let t = join_told a.first (body_at a.s.now a.at) a.days.now c.join_at.new.days c.join_at.result c.requires c.join_at.ensures.told in
    record {
      told = sym (ap is_outside (c.in-Err-Outside.is ∙ ap (λ (x : JoinError). Err x) c.in-Err-Outside.field-0-is)) ∙ t.0;
      left = t.1;
    }

pub returns-in-Ok : goal.returns-in-Ok
returns-in-Ok c =
    let a = c.args in
    let t = join_told a.first (body_at a.s.now a.at) a.days.now c.join_at.new.days c.join_at.result c.requires c.join_at.ensures.told in
    record {
      told = sym (ap is_outside c.in-Ok.is) ∙ t.0;
      left = t.1;
    }

pub returns-in-Err-WrongPeriod : goal.returns-in-Err-WrongPeriod
returns-in-Err-WrongPeriod c =
    let a = c.args in
    let t = join_told a.first (body_at a.s.now a.at) a.days.now c.join_at.new.days c.join_at.result c.requires c.join_at.ensures.told in
    record {
      told = sym (ap is_outside (c.in-Err-WrongPeriod.is ∙ ap (λ (x : JoinError). Err x) c.in-Err-WrongPeriod.field-0-is)) ∙ t.0;
      left = t.1;
    }
