use mathlib.Core.Path.{sym, ap, ◌∙◌}
use Rattle.std.specs.Prelude.{Option}
use Prim.Native.Nat.{ℕ}
use Rattle.desk.specs.Desk.{reply_of}
use Rattle.desk.specs.Days.{inside_answer, days_inside, days_outside}
use Rattle.services.specs.Services.{periods_from}
use Rattle.stages.specs.Stage.{first_outside, days_of}
use Rattle.stages.specs.Permitted.{days_calendar}
use Rattle.rooms.specs.Slots.{calendar_length}
use borrow.Author.Rules.{rules}
use Rattle.desk.proofs.reading.write_days.Goals as goal

-- src/reading.rt:91:1
pub returns-in-None : goal.returns-in-None
returns-in-None c =
    let e = sym c.in-None.is ∙ c.test_window.ensures in
    let a = c.args in
    let d = a.day in
    let s = a.s.now in
    let p = periods_from a.rows.now a.among.from a.among.to in
    let put = c.put_bytes.ensures in
    record {
      told = c.done.ensures ∙ ap (λ (o : Option ℕ). reply_of (inside_answer o)) e;
      left = days_inside (first_outside a.wish d s p) (days_of a.wish d s p) a.days.now e _ _ c.days_of-found.ensures c.requires (calendar_length (days_of a.wish d s p) (days_calendar a.wish d s p)) put.1;
    }

-- src/reading.rt:91:1
pub returns-in-Some : goal.returns-in-Some
returns-in-Some c =
    let e = sym c.in-Some.is ∙ c.test_window.ensures in
    let a = c.args in
    let d = a.day in
    let s = a.s.now in
    let p = periods_from a.rows.now a.among.from a.among.to in
    record {
      told = c.refused.ensures ∙ ap (λ (o : Option ℕ). reply_of (inside_answer o)) e;
      left = days_outside (first_outside a.wish d s p) (days_of a.wish d s p) a.days.now _ e;
    }
