-- `join_period` meets its contract.
-- Assumes nothing.
use mathlib.Core.Path.{sym, ap, ◌∙◌}
use mathlib.Core.Bool.{true}
use mathlib.Core.List.{List}
use Prim.Native.Nat.{ℕ}
use lib.ListN.{length}
use Rattle.parts.specs.Places.{bytes_of}
use Rattle.period.specs.Period.{period_of}
use Rattle.period.specs.Wishes.{good_old}
use Rattle.joining.specs.Joined.{window_days}
use Rattle.joining.specs.Told.{wrong_told, good_told, join_said}
use Rattle.joining.proofs.join_period.Goals as goal

pub join_form-requires : goal.join_form-requires
join_form-requires c =
    let a = c.args in
    ap (period_of true) c.bytes_of.ensures
    ∙ good_old a.wish (bytes_of a.s.now a.segment) c.in-Ok.period.days.first c.in-Ok.period.days.count c.in-Ok.period.form (sym c.read_period.ensures.period ∙ c.in-Ok.is)

pub returns-in-Err : goal.returns-in-Err
returns-in-Err c =
    let a = c.args in
    let g = bytes_of a.s.now a.segment in
    let w = wrong_told a.wish a.days.now a.origin g (sym c.read_period.ensures.period ∙ c.in-Err.is) in
    record {
      told = w;
      said = join_said a.wish a.segment.from (length a.days.now) a.origin g w.0;
    }

pub returns-in-Ok : goal.returns-in-Ok
returns-in-Ok c =
    let a = c.args in
    let g = bytes_of a.s.now a.segment in
    let j = c.join_form.ensures in
    let d = j.1 ∙ ap (λ (x : List ℕ). window_days a.days.now a.origin x c.in-Ok.period.days.first c.in-Ok.period.days.count c.in-Ok.period.form) c.bytes_of.ensures in
    let w = good_told a.wish a.days.now a.origin g (sym c.read_period.ensures.period ∙ c.in-Ok.is) (j.0, d) in
    record {
      told = w;
      said = join_said a.wish a.segment.from (length a.days.now) a.origin g w.0;
    }
