-- `join_at` meets its contract.
-- Assumes nothing.
use mathlib.Core.Path.{sym, ap, ◌∙◌}
use mathlib.Core.Bool.{true}
use mathlib.Core.List.{List}
use Prim.Native.Nat.{ℕ, ◌+◌, ◌≤◌, ◌<◌}
use native.Mathlib.Omega.{arith}
use lib.ListN.{length}
use Rattle.syntax.specs.Segment.{body_at}
use Rattle.syntax.specs.Ends.{body_slice, end_within}
use Rattle.parts.specs.Segments.{segment_body}
use Rattle.period.specs.Period.{period_of}
use Rattle.period.specs.Pops.{PopKnown, pop_told_lem}
use Rattle.period.specs.Wishes.{good_old}
use Rattle.joining.specs.Joined.{window_days, answered, days_joined}
use Rattle.joining.specs.Told.{good_told, join_said}
use Rattle.joining.proofs.join_at.Goals.{In-Some, Start}
use Rattle.joining.proofs.join_at.Goals as goal

-- the POP that was found
module _ (e : In-Some) where
  known : PopKnown e.args.wish e.args.s.now e.args.at e.in-Some.pop.end e.in-Some.pop.period.days.first e.in-Some.pop.period.days.count e.in-Some.pop.period.form
  known = pop_told_lem e.args.wish e.args.s.now e.args.at (sym e.pop_at.ensures ∙ e.in-Some.is)

  within : (e.args.at + 3 ≤ e.in-Some.pop.end) × (e.in-Some.pop.end < length e.args.s.now)
  within = end_within e.args.s.now e.args.at e.in-Some.pop.end known.segment

pub slice_bounds-join_form-count : goal.slice_bounds-join_form-count
slice_bounds-join_form-count c = let w = (within (goal.at.slice_bounds-join_form-count c).In-Some).0 in omega arith

pub slice_bounds-join_form-start : goal.slice_bounds-join_form-start
slice_bounds-join_form-start c = let w = within (goal.at.slice_bounds-join_form-start c).In-Some in let l = w.0 in let h = w.1 in omega arith

pub slice_bounds-join_form-end : goal.slice_bounds-join_form-end
slice_bounds-join_form-end c = let w = within (goal.at.slice_bounds-join_form-end c).In-Some in let l = w.0 in let h = w.1 in omega arith

pub join_form-requires : goal.join_form-requires
join_form-requires c =
    ap (period_of true) (body_slice c.args.s.now c.args.at c.in-Some.pop.end (known (goal.at.join_form-requires c).In-Some).segment)
    ∙ good_old c.args.wish (body_at c.args.s.now c.args.at) c.in-Some.pop.period.days.first c.in-Some.pop.period.days.count c.in-Some.pop.period.form (known (goal.at.join_form-requires c).In-Some).period

pub returns-in-Some : goal.returns-in-Some
returns-in-Some c =
    let a = c.args in
    let k = c.join_form.ensures in
    let d = k.1 ∙ ap (λ (x : List ℕ). window_days a.days.now a.origin x c.in-Some.pop.period.days.first c.in-Some.pop.period.days.count c.in-Some.pop.period.form) (body_slice c.args.s.now a.at c.in-Some.pop.end (known (goal.at.returns-in-Some c).In-Some).segment) in
    let w = good_told a.wish a.days.now a.origin (body_at c.args.s.now a.at) (known (goal.at.returns-in-Some c).In-Some).period (k.0, d) in
    record {
      told = w;
      said = join_said a.wish a.at (length a.days.now) a.origin (body_at c.args.s.now a.at) w.0;
    }

pub returns-in-None : goal.returns-in-None
returns-in-None c =
    let a = c.args in
    let b = segment_body a.s.now a.at c.segment_at.result c.segment_at.ensures in
    let k = c.join_period.ensures.told in
    let r = k.0 ∙ ap (answered a.wish (length a.days.now) a.origin) b in
    record {
      told = (r, k.1 ∙ ap (days_joined a.wish a.days.now a.origin) b);
      said = join_said a.wish a.at (length a.days.now) a.origin (body_at a.s.now a.at) r;
    }
