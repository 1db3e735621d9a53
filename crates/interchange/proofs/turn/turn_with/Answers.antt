use Rattle.std.specs.Prelude.{Err, Ok}
use mathlib.Core.Path.{◌≡◌, sym, ap, ◌∙◌}
use mathlib.Core.List.{List}
use Prim.Native.Nat.{ℕ, ◌+◌, ◌≤◌, ◌<◌}
use native.Mathlib.Omega.{arith}
use lib.ListN.{length}
use Rattle.syntax.specs.Segment.{segment_at}
use Rattle.syntax.specs.Ends.{end_within, body_slice}
use Rattle.steps.specs.Step.{segment_step}
use Rattle.interchange.specs.Reader.{turn_step}
use Rattle.interchange.specs.Turns.{with_is}
use borrow.Author.Rules.{rules}
use Rattle.interchange.proofs.turn.turn_with.Goals.{After-read_segment, In-Ok, Start}
use Rattle.interchange.proofs.turn.turn_with.Goals as goal

-- a whole segment
module _ (k : In-Ok) where
  whole : segment_at k.args.s.now k.args.at ≡ Ok k.in-Ok.end
  whole = sym k.read_segment.ensures.scan ∙ k.in-Ok.is

  bounds : (k.args.at + 3 ≤ k.in-Ok.end) × (k.in-Ok.end < length k.args.s.now)
  bounds = end_within k.args.s.now k.args.at k.in-Ok.end whole

pub slice_bounds-step_segment-count : goal.slice_bounds-step_segment-count
slice_bounds-step_segment-count c = let w = bounds (goal.at.slice_bounds-step_segment-count c).In-Ok in omega arith

pub slice_bounds-step_segment-start : goal.slice_bounds-step_segment-start
slice_bounds-step_segment-start c = let w = bounds (goal.at.slice_bounds-step_segment-start c).In-Ok in omega arith

pub slice_bounds-step_segment-end : goal.slice_bounds-step_segment-end
slice_bounds-step_segment-end c = let w = bounds (goal.at.slice_bounds-step_segment-end c).In-Ok in omega arith

pub overflow_add-end : goal.overflow_add-end
overflow_add-end c = let w = bounds (goal.at.overflow_add-end c).In-Ok in omega arith

pub returns-in-Ok : goal.returns-in-Ok
returns-in-Ok c =
    let a = c.args in
    let s = c.args.s.now in
    let d = a.dialogue.now in
    let r = a.reference.now in
    c.turned.ensures
    ∙ ap (turn_step (c.in-Ok.end + 1)) (c.step_segment-step.ensures ∙ ap (λ (g : List ℕ). segment_step a.tables.now a.st a.at g d r) (body_slice s a.at c.in-Ok.end (whole (goal.at.returns-in-Ok c).In-Ok)))
    ∙ with_is a.tables.now s d r a.st a.at (Ok c.in-Ok.end) (whole (goal.at.returns-in-Ok c).In-Ok)

pub returns-in-Err : goal.returns-in-Err
returns-in-Err c =
    let a = c.args in
    ap Err c.refusal.ensures ∙ with_is a.tables.now a.s.now a.dialogue.now a.reference.now a.st a.at (Err c.in-Err.error) (sym c.read_segment.ensures.scan ∙ c.in-Err.is)
