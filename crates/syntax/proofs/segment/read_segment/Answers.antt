-- `read_segment` meets its contract.
-- Assumes nothing.
use Rattle.std.specs.Prelude.{Ok}
use mathlib.Core.Path.{◌≡◌, refl, sym, ap, ◌∙◌}
use mathlib.Core.Bool.{true}
use Prim.Native.Nat.{◌+◌, ◌≤◌}
use native.Mathlib.Omega.{arith}
use lib.ListN.{length, drop}
use Rattle.syntax.specs.Tags.{tag_ahead}
use Rattle.syntax.specs.Said.{scan_said}
use Rattle.syntax.specs.Whole.{tag_facts, plus_after, whole_bare}
use Rattle.syntax.specs.Quick.{quick_is, quick_whole}
use Rattle.syntax.proofs.segment.read_segment.Goals.{Then-is_tagged}
use Rattle.syntax.proofs.segment.read_segment.Goals as goal

-- the segment is tagged
module _ (c : Then-is_tagged) where
  ahead : tag_ahead (drop c.args.at c.args.s.now) ≡ true
  ahead = sym c.is_tagged.ensures ∙ c.if-is_tagged.true

  long : c.args.at + 4 ≤ length c.args.s.now
  long = (tag_facts c.args.s.now c.args.at ahead).long

pub overflow_add-at : goal.overflow_add-at
overflow_add-at c = let h = long (goal.at.overflow_add-at c).Then-is_tagged in omega arith

pub bounds-s-at : goal.bounds-s-at
bounds-s-at c = let h = long (goal.at.bounds-s-at c).Then-is_tagged in omega arith

pub overflow_add-result : goal.overflow_add-result
overflow_add-result c = let h = long (goal.at.overflow_add-result c).Then-is_tagged in omega arith

pub returns-then-s-at-eq39 : goal.returns-then-s-at-eq39
returns-then-s-at-eq39 c = record { scan = (scan_said c.args.s.now c.args.at (whole_bare c.args.s.now c.args.at (ahead (goal.at.returns-then-s-at-eq39 c).Then-is_tagged) c.if-s-at-eq39.true)).0; said = (scan_said c.args.s.now c.args.at (whole_bare c.args.s.now c.args.at (ahead (goal.at.returns-then-s-at-eq39 c).Then-is_tagged) c.if-s-at-eq39.true)).1 }

pub overflow_add-at-then-is_tagged : goal.overflow_add-at-then-is_tagged
overflow_add-at-then-is_tagged c = let h = long (goal.at.overflow_add-at-then-is_tagged c).Then-is_tagged in omega arith

pub small_end-requires : goal.small_end-requires
small_end-requires c = let h = long (goal.at.small_end-requires c).Then-is_tagged in (h, refl, omega arith)

pub returns-in-Some : goal.returns-in-Some
returns-in-Some c =
    let e = quick_is c.args.s.now c.args.at c.in-Some.end (sym c.small_end.ensures ∙ c.in-Some.is) in
    let f = ahead (goal.at.returns-in-Some c).Then-is_tagged in
    let w = ap Ok (sym e.0) ∙ sym (quick_whole c.args.s.now c.args.at f (plus_after c.args.s.now c.args.at f c.if-s-at-eq39.false) e.1) in
    record { scan = (scan_said c.args.s.now c.args.at w).0; said = (scan_said c.args.s.now c.args.at w).1 }

pub returns : goal.returns
returns c =
    let a = c.args in record { scan = (scan_said a.s.now a.at c.counted.ensures).0; said = (scan_said a.s.now a.at c.counted.ensures).1 }
