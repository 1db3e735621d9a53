use mathlib.Core.Path.{◌≡◌, sym, ap, ◌∙◌}
use mathlib.Core.List.{List}
use mathlib.Core.Bool.{Bool, false}
use Prim.Native.Nat.{ℕ, ◌-◌, ◌/◌, ◌≤◌}
use native.Mathlib.Omega.{arith}
use borrow.Author.Tests.{ne_eqb}
use lib.ListN.{length, get_or, drop}
use Rattle.syntax.specs.Pieces.{first_piece}
use Rattle.syntax.specs.Segment.{segment_at}
use Rattle.syntax.specs.Onward.{onward, Within}
use Rattle.syntax.specs.Scan.{scan_start, scan_run, scan_stop, scan_end, scan_bad, scan_mark, scan_question, scan_released_bad, scan_none, within_none, within_text, within_mark}
use Rattle.syntax.specs.Released.{release_from, scan_releases}
use Rattle.syntax.proofs.segment.counted.Goals.{After-text-counts, At-loop-i}
use Rattle.syntax.proofs.segment.counted.Goals as goal

-- after a run of plain text: where the scan stands, and that the answer is still to come from there
module _ (t : After-text-counts) where
  abbrev list : List ℕ
  list = t.args.s.now

  abbrev tag : Bool
  tag = t.is_tagged-tagged.result

  passed : t.loop-i.i ≤ t.text_end-j.result
  passed = let e = t.text_end-j.ensures in omega arith

  within : Within t.text-counts.result
  within = rw t.text-counts.ensures (within_text t.loop-i.counts t.loop-i.invariant.0 (t.text_end-j.result - t.loop-i.i))

  stands : onward (length list) tag t.text_end-j.result t.text-counts.result (first_piece 39 false (drop t.text_end-j.result list)) ≡ segment_at list t.args.at
  stands =
      ap (λ k. onward (length list) tag t.text_end-j.result k (first_piece 39 false (drop t.text_end-j.result list))) t.text-counts.ensures
      ∙ sym (scan_run list tag t.loop-i.i t.text_end-j.result t.loop-i.counts t.text_end-j.ensures)
      ∙ t.loop-i.invariant.1

pub loop-i-init : goal.loop-i-init
loop-i-init c =
    let a = c.args in
    let e = c.none-counts.ensures in
    (rw e within_none, rw (e, c.is_tagged-tagged.ensures) (scan_start a.s.now a.at))

pub returns-then-s-j : goal.returns-then-s-j
returns-then-s-j c =
    let a = c.args in
    sym (scan_run a.s.now c.is_tagged-tagged.result c.loop-i.i c.text_end-j.result c.loop-i.counts c.text_end-j.ensures
    ∙ scan_none a.s.now c.is_tagged-tagged.result c.text_end-j.result _ c.if-s-j.true)
    ∙ c.loop-i.invariant.1

pub overflow_sub-j : goal.overflow_sub-j
overflow_sub-j c = let e = c.text_end-j.ensures in omega arith

pub returns-then-b-eq39 : goal.returns-then-b-eq39
returns-then-b-eq39 c =
    c.ended.ensures ∙ sym (scan_end (list (goal.at.returns-then-b-eq39 c).After-text-counts) (tag (goal.at.returns-then-b-eq39 c).After-text-counts) c.text_end-j.result c.text-counts.result c.if-s-j.false (within (goal.at.returns-then-b-eq39 c).After-text-counts) c.if-b-eq39.true) ∙ stands (goal.at.returns-then-b-eq39 c).After-text-counts

pub returns-then-s-k : goal.returns-then-s-k
returns-then-s-k c =
    sym (scan_question (list (goal.at.returns-then-s-k c).After-text-counts) (tag (goal.at.returns-then-s-k c).After-text-counts) c.text_end-j.result c.text-counts.result c.if-s-j.false c.if-b-eq63.true c.if-s-k.true) ∙ stands (goal.at.returns-then-s-k c).After-text-counts

pub returns-then-not-permitted : goal.returns-then-not-permitted
returns-then-not-permitted c =
    sym (scan_released_bad (list (goal.at.returns-then-not-permitted c).After-text-counts) (tag (goal.at.returns-then-not-permitted c).After-text-counts) c.text_end-j.result c.text-counts.result c.if-s-j.false c.if-b-eq63.true c.if-s-k.false
    (sym c.permitted.ensures ∙ c.if-not-permitted.true))
    ∙ stands (goal.at.returns-then-not-permitted c).After-text-counts

pub overflow_sub-i : goal.overflow_sub-i
overflow_sub-i c = let e = c.released_end-i.ensures in omega arith

pub loop-i-smaller-then-b-eq63 : goal.loop-i-smaller-then-b-eq63
loop-i-smaller-then-b-eq63 c =
    let p = passed (goal.at.loop-i-smaller-then-b-eq63 c).After-text-counts in
    let q = c.if-s-j.false in
    let e = c.released_end-i.ensures in
    omega arith

pub loop-i-preserved-then-b-eq63 : goal.loop-i-preserved-then-b-eq63
loop-i-preserved-then-b-eq63 c =
    let m = c.released_end-i.result in
    let g = release_from (list (goal.at.loop-i-preserved-then-b-eq63 c).After-text-counts) c.text_end-j.result m c.if-s-k.false c.if-b-eq63.true (sym c.permitted.ensures ∙ c.if-not-permitted.false) c.released_end-i.ensures in
    let v = c.text-counts-then-b-eq63.ensures in (
      rw v (within_text c.text-counts.result (within (goal.at.loop-i-preserved-then-b-eq63 c).After-text-counts) ((m - c.text_end-j.result) / 2)),
      rw v (sym (scan_releases (list (goal.at.loop-i-preserved-then-b-eq63 c).After-text-counts) (tag (goal.at.loop-i-preserved-then-b-eq63 c).After-text-counts) c.text_end-j.result m c.text-counts.result g) ∙ stands (goal.at.loop-i-preserved-then-b-eq63 c).After-text-counts),
    )

pub returns-then-not-is_mark : goal.returns-then-not-is_mark
returns-then-not-is_mark c =
    sym (scan_bad (list (goal.at.returns-then-not-is_mark c).After-text-counts) (tag (goal.at.returns-then-not-is_mark c).After-text-counts) c.text_end-j.result c.text-counts.result c.if-s-j.false
    (scan_stop (list (goal.at.returns-then-not-is_mark c).After-text-counts) c.loop-i.i c.text_end-j.result c.text_end-j.ensures c.if-s-j.false)
    (ne_eqb _ _ c.if-b-eq39.false)
    (ne_eqb _ _ c.if-b-eq63.false)
    (sym c.is_mark.ensures ∙ c.if-not-is_mark.true))
    ∙ stands (goal.at.returns-then-not-is_mark c).After-text-counts

pub loop-i-smaller : goal.loop-i-smaller
loop-i-smaller c =
    let p = passed (goal.at.loop-i-smaller c).After-text-counts in
    let q = c.if-s-j.false in
    omega arith

pub loop-i-preserved : goal.loop-i-preserved
loop-i-preserved c =
    let v = c.mark-counts.ensures in (
      rw v (within_mark c.text-counts.result (within (goal.at.loop-i-preserved c).After-text-counts) (get_or (list (goal.at.loop-i-preserved c).After-text-counts) c.text_end-j.result 0)),
      rw v (sym (scan_mark (list (goal.at.loop-i-preserved c).After-text-counts) (tag (goal.at.loop-i-preserved c).After-text-counts) c.text_end-j.result c.text-counts.result c.if-s-j.false (within (goal.at.loop-i-preserved c).After-text-counts)
          (sym c.is_mark.ensures ∙ c.if-not-is_mark.false))
          ∙ stands (goal.at.loop-i-preserved c).After-text-counts),
    )

pub returns : goal.returns
returns c =
    let a = c.args in
    sym (scan_none a.s.now c.is_tagged-tagged.result c.loop-i.i c.loop-i.counts c.loop-i-test.false) ∙ c.loop-i.invariant.1
