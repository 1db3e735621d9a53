-- `near_end` meets its contract.
-- Assumes nothing.
use mathlib.Core.Path.{◌≡◌, sym, ap, ◌∙◌}
use Prim.Native.Nat.{ℕ, ◌+◌, ◌≤◌, min}
use native.Mathlib.Omega.{arith}
use lib.ListN.{length, take}
use lib.Seq.{length-take-le}
use Rattle.syntax.specs.Found.{end_from, end_quote, told_of, told_some}
use Rattle.syntax.specs.Near.{end_front, told_front}
use Rattle.syntax.proofs.segment.near_end.Goals.{After-near-cut}
use Rattle.syntax.proofs.segment.near_end.Goals as goal

-- the front that is looked at
module _ (n : After-near-cut) where
  within : n.near-cut.result ≤ length n.args.s.now
  within = let e = n.near-cut.ensures in omega arith

  front : n.near-cut.result ≡ length (take n.near-cut.result n.args.s.now)
  front = sym (length-take-le n.near-cut.result n.args.s.now within)

pub slice_bounds-common_end-end : goal.slice_bounds-common_end-end
slice_bounds-common_end-end c = front (goal.at.slice_bounds-common_end-end c).After-near-cut

pub returns-then-s-j-eq39 : goal.returns-then-s-j-eq39
returns-then-s-j-eq39 c =
    let s = c.args.s.now in
    let j = c.common_end-j.result in
    let n = c.near-cut.result in
    let l = c.if-j-cut.true in
    let h = within (goal.at.returns-then-s-j-eq39 c).After-near-cut in
    let q = end_quote s j (omega arith) c.if-s-j-eq39.true in
    let g = end_front s n j h in
    let e : j ≡ end_from (take n s) j = omega arith in
    told_some n j l ∙ ap (told_of n) (e ∙ c.common_end-j.ensures.1) ∙ told_front s n c.args.from h ∙ ap (λ (m : ℕ). told_of m (end_from s c.args.from)) c.near-cut.ensures

pub slice_bounds-find_end-end : goal.slice_bounds-find_end-end
slice_bounds-find_end-end c = front (goal.at.slice_bounds-find_end-end c).After-near-cut

pub returns : goal.returns
returns c =
    let s = c.args.s.now in
    let n = c.near-cut.result in
    let h = within (goal.at.returns c).After-near-cut in
    c.find_end.ensures ∙ ap (λ (m : ℕ). told_of m (end_from (take n s) c.common_end-j.result)) (length-take-le n s h) ∙ ap (told_of n) c.common_end-j.ensures.1 ∙ told_front s n c.args.from h ∙ ap (λ (m : ℕ). told_of m (end_from s c.args.from)) c.near-cut.ensures
