-- `piece_end` meets its contract.
-- Assumes nothing.
use mathlib.Core.Path.{◌≡◌, ap, ◌∙◌}
use Prim.Native.Nat.{ℕ, ◌<◌}
use native.Mathlib.Omega.{arith}
use Rattle.parts.specs.Cuts.{cut_end}
use Rattle.parts.specs.Walked.{ends_known, goes_known, cut_least}
use Rattle.parts.proofs.ends.piece_end.Goals.{At-loop-at, In-Continue}
use Rattle.parts.proofs.ends.piece_end.Goals as goal

pub walk-requires : goal.walk-requires
walk-requires c = omega (arith, c.min-end.ensures)

pub returns-in-Break : goal.returns-in-Break
returns-in-Break c =
    let a = c.args in
    ends_known a.s.now c.loop-at.i c.min-end.result a.mark c.walk.ensures c.in-Break.is ∙ c.loop-at.invariant
    ∙ ap (λ (x : ℕ). cut_end a.s.now a.from x a.mark) c.min-end.ensures ∙ cut_least a.s.now a.from a.to a.mark

-- the walk came to an index from which the piece goes on
module _ (t : In-Continue) where
  went : (t.loop-at.i < t.in-Continue.next) × (t.in-Continue.next < t.min-end.result) × (cut_end t.args.s.now t.in-Continue.next t.min-end.result t.args.mark ≡ cut_end t.args.s.now t.loop-at.i t.min-end.result t.args.mark)
  went = goes_known t.args.s.now t.loop-at.i t.min-end.result t.args.mark t.walk.ensures t.in-Continue.is

pub loop-at-smaller : goal.loop-at-smaller
loop-at-smaller c =
    let w = went (goal.at.loop-at-smaller c).In-Continue in
    omega (arith, w.0, w.1, c.pass_plain-i.ensures.0)

pub loop-at-preserved : goal.loop-at-preserved
loop-at-preserved c = c.pass_plain-i.ensures.1 ∙ (went (goal.at.loop-at-preserved c).In-Continue).2 ∙ c.loop-at.invariant
