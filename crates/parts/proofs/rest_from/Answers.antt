use mathlib.Core.Path.{◌≡◌, refl, sym, ap, ◌∙◌}
use mathlib.Core.Logic.{◌⊎◌, inl, inr}
use Prim.Native.Nat.{ℕ, ◌+◌, ◌-◌, ◌≤◌, ◌<◌}
use native.Mathlib.Omega.{arith}
use lib.ListN.{length}
use Rattle.parts.specs.declared.Part.{Part}
use Rattle.laws.specs.Lists.{between}
use Rattle.syntax.specs.Pieces.{pieces}
use Rattle.parts.specs.Places.{absent, span_of, piece_at}
use Rattle.parts.specs.Cuts.{cut_end, first_of, span_step, span_stop, span_last, first_absent}
use Rattle.parts.proofs.rest_from.Goals.{After-piece_end-end, then-to-end-via-then-to-end, then-to-end-via-else-to-end+then-s-end}
use Rattle.parts.proofs.rest_from.Goals as goal

-- where a piece ended
module _ (b : After-piece_end-end) where
  gone : (b.args.part.to ≤ b.piece_end-end.result) ⊎ (length b.args.s.now ≤ b.piece_end-end.result) → absent ≡ piece_at b.args.s.now b.args.part b.args.mark b.args.n
  gone h =
      sym (span_stop b.args.s.now b.loop.from b.args.part.to b.args.mark b.requires (b.args.n - b.loop.counter) b.piece_end-end.result b.piece_end-end.ensures (omega arith) h)
      ∙ b.loop.invariant

  on : b.piece_end-end.result < b.args.part.to → b.piece_end-end.result < length b.args.s.now
      → span_of (b.piece_end-end.result + 1) (pieces b.args.mark (between b.args.s.now (b.piece_end-end.result + 1) b.args.part.to)) (b.args.n - (b.loop.counter + 1)) ≡ piece_at b.args.s.now b.args.part b.args.mark b.args.n
  on h g =
      let e : b.args.n - (b.loop.counter + 1) ≡ b.args.n - b.loop.counter - 1 = omega arith in
      ap (λ (k : ℕ). span_of (b.piece_end-end.result + 1) (pieces b.args.mark (between b.args.s.now (b.piece_end-end.result + 1) b.args.part.to)) k) e
      ∙ sym (span_step b.args.s.now b.loop.from b.args.part.to b.args.mark b.requires (b.args.n - b.loop.counter) b.piece_end-end.result b.piece_end-end.ensures (omega arith) h g)
      ∙ b.loop.invariant

pub returns-then-to-end : goal.returns-then-to-end
returns-then-to-end c =
    let g = gone (goal.at.returns-then-to-end c).After-piece_end-end in
    let a : absent ≡ piece_at c.args.s.now c.args.part c.args.mark c.args.n = elim c.then-to-end.branch [
      | then-to-end-via-then-to-end w ↦ g (inl w.if-to-end.true)
      | then-to-end-via-else-to-end+then-s-end w ↦ g (inr w.if-s-end.true)
    ] in
    ap (λ (x : Part). first_of c.args.s.now x c.args.mark) c.none.ensures ∙ first_absent c.args.s.now c.args.mark ∙ a

pub loop-preserved : goal.loop-preserved
loop-preserved c = on (goal.at.loop-preserved c).After-piece_end-end c.if-to-end.false c.if-s-end.false

pub returns : goal.returns
returns c =
    let a = c.args in
    span_last a.s.now c.loop.from a.part.to a.mark c.requires (a.n - c.loop.counter) (cut_end a.s.now c.loop.from a.part.to a.mark) refl (omega arith)
    ∙ c.loop.invariant
