-- `mark_released` meets its contract.
-- Assumes nothing.
use Rattle.std.proofs.Common.{◌≡◌, ◌∷◌, Bool, ℕ, List, ◌+◌, ◌-◌, ◌<◌, drop, eqb, get_or, sym, ap, ◌∙◌, arith, inl, inr}
use Rattle.laws.specs.Choice.{pick}
use Rattle.calendar.specs.Days.{with_day}
use Rattle.syntax.specs.Bytes.{plain}
use Rattle.joining.specs.Joined.{marked}
use Rattle.joining.specs.Marks.{mark_step, mark_ends, mark_none, text_here, text_next, text_gone}
use Rattle.joining.proofs.mark_released.Goals as goal

-- the text from which the days are marked
module _ (text : List ℕ) where
  abbrev test : ℕ → Bool
  test x = eqb (get_or text x 0) 49

  -- one character more: the day i, that is at + k, is marked by it
  one_more : (c : List ℕ) (at k n i b j : ℕ) {p l last : List ℕ} → k < n → i ≡ at + k → j ≡ k + 1 → drop k text ≡ p → p ≡ b ∷ l → last ≡ pick (eqb b 49) (with_day c i) c
      → (drop j text ≡ l) × (marked test last at j (n - j) ≡ marked test c at k (n - k))
  one_more c at k n i b j h e f d q m =
      rw (f)
      (text_next text k b d q, mark_step test at c k n h (ap (λ (x : ℕ). eqb x 49) (sym (text_here text k b d q))) (rw e at m))

pub loop-k-preserved : goal.loop-k-preserved
loop-k-preserved c =
    let a = c.args in
    let h = c.in-Some.ensures.steps in
    let i = c.loop-k.invariant in
    let k = c.loop-k.k-iterator.a.start - a.at in
    let more = one_more (plain a.part.now) c.loop-k.days a.at k a.n c.in-Some.k c.in-Some.b (c.next.new.self.a.start - a.at) (omega arith) (omega arith) (omega arith) i.left h.1 c.set_if.ensures in
    record { low = omega arith; high = omega arith; end = omega arith; left = more.0; marks = more.1 ∙ i.marks }

pub returns : goal.returns
returns c =
    let a = c.args in
    let i = c.loop-k.invariant in
    let k = c.loop-k.k-iterator.a.start - a.at in
    let d = c.loop-k.days in
    elim c.in-None.ensures.steps [
      | inl x ↦ sym (mark_ends (test (plain a.part.now)) a.at d k a.n (omega (arith, x.1))) ∙ i.marks
      | inr x ↦ sym (mark_none (test (plain a.part.now)) a.at d k (a.n - k) (text_gone (plain a.part.now) k i.left x.1.0)) ∙ i.marks
    ]
