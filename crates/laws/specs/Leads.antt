-- How many bytes of a kind a list begins with, told from a number that has a digit set where each other byte stands.
-- Assumes nothing.
use Rattle.std.specs.Prelude.{◌≡◌, refl, Bool, ℕ, suc, ◌+◌, ◌*◌, ◌/◌, ◌≤◌, ◌<◌, length, drop}
use Rattle.std.proofs.Common.{ap, ◌∙◌}
use mathlib.Core.List.{List, [], ◌∷◌, ◌++◌}
use native.Mathlib.Omega.{arith}
use Rattle.std.specs.Int.Count.{count_trailing_zeros, trailing_of_zero}
use Rattle.laws.specs.Choice.{pick, choose}
use Rattle.laws.specs.Words.{word_by}
use Rattle.laws.specs.Eight.{eight_at, drop_eight}
use Rattle.laws.specs.Zeros.{digits_of, zeros_pass, zeros_stop}

-- how many bytes of a kind a list begins with
unfoldable pub run_of : (ℕ → Bool) → List ℕ → ℕ
run_of f [] = 0
run_of f (b ∷ l) = pick (f b) (suc (run_of f l)) 0

-- the zeros below the first stop tell of a run that it has at least
module _ (f : ℕ → Bool) where
  run_more : (l m : List ℕ) → run_of f l ≤ run_of f (l ++ m)
  unfolding run_of
  run_more [] m = omega arith
  run_more (b ∷ l) m = choose (f b) (λ p. let h = run_more l m in rw p (omega arith)) (λ p. rw p (omega arith))

  lead : (l : List ℕ) → count_trailing_zeros (digits_of l) (word_by (λ b. pick (f b) 0 128) l) ≤ 8 * run_of f l + 7
  unfolding run_of word_by count_trailing_zeros
  lead [] = omega arith
  lead (b ∷ l) =
      let w = word_by (λ b. pick (f b) 0 128) l in
      choose (f b)
      (λ p. let z = zeros_pass (digits_of l) w in let h = lead l in rw p (omega arith))
      (λ p. let z = zeros_stop (digits_of l) w in rw p (omega arith))

  -- and where one of the bytes stops, not all digits are zeros
  lead_less : (l : List ℕ) → (word_by (λ b. pick (f b) 0 128) l ≡ 0 → ⊥) → count_trailing_zeros (digits_of l) (word_by (λ b. pick (f b) 0 128) l) < digits_of l
  unfolding word_by count_trailing_zeros
  lead_less [] n = absurd (n refl)
  lead_less (b ∷ l) n =
      let w = word_by (λ b. pick (f b) 0 128) l in
      choose (f b)
      (λ p. let z = zeros_pass (digits_of l) w in let h = lead_less l (λ e. n (rw p (omega arith))) in rw p (omega arith))
      (λ p. let z = zeros_stop (digits_of l) w in rw p (omega arith))

  module _ (s : List ℕ) (i y : ℕ) (h : i + 8 ≤ length s) (e : y ≡ word_by (λ b. pick (f b) 0 128) (eight_at s i)) where
    pub eight_inside : (y ≡ 0 → ⊥) → count_trailing_zeros 64 y < 64
    eight_inside n =
        let d = ap (count_trailing_zeros 64) e in
        let a = lead_less (eight_at s i) (λ z. n (e ∙ z)) in
        omega arith

    pub eight_lead : count_trailing_zeros 64 y / 8 ≤ run_of f (drop i s)
    eight_lead =
        let a = lead (eight_at s i) in
        let b = run_more (eight_at s i) (drop (i + 8) s) in
        let c = ap (run_of f) (drop_eight s i h) in
        let d = ap (count_trailing_zeros 64) e in
        omega arith

    pub eight_clear : y ≡ 0 → 8 ≤ run_of f (drop i s)
    eight_clear z =
        let a = eight_lead in
        let b = ap (count_trailing_zeros 64) z ∙ trailing_of_zero 64 in
        omega arith
