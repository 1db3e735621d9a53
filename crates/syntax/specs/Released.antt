-- Runs of released bytes, which a scan passes over at once.
-- Assumes nothing.
use Rattle.std.specs.Prelude.{◌≡◌, refl, Bool, true, eqb, length, get_or, drop}
use Rattle.std.proofs.Common.{sym, ap, ◌∙◌, zero-add, length-drop, drop-drop}
use Rattle.std.proofs.Math.Bool.{false}
use mathlib.Core.List.{List, [], ◌∷◌}
use Prim.Native.Nat.{ℕ, suc, ◌+◌, ◌-◌, ◌*◌, ◌/◌, ◌≤◌, ◌<◌}
use native.Mathlib.Omega.{arith}
use Rattle.std.proofs.Math.Nat.{add-zero}
use borrow.Author.Tests.{eq-eqb, eqb-true}
use Rattle.laws.specs.Choice.{pick, both, choose, both_parts, both_false}
use Rattle.laws.specs.Lists.{drop_here}
use Rattle.syntax.specs.declared.limits.Counts.{Counts}
use Rattle.syntax.specs.Bytes.{permitted_of}
use Rattle.syntax.specs.Pieces.{first_piece}
use Rattle.syntax.specs.Counts.{text_of}
use Rattle.syntax.specs.Onward.{onward, more, onward_released, onward_counted}
use Rattle.syntax.specs.Found.{found_end, end_from, end_byte, fine_question}

-- with how many releases of permitted bytes a list begins
unfoldable pub release_run : List ℕ → ℕ
release_run [] = 0
release_run (b ∷ []) = 0
release_run (b ∷ c ∷ l) = pick (both (eqb b 63) (permitted_of c)) (suc (release_run l)) 0

-- at an index of the input
pub release_short : (s : List ℕ) (i : ℕ) → length s ≤ i + 1 → release_run (drop i s) ≡ 0
unfolding release_run
release_short s i h = short (drop i s) (let d = length-drop i s in omega arith)
  where
    short : (l : List ℕ) → length l ≤ 1 → release_run l ≡ 0
    short [] g = refl
    short (b ∷ []) g = refl
    short (b ∷ c ∷ l) g = absurd (omega arith)

module _ (s : List ℕ) (i : ℕ) (h : i + 1 < length s) where
  two : drop i s ≡ get_or s i 0 ∷ get_or s (i + 1) 0 ∷ drop (i + 1 + 1) s
  two = drop_here s i (omega arith) ∙ ap (λ (x : List ℕ). get_or s i 0 ∷ x) (drop_here s (i + 1) h)

  pub release_on : get_or s i 0 ≡ 63 → permitted_of (get_or s (i + 1) 0) ≡ true → release_run (drop i s) ≡ suc (release_run (drop (i + 1 + 1) s))
  unfolding release_run
  release_on e p = rw (two, eq-eqb (get_or s i 0) 63 e, p)

  pub release_two : get_or s i 0 ≡ 63 → permitted_of (get_or s (i + 1) 0) ≡ true → i + 2 + 2 * release_run (drop (i + 2) s) ≡ i + 2 * release_run (drop i s)
  release_two e p =
      let r = release_on e p in
      let x : i + 1 + 1 ≡ i + 2 = omega arith in
      let y = ap (λ (n : ℕ). release_run (drop n s)) x in
      omega arith

  pub release_other : eqb (get_or s i 0) 63 ≡ false → release_run (drop i s) ≡ 0
  unfolding release_run
  release_other e = rw (two, e)

  pub release_bad : permitted_of (get_or s (i + 1) 0) ≡ false → release_run (drop i s) ≡ 0
  unfolding release_run
  release_bad p = rw two (simp (p, both_false))

-- a release, and those after it
pub release_from : (s : List ℕ) (i j : ℕ) → i + 1 < length s → get_or s i 0 ≡ 63 → permitted_of (get_or s (i + 1) 0) ≡ true
    → j ≡ i + 1 + 1 + 2 * release_run (drop (i + 1 + 1) s) → j ≡ i + 2 * release_run (drop i s)
release_from s i j h e p g = let r = release_on s i h e p in omega arith

-- a run is passed at once by any scan that passes a release and counts it
module _ {X : Type 0} (scan : ℕ → ℕ → List ℕ → X)
    (step : (i m c : ℕ) (g : List ℕ) → permitted_of c ≡ true → scan i m (63 ∷ c ∷ g) ≡ scan (i + 1 + 1) (m + 1) g) where
  at_once : (l : List ℕ) (i m : ℕ) → scan i m (first_piece 39 false l) ≡ scan (i + 2 * release_run l) (m + release_run l) (first_piece 39 false (drop (2 * release_run l) l))
  unfolding release_run first_piece
  at_once [] i m = simp add-zero
  at_once (b ∷ []) i m = simp add-zero
  at_once (b ∷ c ∷ l) i m =
      choose (both (eqb b 63) (permitted_of c))
      (λ q.
      let w = both_parts (eqb b 63) (permitted_of c) q in
      let e = eqb-true b 63 w.0 in
      let r = release_run l in
      let x : i + 2 * suc r ≡ i + 1 + 1 + 2 * r = omega arith in
      let y : m + suc r ≡ m + 1 + r = omega arith in
      let z : 2 * suc r ≡ suc (suc (2 * r)) = omega arith in
      rw (q, e, x, y, z) (step i m c (first_piece 39 false l) w.1 ∙ at_once l (i + 1 + 1) (m + 1)))
      (λ q. rw q (simp add-zero))

-- by one that counts the parts
pub scan_releases : (s : List ℕ) (tag : Bool) (i j : ℕ) (k : Counts) → j ≡ i + 2 * release_run (drop i s)
    → onward (length s) tag i k (first_piece 39 false (drop i s)) ≡ onward (length s) tag j (text_of k ((j - i) / 2)) (first_piece 39 false (drop j s))
scan_releases s tag i j k h =
    let n = length s in
    let r = release_run (drop i s) in
    let e : (j - i) / 2 ≡ r = omega arith in
    let more-one : (m : ℕ) → k.characters + m + 1 ≡ k.characters + (m + 1) = λ m. omega arith in
    let passed = at_once (λ i m g. onward n tag i (more k m) g) (λ i m c g p. onward_released n tag i (more k m) c g p ∙ rw more-one) (drop i s) i 0 in
    (simp (add-zero, zero-add) at passed)
    ∙ rw (drop-drop, e, h) (sym (onward_counted n tag (i + 2 * r) k r (first_piece 39 false (drop (i + 2 * r) s))))

-- and by one that looks for the end
pub end_releases : (s : List ℕ) (i j : ℕ) → j ≡ i + 2 * release_run (drop i s) → end_from s i ≡ end_from s j
end_releases s i j h =
    at_once (λ i m g. found_end (length s) i g) (λ i m c g p. end_byte (length s) i 63 (c ∷ g) fine_question ∙ end_byte (length s) (i + 1) c g p) (drop i s) i 0
    ∙ rw (drop-drop, h)
