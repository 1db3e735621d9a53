-- The laws of days marked one after the other.
-- Assumes nothing.
use Rattle.std.specs.Prelude.{◌≡◌, Bool, true, false, eqb, length, drop, get_or}
use Rattle.std.proofs.Math.Path.{refl, ap}
use Rattle.std.proofs.Common.{sym, ◌∙◌, length-drop, drop-drop, get_or-drop}
use mathlib.Core.List.{List, [], ◌∷◌}
use Prim.Native.Nat.{ℕ, zero, suc, ◌+◌, ◌-◌, ◌≤◌, ◌<◌}
use native.Mathlib.Omega.{arith}
use Rattle.std.proofs.Math.ListN.{get_or-eq_default}
use Rattle.laws.specs.Choice.{pick}
use Rattle.calendar.specs.Days.{with_day}
use Rattle.calendar.specs.Laws.{length_with}
use Rattle.joining.specs.Joined.{marked}

pick_length : (w : Bool) (c : List ℕ) (i : ℕ) → length (pick w (with_day c i) c) ≡ length c
pick_length true c i = length_with c i
pick_length false c i = refl

pub length_step : (w : Bool) (c : List ℕ) (i : ℕ) {last : List ℕ} → last ≡ pick w (with_day c i) c → length last ≡ length c
length_step w c i e = ap length e ∙ pick_length w c i

pub length_marked : (t : ℕ → Bool) (c : List ℕ) (at k m : ℕ) → length (marked t c at k m) ≡ length c
unfolding marked
length_marked t c at k zero = refl
length_marked t c at k (suc m) = length_marked t (pick (t k) (with_day c (at + k)) c) at (k + 1) m ∙ pick_length (t k) c (at + k)

module _ (t : ℕ → Bool) (at : ℕ) where
  -- the days left to mark
  pub mark_step : (c : List ℕ) (k n : ℕ) {last : List ℕ} {w : Bool} → k < n → w ≡ t k → last ≡ pick w (with_day c (at + k)) c
      → marked t last at (k + 1) (n - (k + 1)) ≡ marked t c at k (n - k)
  unfolding marked
  mark_step c k n h e l =
      let s : n - k ≡ suc (n - (k + 1)) = omega arith in
      rw s (ap (λ (x : List ℕ). marked t x at (k + 1) (n - (k + 1))) (l ∙ ap (λ (x : Bool). pick x (with_day c (at + k)) c) e))

  pub mark_ends : (c : List ℕ) (k n : ℕ) → n ≤ k → marked t c at k (n - k) ≡ c
  unfolding marked
  mark_ends c k n h = let s : n - k ≡ zero = omega arith in rw s

  -- no day is left of which the test holds
  pub mark_none : (c : List ℕ) (k m : ℕ) → ((j : ℕ) → k ≤ j → t j ≡ false) → marked t c at k m ≡ c
  unfolding marked
  mark_none c k zero f = refl
  mark_none c k (suc m) f = rw (f k (omega arith)) (mark_none c (k + 1) m (λ j h. f j (omega arith)))

-- two tests that agree
pub mark_same : (t u : ℕ → Bool) (c : List ℕ) (at k m : ℕ) → ((j : ℕ) → k ≤ j → t j ≡ u j) → marked t c at k m ≡ marked u c at k m
unfolding marked
mark_same t u c at k zero f = refl
mark_same t u c at k (suc m) f = rw (f k (omega arith)) (mark_same t u (pick (u k) (with_day c (at + k)) c) at (k + 1) m (λ j h. f j (omega arith)))

-- what is left of a text, and its characters
pub text_here : (t : List ℕ) (k b : ℕ) {p l : List ℕ} → drop k t ≡ p → p ≡ b ∷ l → get_or t k 0 ≡ b
text_here t k b e f =
    let z : k + 0 ≡ k = omega arith in
    sym (get_or-drop k t 0 0 ∙ ap (λ (x : ℕ). get_or t x 0) z) ∙ ap (λ (x : List ℕ). get_or x 0 0) (e ∙ f)

pub text_next : (t : List ℕ) (k b : ℕ) {p l : List ℕ} → drop k t ≡ p → p ≡ b ∷ l → drop (k + 1) t ≡ l
text_next t k b e f = sym (drop-drop 1 k t) ∙ ap (drop 1) (e ∙ f)

pub text_gone : (t : List ℕ) (k : ℕ) {p : List ℕ} → drop k t ≡ p → p ≡ [] → (j : ℕ) → k ≤ j → eqb (get_or t j 0) 49 ≡ false
text_gone t k e f j h =
    let l : length t - k ≡ 0 = sym (length-drop k t) ∙ ap length (e ∙ f) in
    let g : length t ≤ j = omega arith in
    ap (λ (x : ℕ). eqb x 49) (get_or-eq_default t 0 g)
