-- Rows that are passed several at a time, by a key of each.
-- Assumes nothing.
use Rattle.std.specs.Prelude.{ℕ, zero, suc, ◌+◌, ◌-◌, ◌*◌, ◌≤◌, ◌<◌, ◌≡◌, Bool, false, List, get_or}
use Rattle.std.proofs.Common.{sym, ap, subst, ◌∙◌, arith}
use Rattle.std.proofs.Math.Decide.{dec_lt}
use Rattle.std.specs.Int.Bits.{bit_xor, xor_self, xor_zero_r}
use Rattle.services.specs.Rows.{first_from}
use Rattle.services.specs.Search.{first_on}

-- one of a row's three numbers, with some bits turned over
unfoldable pub key_of : List ℕ → ℕ → ℕ → ℕ → ℕ
key_of rows column turned j = bit_xor (get_or rows (3 * j + column) 0) turned

pub key_plain : (rows : List ℕ) (column j : ℕ) → key_of rows column 0 j ≡ get_or rows (3 * j + column) 0
unfolding key_of
key_plain rows column j = xor_zero_r (get_or rows (3 * j + column) 0)

-- a number with the bits of another turned over is 0 where it is the other
pub key_other : (rows : List ℕ) (column turned j : ℕ) → 1 ≤ key_of rows column turned j → get_or rows (3 * j + column) 0 ≡ turned → ⊥
unfolding key_of
key_other rows column turned j h e =
    let k : bit_xor (get_or rows (3 * j + column) 0) turned ≡ 0 = ap (λ (x : ℕ). bit_xor x turned) e ∙ xor_self turned in
    omega arith

-- the keys of the rows from one on and before row r are no less than a bound
pub record Passes (f : ℕ → ℕ) (bound from r : ℕ) : Type 0 where
  pub onward : from ≤ r
  pub inner : (j : ℕ) → from ≤ j → j < r → bound ≤ f j

module _ (f : ℕ → ℕ) (bound : ℕ) where
  pub passes_start : (from : ℕ) → Passes f bound from from
  passes_start from = record { onward = omega arith; inner = λ j a b. absurd (omega arith) }

  pub passes_one : (i : ℕ) → bound ≤ f i → Passes f bound i (i + 1)
  passes_one i g =
      record { onward = omega arith; inner = λ j a b. let e : i ≡ j = omega arith in subst (λ (x : ℕ). bound ≤ f x) e g }

  pub passes_on : (from i r : ℕ) → Passes f bound from i → Passes f bound i r → Passes f bound from r
  passes_on from i r p q =
      let a = p.onward in
      let b = q.onward in
      record { onward = omega arith; inner = λ j x y. elim (dec_lt j i) [ yes m ↦ p.inner j x m | no m ↦ q.inner j (omega arith) y ] }

  pub passes_short : (from r m : ℕ) → Passes f bound from r → from ≤ m → m ≤ r → Passes f bound from m
  passes_short from r m p h l = record { onward = h; inner = λ j a b. p.inner j a (omega arith) }

  pub passes_less : (from r most : ℕ) → Passes f most from r → bound ≤ most → Passes f bound from r
  passes_less from r most p h =
      record { onward = p.onward; inner = λ j a b. let g = p.inner j a b in omega arith }

  pub passes_same : (a b r : ℕ) → a ≡ b → Passes f bound a r → Passes f bound b r
  passes_same a b r e p = subst (λ (x : ℕ). Passes f bound x r) e p

  -- rows one by one and by fours
  pub passes_four : (i : ℕ) → bound ≤ f i → bound ≤ f (i + 1) → bound ≤ f (i + 2) → bound ≤ f (i + 3) → Passes f bound i (i + 4)
  passes_four i g₀ g₁ g₂ g₃ =
      let two : i + 1 + 1 ≡ i + 2 = omega arith in
      let three : i + 2 + 1 ≡ i + 3 = omega arith in
      let four : i + 3 + 1 ≡ i + 4 = omega arith in
      passes_on i (i + 1) (i + 4) (passes_one i g₀)
      (passes_on (i + 1) (i + 2) (i + 4) (subst (Passes f bound (i + 1)) two (passes_one (i + 1) g₁))
      (passes_on (i + 2) (i + 3) (i + 4) (subst (Passes f bound (i + 2)) three (passes_one (i + 2) g₂))
      (subst (Passes f bound (i + 3)) four (passes_one (i + 3) g₃))))

  pub passes_eight : (i : ℕ) → Passes f bound i (i + 4) → Passes f bound (i + 4) (i + 4 + 4) → Passes f bound i (i + 8)
  passes_eight i p q =
      let e : i + 4 + 4 ≡ i + 8 = omega arith in
      passes_on i (i + 4) (i + 8) p (subst (Passes f bound (i + 4)) e q)

-- numbers of which a test does not hold are left out of a search
pub first_after : (f : ℕ → Bool) (d i n : ℕ) → i + d ≤ n → ((j : ℕ) → i ≤ j → j < i + d → f j ≡ false) → first_from f i n ≡ first_from f (i + d) n
first_after f zero i n h q =
    let e : i ≡ i + 0 = omega arith in
    ap (λ (x : ℕ). first_from f x n) e
first_after f (suc d) i n h q =
    let e : i + 1 + d ≡ i + suc d = omega arith in
    first_on f i n (omega arith) (q i (omega arith) (omega arith))
    ∙ first_after f d (i + 1) n (omega arith) (λ j a b. q j (omega arith) (omega arith))
    ∙ ap (λ (x : ℕ). first_from f x n) e

-- so rows that are passed are, where the test does not hold of them
pub passes_first : (key : ℕ → ℕ) (f : ℕ → Bool) (bound from to r : ℕ) → Passes key bound from r → r ≤ to → ((j : ℕ) → j < to → bound ≤ key j → f j ≡ false) → first_from f r to ≡ first_from f from to
passes_first key f bound from to r p b q =
    let a = p.onward in
    let e : from + (r - from) ≡ r = omega arith in
    sym (first_after f (r - from) from to (omega arith) (λ j x y. q j (omega arith) (p.inner j x (omega arith))) ∙ ap (λ (x : ℕ). first_from f x to) e)
