-- A calendar is its days: two calendars of one length whose days are the same are the same bytes.
-- Assumes nothing.
use Rattle.std.specs.Prelude.{◌≡◌, refl, List, ℕ, zero, suc, ◌+◌, ◌*◌, ◌/◌, ◌%◌, ◌^◌, ◌<◌, eqb, length, get_or}
use Rattle.std.proofs.Common.{sym, ap, ◌∙◌}
use native.Mathlib.Omega.{arith}
use Rattle.std.proofs.Math.Nat.{div-div-eq-div-mul}
use Rattle.std.proofs.Math.Seq.{ext_get_or}
use Rattle.calendar.specs.Days.{bit, has_bit, day}

digit_same : (x y : ℕ) → x < 2 → y < 2 → eqb x 1 ≡ eqb y 1 → x ≡ y
digit_same zero zero hx hy e = refl
digit_same zero (suc zero) hx hy e = let z : ◌≡◌ {A = ℕ} 0 1 = cc in absurd (omega arith)
digit_same zero (suc (suc y)) hx hy e = absurd (omega arith)
digit_same (suc zero) zero hx hy e = let z : ◌≡◌ {A = ℕ} 0 1 = cc in absurd (omega arith)
digit_same (suc zero) (suc zero) hx hy e = refl
digit_same (suc zero) (suc (suc y)) hx hy e = absurd (omega arith)
digit_same (suc (suc x)) y hx hy e = absurd (omega arith)

half_same : (x y : ℕ) → x % 2 ≡ y % 2 → x / 2 ≡ y / 2 → x ≡ y
half_same x y p q = omega arith

module _ (x y : ℕ) (hx : x < 256) (hy : y < 256) (h : (j : ℕ) → j < 8 → has_bit x j ≡ has_bit y j) where
  bits : (j : ℕ) → j < 8 → bit x j ≡ bit y j
  unfolding has_bit
  bits j l = digit_same (bit x j) (bit y j) (omega arith) (omega arith) (h j l)

  -- the bits above j being the same, and bit j, so are the bits from j on
  from_bit : (j m : ℕ) → j < 8 → 2 ^ j * 2 ≡ m → x / m ≡ y / m → x / 2 ^ j ≡ y / 2 ^ j
  from_bit j m l e h =
      half_same (x / 2 ^ j) (y / 2 ^ j) (bits j l)
      (div-div-eq-div-mul x (2 ^ j) 2 ∙ ap (λ (n : ℕ). x / n) e ∙ h ∙ ap (λ (n : ℕ). y / n) (sym e) ∙ sym (div-div-eq-div-mul y (2 ^ j) 2))

  pub byte_same : x ≡ y
  byte_same =
      let e₈ : x / 256 ≡ y / 256 = quotients in
      let e₇ = from_bit 7 256 (omega arith) refl e₈ in
      let e₆ = from_bit 6 128 (omega arith) refl e₇ in
      let e₅ = from_bit 5 64 (omega arith) refl e₆ in
      let e₄ = from_bit 4 32 (omega arith) refl e₅ in
      let e₃ = from_bit 3 16 (omega arith) refl e₄ in
      let e₂ = from_bit 2 8 (omega arith) refl e₃ in
      let e₁ = from_bit 1 4 (omega arith) refl e₂ in
      whole (from_bit 0 2 (omega arith) refl e₁)
    where
      quotients : x / 256 ≡ y / 256
      quotients = omega arith

      whole : x / 1 ≡ y / 1 → x ≡ y
      whole e = omega arith

module _ (a b : List ℕ) (l : length a ≡ length b) (ha : (i : ℕ) → i < length a → get_or a i 0 < 256) (hb : (i : ℕ) → i < length b → get_or b i 0 < 256) where
  pub days_same : ((k : ℕ) → k < 8 * length a → day a k ≡ day b k) → a ≡ b
  unfolding day
  days_same h =
      ext_get_or 0 a b l (λ i hi.
      byte_same (get_or a i 0) (get_or b i 0) (ha i hi) (hb i (omega arith)) (λ j hj.
      let q : (8 * i + j) / 8 ≡ i = omega arith in
      let r : (8 * i + j) % 8 ≡ j = omega arith in
      rw (q, r) at (h (8 * i + j) (omega arith))))
