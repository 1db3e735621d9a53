-- The laws of the bits of a byte.
-- Assumes nothing.
use Rattle.std.specs.Prelude.{◌≡◌, refl, Bool, true, false, ℕ, zero, suc, ◌*◌, ◌/◌, ◌%◌, ◌^◌, ◌<◌, max, eqb}
use Rattle.std.proofs.Common.{ap, ◌∙◌, arith, eqb→eq, eq-eqb, ne_eqb}
use Rattle.std.specs.Int.Bits.{bit_or, or_step}
use Rattle.std.proofs.lemmas.Nat.{or_shr}
use Rattle.laws.specs.Choice.{either}
use Rattle.laws.specs.Sweep.{below, at, agree}
use Rattle.calendar.specs.Days.{bit, has_bit, with_bit}

-- a shift of 1 by less than 8 stays in the byte
shift_stays : ℕ → Bool
shift_stays j = eqb (1 * 2 ^ j % 256) (2 ^ j)

pub shifted : (j : ℕ) → j < 8 → 1 * 2 ^ j % 256 ≡ 2 ^ j
unfolding shift_stays
shifted j h = eqb→eq _ _ (at shift_stays 8 tt j h)

or_bit : (a b j : ℕ) → bit (bit_or a b) j ≡ max (bit a j) (bit b j)
or_bit a b j = rw or_shr (omega (arith, or_step (a / 2 ^ j) (b / 2 ^ j)))

abbrev one_if : Bool → ℕ
one_if true = 1
one_if false = 0

test : ℕ → ℕ → Bool
test i j = eqb (bit (2 ^ i) j) (one_if (eqb i j))

pow_bit : (i j : ℕ) → i < 8 → j < 8 → bit (2 ^ i) j ≡ one_if (eqb i j)
unfolding test
pow_bit i j hi hj = eqb→eq _ _ (at (test i) 8 (at (λ i. below (test i) 8) 8 tt i hi) j hj)

-- of two digits
max_either : (x y : ℕ) → x < 2 → y < 2 → eqb (max x y) 1 ≡ either (eqb x 1) (eqb y 1)
max_either zero zero hx hy = refl
max_either zero (suc zero) hx hy = refl
max_either zero (suc (suc y)) hx hy = absurd (omega arith)
max_either (suc zero) zero hx hy = refl
max_either (suc zero) (suc zero) hx hy = refl
max_either (suc zero) (suc (suc y)) hx hy = absurd (omega arith)
max_either (suc (suc x)) y hx hy = absurd (omega arith)

pub bit_or_lem : (a b j : ℕ) → has_bit (bit_or a b) j ≡ either (has_bit a j) (has_bit b j)
unfolding has_bit
bit_or_lem a b j = rw or_bit (max_either (bit a j) (bit b j) (omega arith) (omega arith))

pub bit_none : (j : ℕ) → j < 8 → has_bit 0 j ≡ false
unfolding has_bit
bit_none j h = agree (has_bit 0) (λ j. false) 8 tt j h

pub bit_same : (x j : ℕ) → j < 8 → has_bit (with_bit x j) j ≡ true
unfolding has_bit with_bit
bit_same x j h = eq-eqb _ 1 (or_bit x (2 ^ j) j ∙ rw (pow_bit j j h h, eq-eqb j j refl) (omega arith))

pub bit_other : (x i j : ℕ) → i < 8 → j < 8 → (j ≡ i → ⊥) → has_bit (with_bit x i) j ≡ has_bit x j
unfolding has_bit with_bit
bit_other x i j hi hj ne =
    let e : max (bit x j) 0 ≡ bit x j = omega arith in
    rw (or_bit, pow_bit i j hi hj, ne_eqb i j (λ q. ne (omega arith))) (ap (λ (y : ℕ). eqb y 1) e)
