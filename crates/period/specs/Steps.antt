-- The steps of the loops over a part: what is left of its text begins with the byte b and goes on as l, or is empty.
-- Assumes nothing.
use Rattle.std.specs.Prelude.{◌≡◌, refl, true, false, List, [], ◌∷◌, leb, length}
use Rattle.std.proofs.Common.{sym}
use Prim.Native.Nat.{ℕ, zero, suc, ◌-◌, ◌<◌, ◌≤◌}
use native.Mathlib.Omega.{arith}
use Rattle.std.proofs.Math.Decide.{dec_lt, ℕ_discrete}
use borrow.Author.Tests.{eq-eqb, ne_eqb, lt-ltb, le-ltb, le-leb, lt-leb}
use Rattle.laws.specs.Choice.{both_false}
use Rattle.parts.specs.Places.{present}
use Rattle.period.specs.Period.{zero_or_one, day_string, rising_days}

leb_next : (a b : ℕ) → leb (suc a) (suc b) ≡ leb a b
leb_next a b =
    elim (dec_lt b a) [
      | yes e ↦ rw (lt-leb a b e) (lt-leb (suc a) (suc b) (omega arith))
      | no e ↦ rw (le-leb a b (omega arith)) (le-leb (suc a) (suc b) (omega arith))
    ]

pub other_character : (b : ℕ) → (b ≡ 48 → ⊥) → (b ≡ 49 → ⊥) → zero_or_one b ≡ false
other_character b p q = rw (ne_eqb b 48 p, ne_eqb b 49 q)

pub day_character_lem : (b : ℕ) → 48 ≤ b → b ≤ 49 → zero_or_one b ≡ true
day_character_lem b h k =
    elim (ℕ_discrete b 48) [
      | yes e ↦ rw (eq-eqb b 48 e)
      | no e ↦ rw (ne_eqb b 48 e) (eq-eqb b 49 (omega arith))
    ]

module _ (t l : List ℕ) (b : ℕ) (f : t ≡ b ∷ l) where
  pub text_present : true ≡ present t
  text_present = rw f

  -- a day string of at most n characters
  pub string_longer : (n : ℕ) → n ≡ 0 → false ≡ day_string n t
  unfolding day_string
  string_longer n e = rw (f, e, lt-leb (suc (length l)) 0 (omega arith))

  string_other : (n : ℕ) → zero_or_one b ≡ false → false ≡ day_string n t
  unfolding day_string
  string_other n e = rw (f, e) (sym (both_false (leb (suc (length l)) n)))

  pub string_below : (n : ℕ) → b < 48 → false ≡ day_string n t
  string_below n h = string_other n (other_character b (λ e. omega arith) (λ e. omega arith))

  pub string_above : (n : ℕ) → 49 < b → false ≡ day_string n t
  string_above n h = string_other n (other_character b (λ e. omega arith) (λ e. omega arith))

  pub string_goes : (n : ℕ) → (n ≡ 0 → ⊥) → 48 ≤ b → b ≤ 49 → day_string (n - 1) l ≡ day_string n t
  unfolding day_string
  string_goes zero z h k = absurd (z refl)
  string_goes (suc n) z h k =
      let e : suc n - 1 ≡ n = omega arith in
      rw (f, e, day_character_lem b h k, leb_next (length l) n)

  -- weekdays that rise
  pub rises_not : (before : ℕ) → b ≤ before → false ≡ rising_days before t
  unfolding rising_days
  rises_not before h = rw (f, le-ltb before b h)

  pub rises_past : (before : ℕ) → before < b → 55 < b → false ≡ rising_days before t
  unfolding rising_days
  rises_past before h k = rw (f, lt-ltb before b h, lt-leb b 55 k)

  pub rises_goes : (before : ℕ) → before < b → b ≤ 55 → rising_days b l ≡ rising_days before t
  unfolding rising_days
  rises_goes before h k = rw (f, lt-ltb before b h, le-leb b 55 k)

module _ (t : List ℕ) (f : t ≡ []) where
  pub text_absent : false ≡ present t
  text_absent = rw f

  pub string_ends : (n : ℕ) → true ≡ day_string n t
  unfolding day_string
  string_ends n = rw (f, le-leb 0 n (omega arith))

  pub rises_ends : (before : ℕ) → true ≡ rising_days before t
  unfolding rising_days
  rises_ends before = rw f
