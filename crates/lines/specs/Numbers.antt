-- The number that decimal digits say.
-- Assumes nothing.
use Rattle.std.specs.Prelude.{ℕ, ◌+◌, ◌-◌, ◌*◌, ◌/◌, ◌%◌, ◌≤◌, ◌<◌, ◌≡◌, refl, Bool, List, [], ◌∷◌, leb, length, get_or, drop}
use Rattle.std.proofs.Common.{sym, ◌∙◌}
use Rattle.std.proofs.Math.Path.{ap}
use native.Mathlib.Omega.{arith}
use borrow.Author.Tests.{le-leb, lt-leb}
use Rattle.laws.specs.Choice.{pick, both, choose}
use Rattle.laws.specs.Lists.{drop_here, drop_past}

-- `0` to `9`
abbrev pub is_digit : ℕ → Bool
is_digit b = both (leb 48 b) (leb b 57)

-- the number that the digits at the front of a text say, behind those of a number n
unfoldable pub value_on : ℕ → List ℕ → ℕ
value_on n [] = n
value_on n (b ∷ l) = pick (is_digit b) (value_on (n * 10 + (b - 48)) l) n

-- its last nineteen digits
unfoldable pub last_of : ℕ → ℕ
last_of n = n % 10000000000000000000

unfoldable pub number_said : List ℕ → ℕ → ℕ
number_said s from = last_of (value_on 0 (drop from s))

-- a tag as one number: its three bytes
abbrev pub letters_of : ℕ → List ℕ
letters_of tag = (tag / 65536 % 256) ∷ (tag / 256 % 256) ∷ (tag % 256) ∷ []

abbrev pub four_digit_text : ℕ → List ℕ
four_digit_text n = (48 + n / 1000 % 10) ∷ (48 + n / 100 % 10) ∷ (48 + n / 10 % 10) ∷ (48 + n % 10) ∷ []

-- the digits that are left out change nothing
last_step : (n d : ℕ) → last_of (last_of n * 10 + d) ≡ last_of (n * 10 + d)
unfolding last_of
last_step n d = omega arith

last_last : (n : ℕ) → last_of (last_of n) ≡ last_of n
unfolding last_of
last_last n = omega arith

last_kept : (v d : ℕ) → d < 10 → last_of (v % 1000000000000000000 * 10 + d) ≡ last_of (v * 10 + d)
unfolding last_of
last_kept v d h = omega arith

last_on : (n : ℕ) (l : List ℕ) → last_of (value_on (last_of n) l) ≡ last_of (value_on n l)
unfolding value_on
last_on n [] = last_last n
last_on n (b ∷ l) =
    choose (is_digit b)
    (λ q. rw q (sym (last_on (last_of n * 10 + (b - 48)) l) ∙ ap (λ (x : ℕ). last_of (value_on x l)) (last_step n (b - 48)) ∙ last_on (n * 10 + (b - 48)) l))
    (λ q. rw q (last_last n))

-- a number being read: its last digits so far, and those that are still to come
abbrev Reads : List ℕ → ℕ → ℕ → ℕ → Type 0
Reads s from i v = (v < 10000000000000000000) × (last_of (value_on v (drop i s)) ≡ number_said s from)

module _ (s : List ℕ) (from : ℕ) where
  pub number_starts : Reads s from from 0
  unfolding number_said
  number_starts = (omega arith, refl)

  module _ (i v : ℕ) (w : Reads s from i v) where
    ended : value_on v (drop i s) ≡ v → v ≡ number_said s from
    unfolding last_of
    ended e =
        let h = w.0 in
        let k : v ≡ v % 10000000000000000000 = omega arith in
        k ∙ ap (λ (x : ℕ). x % 10000000000000000000) (sym e) ∙ w.1

    pub number_none : length s ≤ i → v ≡ number_said s from
    unfolding value_on
    number_none h = ended (rw (drop_past s i h))

    module _ (h : i < length s) where
      pub number_low : get_or s i 0 < 48 → v ≡ number_said s from
      unfolding value_on
      number_low q = ended (rw (drop_here s i h, lt-leb 48 (get_or s i 0) q))

      pub number_high : 48 ≤ get_or s i 0 → 57 < get_or s i 0 → v ≡ number_said s from
      unfolding value_on
      number_high p q = ended (rw (drop_here s i h, le-leb 48 (get_or s i 0) p, lt-leb (get_or s i 0) 57 q))

      abbrev next : ℕ
      next = v % 1000000000000000000 * 10 + (get_or s i 0 - 48)

      digit : 48 ≤ get_or s i 0 → get_or s i 0 ≤ 57 → value_on v (drop i s) ≡ value_on (v * 10 + (get_or s i 0 - 48)) (drop (i + 1) s)
      unfolding value_on
      digit p q = rw (drop_here s i h, le-leb 48 (get_or s i 0) p, le-leb (get_or s i 0) 57 q)

      pub number_on : 48 ≤ get_or s i 0 → get_or s i 0 ≤ 57 → Reads s from (i + 1) (v % 1000000000000000000 * 10 + (get_or s i 0 - 48))
      number_on p q = (
        omega arith,
        sym (last_on next (drop (i + 1) s))
            ∙ ap (λ (x : ℕ). last_of (value_on x (drop (i + 1) s))) (last_kept v (get_or s i 0 - 48) (omega arith))
            ∙ last_on (v * 10 + (get_or s i 0 - 48)) (drop (i + 1) s)
            ∙ ap last_of (sym (digit p q))
            ∙ w.1,
      )
