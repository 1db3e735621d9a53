-- Slots in use, and whether their numbers rise.
-- Assumes nothing.
use Rattle.std.specs.Prelude.{◌≡◌, ℕ, suc, ◌+◌, ◌*◌, ◌/◌, ◌<◌, ◌≤◌, Bool, true, false, List, [], ◌∷◌, length, take, drop, ◌==◌, ◌≢◌, slice_index, slice_index_or}
use Rattle.std.proofs.Common.{sym, lit≤, take-take}
use native.Mathlib.Omega.{arith}
use Rattle.std.proofs.Math.Decide.{dec_lt}
use borrow.Author.Tests.{eq-eqb, ne_eqb}
use Rattle.std.proofs.Math.ListN.{drop_of_length-le}
use Rattle.std.specs.declared.cmp.Ordering.{Ordering}
use Rattle.std.specs.declared.cmp.Ordering.TheVariants.{Less, Equal, Greater}
use Rattle.laws.specs.Choice.{pick, both}
use Rattle.slots.specs.Order.{order_of}
use Rattle.slots.specs.Slots.{slots_of, length_slots, slot_here, first_byte}

abbrev pub is_before : Ordering → Bool
is_before Less = true
is_before Equal = false
is_before Greater = false

-- how many slots, from the first on, are used
unfoldable pub leading : List (List ℕ) → ℕ
leading [] = 0
leading (r ∷ rs) = pick (slice_index r 0 == 0) 0 (suc (leading rs))

-- whether a slot's number comes before another's
unfoldable pub rises : List ℕ → List ℕ → Bool
rises r q = is_before (order_of (take 10 r) (take 10 q))

-- whether a slot's number comes before that of the next one, if there is one
abbrev pub before_next : List ℕ → List (List ℕ) → Bool
before_next r [] = true
before_next r (q ∷ rs) = rises r q

-- whether the numbers rise strictly
unfoldable pub rising : List (List ℕ) → Bool
rising [] = true
rising (r ∷ rs) = both (before_next r rs) (rising rs)

-- ---- for the loops, at slot k

pub rises_told : (s : List ℕ) (a b n m : ℕ) → n ≡ 10 → m ≡ 10 → (o : Ordering) → o ≡ order_of (take n (drop a s)) (take m (drop b s))
    → is_before o ≡ rises (take 140 (drop a s)) (take 140 (drop b s))
unfolding rises
rises_told s a b n m e g o q = rw (take-take 10 140 (drop a s) (lit≤ tt), take-take 10 140 (drop b s) (lit≤ tt), q, e, g)

module _ (s : List ℕ) (k : ℕ) where
  pub rising_end : length s / 140 ≤ k + 1 → true ≡ rising (drop k (slots_of s))
  unfolding rising
  rising_end h =
      let l = length_slots s in
      elim (dec_lt k (length s / 140)) [
        | yes q ↦ rw (slot_here s k q, drop_of_length-le (slots_of s) {i = k + 1} (omega arith))
        | no q ↦ rw (drop_of_length-le (slots_of s) {i = k} (omega arith))
      ]

  module _ (h : k + 1 < length s / 140) where
    rising_here : rising (drop k (slots_of s)) ≡ both (rises (take 140 (drop (k * 140) s)) (take 140 (drop (k * 140 + 140) s))) (rising (drop (k + 1) (slots_of s)))
    unfolding rising
    rising_here =
        let e : (k + 1) * 140 ≡ k * 140 + 140 = omega arith in
        rw (slot_here s k (omega arith)) (rw (slot_here s (k + 1) h, e))

    pub rising_on : (b : Bool) → b ≡ rises (take 140 (drop (k * 140) s)) (take 140 (drop (k * 140 + 140) s)) → b ≡ true → rising (drop (k + 1) (slots_of s)) ≡ rising (drop k (slots_of s))
    rising_on b q t = sym (rw (rising_here, ← q, t))

    pub rising_not : (b : Bool) → b ≡ rises (take 140 (drop (k * 140) s)) (take 140 (drop (k * 140 + 140) s)) → b ≡ false → false ≡ rising (drop k (slots_of s))
    rising_not b q t = sym (rw (rising_here, ← q, t))

  pub leading_end : length s / 140 ≤ k → leading (drop k (slots_of s)) ≡ 0
  unfolding leading
  leading_end h = let l = length_slots s in rw (drop_of_length-le (slots_of s) {i = k} (omega arith))

  module _ (h : k < length s / 140) where
    pub leading_stop : slice_index_or s (k * 140) 0 ≡ 0 → leading (drop k (slots_of s)) ≡ 0
    unfolding leading
    leading_stop q = rw (slot_here s k h, first_byte s (k * 140), eq-eqb _ _ q)

    pub leading_on : (slice_index s (k * 140) ≢ 0) → leading (drop k (slots_of s)) ≡ suc (leading (drop (k + 1) (slots_of s)))
    unfolding leading
    leading_on q = rw (slot_here s k h, first_byte s (k * 140), ne_eqb _ _ q)
