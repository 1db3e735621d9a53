-- A step of halving by words: how far a number is behind that of a slot, round the whole of eight bytes.
-- Assumes nothing.
use Rattle.std.specs.Prelude.{◌≡◌, ℕ, ◌+◌, ◌-◌, ◌*◌, ◌/◌, ◌%◌, ◌^◌, ◌<◌, ◌≤◌, List, length, take, drop, ◌≢◌, slice_index, slice_index_or, refl, Err}
use Rattle.std.proofs.Common.{sym, ◌∙◌, length-take, length-drop, get_or-drop}
use native.Mathlib.Omega.{arith}
use Rattle.std.proofs.Math.Decide.{dec_lt, ℕ_discrete}
use Rattle.std.specs.declared.cmp.Ordering.{Ordering}
use Rattle.std.specs.declared.cmp.Ordering.TheVariants.{Less, Equal, Greater}
use Rattle.slots.specs.Order.{order_of, order_by, by_less, by_more, by_same, longer, above}
use Rattle.slots.specs.Slots.{first_of}
use Rattle.slots.specs.Words.{Bytes, four, high_of, low_of, bytes_take, words_order}
use Rattle.slots.specs.Find.{number_order, slot_order, find_of, unused_after, used_order, slot_order_lem, halve_after}

-- the two words of a number that does not begin with 0
pub record WordsOf (x : List ℕ) (high low : ℕ) : Type 0 where
  pub given : slice_index_or x 0 0 ≡ 0 → ⊥
  pub first : high ≡ high_of x
  pub second : low ≡ low_of x

-- the first byte tells between which multiples of 2 ^ 56 the first word is
module _ (x : List ℕ) (f : Bytes x) where
  high_given : (slice_index x 0 ≢ 0) → 72057594037927936 ≤ high_of x
  unfolding high_of four
  high_given h = omega arith

  high_within : high_of x < (slice_index x 0 + 1) * 72057594037927936
  unfolding high_of four
  high_within = omega (arith, f 1, f 2, f 3, f 4, f 5, f 6, f 7)

  high_below : high_of x < 2 ^ 64
  high_below = omega (arith, f 0, high_within)

  pub high_least : {high low : ℕ} → WordsOf x high low → 72057594037927936 ≤ high
  high_least w = omega (arith, w.first, high_given w.given)

-- the slot at an index, of whose number n bytes were read, and how far a number is behind it
pub record Step (s x : List ℕ) (at n high low behind : ℕ) : Type 0 where
  pub ten : n ≡ 10
  pub room : at + 140 ≤ length s
  pub slot : Bytes s
  pub bytes : Bytes x
  pub words : WordsOf x high low
  pub is : (behind + high_of (take n (drop at s))) % 2 ^ 64 ≡ high
  pub fits : behind < 2 ^ 64

module _ {s x : List ℕ} {at n high low behind : ℕ} (t : Step s x at n high low behind) where
  abbrev number : List ℕ
  number = take n (drop at s)

  number_bytes_lem : Bytes number
  number_bytes_lem = bytes_take n (drop at s) (λ i. rw (get_or-drop at s i 0) (t.slot (at + i)))

  number_first : slice_index_or number 0 0 ≡ slice_index s at
  number_first = let e = t.ten in first_of n s at (omega arith)

  number_length : length number ≡ 10
  number_length =
      let a = length-take n (drop at s) in
      let b = length-drop at s in
      omega arith

  is_used : 72057594037927936 ≤ high_of number → slice_index s at ≢ 0
  is_used h z = omega (arith, high_within number number_bytes_lem, number_first ∙ z)

  abbrev rest : Ordering
  rest = order_by (order_by Equal 10 (length x)) (low_of number) low

  by_words : (slice_index s at ≢ 0) → order_by rest (high_of number) high ≡ number_order x (take 140 (drop at s))
  by_words u = rw (t.words.first, t.words.second) (sym (words_order number x number_bytes_lem t.bytes number_length) ∙ used_order s x at u n t.ten)

  -- the same first word
  pub level_told : behind ≡ 0 → order_by (order_by Equal 10 (length x)) (low_of number) low ≡ number_order x (take 140 (drop at s))
  level_told h =
      let a = high_below number number_bytes_lem in
      let c = high_least x t.bytes t.words in
      by_same rest (high_of number) high (omega arith) (omega arith) ∙ by_words (is_used (omega arith))

  module _ (apart : behind ≡ 0 → ⊥) where
    -- not farther than from the least number
    pub before_told : behind ≤ high - 72057594037927936 → Less ≡ number_order x (take 140 (drop at s))
    before_told h =
        let a = high_below number number_bytes_lem in
        let c = high_least x t.bytes t.words in
        by_less rest (high_of number) high (omega arith) ∙ by_words (is_used (omega arith))

    pub after_told : high - 72057594037927936 < behind → Greater ≡ number_order x (take 140 (drop at s))
    after_told h =
        elim (ℕ_discrete (slice_index s at) 0) [
          | yes z ↦ unused_after s x at z
          | no u ↦
              let a = high_below number number_bytes_lem in
              let c = high_least x t.bytes t.words in
              let d = high_given number number_bytes_lem (λ z. u (sym number_first ∙ z)) in
              by_more rest (high_of number) high (omega arith) ∙ by_words u
        ]

-- no slot has a number that begins with 0, and where one would go is before all
module _ (s x : List ℕ) (z : slice_index_or x 0 0 ≡ 0) where
  all_after : (k : ℕ) → k < length s / 140 → Greater ≡ slot_order s x k
  all_after k h =
      elim (ℕ_discrete (slice_index s (k * 140)) 0) [
        | yes e ↦ unused_after s x (k * 140) e
        | no e ↦ behind_all e ∙ used_order s x (k * 140) e 10 refl
      ]
      ∙ sym (slot_order_lem s x k h)
    where
      behind_all : (slice_index s (k * 140) ≢ 0) → Greater ≡ order_of (take 10 (drop (k * 140) s)) x
      behind_all e =
          let a = length-take 10 (drop (k * 140) s) in
          let b = length-drop (k * 140) s in
          let c = first_of 10 s (k * 140) (omega arith) in
          elim (dec_lt 0 (length x)) [
            | yes l ↦ above (take 10 (drop (k * 140) s)) x 0 (omega arith) l (omega arith)
            | no l ↦ longer (take 10 (drop (k * 140) s)) x 0 (omega arith) (omega arith)
          ]

  pub none_found : Err 0 ≡ find_of s x
  unfolding find_of
  none_found = halve_after (slot_order s x) (length s / 140) all_after (length s / 140) 0 (length s / 140) (omega arith)
