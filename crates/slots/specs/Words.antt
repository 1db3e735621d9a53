-- A number's ten bytes as two numbers, the first byte the highest, and that their order is that of the bytes.
-- Assumes nothing.
use Rattle.std.specs.Prelude.{◌≡◌, ℕ, zero, suc, ◌+◌, ◌*◌, ◌<◌, ◌≤◌, Bool, true, false, List, length, take, drop, ◌==◌, nat_lt, slice_index, slice_index_or}
use Rattle.std.proofs.Math.Path.{sym, ap}
use Rattle.std.proofs.Common.{◌∙◌, lit≤, length-take, get_or-take}
use native.Mathlib.Omega.{arith}
use Rattle.std.proofs.Math.Decide.{dec_lt}
use borrow.Author.Tests.{lt-ltb, le-ltb, eq-eqb, ne_eqb}
use Rattle.std.proofs.Math.ListN.{get_or-eq_default}
use Rattle.laws.specs.Choice.{pick, choose}
use Rattle.std.specs.declared.cmp.Ordering.{Ordering}
use Rattle.std.specs.declared.cmp.Ordering.TheVariants.{Equal, Greater}
use Rattle.slots.specs.Order.{order_of, order_by, by_less, by_more, by_same, by_moved, ended, shorter, longer, below, above, level}
use Rattle.slots.specs.Rising.{is_before}

-- a list of bytes
abbrev pub Bytes : List ℕ → Type 0
Bytes s = (i : ℕ) → slice_index s i < 256

-- four bytes from an index on; past the end they are 0
unfoldable pub four : List ℕ → ℕ → ℕ
four x at = slice_index x at * 16777216 + slice_index x (at + 1) * 65536 + slice_index x (at + 2) * 256 + slice_index x (at + 3)

-- the first eight bytes
unfoldable pub high_of : List ℕ → ℕ
high_of x = four x 0 * 4294967296 + four x 4

-- the two behind them
unfoldable pub low_of : List ℕ → ℕ
low_of x = slice_index x 8 * 256 + slice_index x 9

module _ (n : ℕ) (x : List ℕ) where
  pub bytes_take : Bytes x → Bytes (take n x)
  bytes_take f i =
      elim (dec_lt i n) [
        | yes k ↦ rw (get_or-take n x i 0 k) (f i)
        | no k ↦
            let l = length-take n x in
            let g : length (take n x) ≤ i = omega arith in
            rw (get_or-eq_default (take n x) 0 g) (omega arith)
      ]

  -- the bytes past them do not matter
  module _ (h : 10 ≤ n) where
    here : (i : ℕ) → i < 10 → slice_index (take n x) i ≡ slice_index x i
    here i k = get_or-take n x i 0 (omega arith)

    pub low_take : low_of (take n x) ≡ low_of x
    unfolding low_of
    low_take = rw (here 8 (lit≤ tt), here 9 (lit≤ tt))

  module _ (h : 8 ≤ n) where
    at : (i : ℕ) → i < 8 → slice_index (take n x) i ≡ slice_index x i
    at i k = get_or-take n x i 0 (omega arith)

    pub high_take : high_of (take n x) ≡ high_of x
    unfolding high_of four
    high_take = rw (at 0 (lit≤ tt), at 1 (lit≤ tt), at 2 (lit≤ tt), at 3 (lit≤ tt), at 4 (lit≤ tt), at 5 (lit≤ tt), at 6 (lit≤ tt), at 7 (lit≤ tt))

-- whether two words come before two others
unfoldable pub rises_to : ℕ → ℕ → ℕ → ℕ → Bool
rises_to h l k m = pick (h == k) (nat_lt l m) (nat_lt h k)

module _ (h l k m : ℕ) where
  pub rises_below : h < k → true ≡ rises_to h l k m
  unfolding rises_to
  rises_below q = rw (ne_eqb h k (λ e. omega arith), lt-ltb h k q)

  pub rises_above : k < h → false ≡ rises_to h l k m
  unfolding rises_to
  rises_above q = rw (ne_eqb h k (λ e. omega arith), le-ltb h k (omega arith))

  pub rises_level : h ≡ k → nat_lt l m ≡ rises_to h l k m
  unfolding rises_to
  rises_level q = rw (eq-eqb h k q)

first_rises : (a b : ℕ) → is_before (order_by Equal a b) ≡ nat_lt a b
first_rises a b = choose (nat_lt a b) (λ p. rw p) (λ p. rw p (choose (nat_lt b a) (λ q. rw q) (λ q. rw q)))

two_rise : (h l k m : ℕ) → rises_to h l k m ≡ is_before (order_by (order_by Equal l m) h k)
two_rise h l k m =
    elim (dec_lt h k) [
      | yes q ↦ sym (rises_below h l k m q) ∙ ap is_before (by_less (order_by Equal l m) h k q)
      | no q ↦ elim (dec_lt k h) [
        | yes r ↦ sym (rises_above h l k m r) ∙ ap is_before (by_more (order_by Equal l m) h k r)
        | no r ↦ sym (rises_level h l k m (omega arith)) ∙ sym (first_rises l m) ∙ ap is_before (by_same (order_by Equal l m) h k (omega arith) (omega arith))
      ]
    ]

-- ---- the order of the numbers is that of the bytes

-- n bytes from an index on, behind the number p
unfoldable behind : ℕ → ℕ → List ℕ → ℕ → ℕ
behind zero p x i = p
behind (suc n) p x i = behind n (p * 256 + slice_index x i) x (i + 1)

module _ (x y : List ℕ) (f : Bytes x) where
  lower : (n p q i : ℕ) → p < q → behind n p x i < behind n q y i
  unfolding behind
  lower zero p q i h = h
  lower (suc n) p q i h = let b = f i in lower n (p * 256 + slice_index x i) (q * 256 + slice_index y i) (i + 1) (omega arith)

  -- past its end a list has only zeros
  ends : (n p q i : ℕ) → length y ≤ i → q ≤ p → behind n q y i ≤ behind n p x i
  unfolding behind
  ends zero p q i k h = h
  ends (suc n) p q i k h =
      let z = get_or-eq_default y 0 k in
      ends n (p * 256 + slice_index x i) (q * 256 + slice_index y i) (i + 1) (omega arith) (omega arith)

-- two words in one
two_words : (t : Ordering) (h l k m : ℕ) → l < 65536 → m < 65536 → order_by t (h * 65536 + l) (k * 65536 + m) ≡ order_by (order_by t l m) h k
two_words t h l k m a b =
    elim (dec_lt h k) [
      | yes q ↦ sym (by_less t (h * 65536 + l) (k * 65536 + m) (omega arith)) ∙ by_less (order_by t l m) h k q
      | no q ↦ elim (dec_lt k h) [
        | yes r ↦ sym (by_more t (h * 65536 + l) (k * 65536 + m) (omega arith)) ∙ by_more (order_by t l m) h k r
        | no r ↦ by_moved t l m (h * 65536 + l) (k * 65536 + m) (h * 65536) (omega arith) (omega arith) ∙ by_same (order_by t l m) h k (omega arith) (omega arith)
      ]
    ]

ten_bytes : (z : List ℕ) → behind 10 0 z 0 ≡ high_of z * 65536 + low_of z
unfolding behind high_of low_of four
ten_bytes z = omega arith

low_below : (z : List ℕ) → Bytes z → low_of z < 65536
unfolding low_of
low_below z h = let a = h 8 in let b = h 9 in omega arith

past_end : (t : Ordering) (a b : ℕ) → Greater ≡ t → b ≤ a → Greater ≡ order_by t a b
past_end t a b e h =
    elim (dec_lt b a) [
      | yes q ↦ by_more t a b q
      | no q ↦ e ∙ by_same t a b h (omega arith)
    ]

-- where both are the same, the shorter comes first
module _ (x y : List ℕ) (f : Bytes x) (g : Bytes y) where
  abbrev lengths : Ordering
  lengths = order_by Equal (length x) (length y)

  order_behind : (n p i : ℕ) → length x ≡ i + n → i ≤ length y → order_of (drop i x) (drop i y) ≡ order_by lengths (behind n p x i) (behind n p y i)
  unfolding behind
  order_behind zero p i h k =
      elim (dec_lt i (length y)) [
        | yes q ↦ sym (shorter x y i (omega arith) q) ∙ by_less Equal (length x) (length y) (omega arith)
        | no q ↦ sym (ended x y i (omega arith) (omega arith)) ∙ by_same Equal (length x) (length y) (omega arith) (omega arith)
      ]
      ∙ by_same lengths p p (omega arith) (omega arith)
  order_behind (suc n) p i h k =
      elim (dec_lt i (length y)) [
        | no u ↦
            let e = ends x y f (suc n) p p i (omega arith) (omega arith) in
            sym (longer x y i (omega arith) (omega arith)) ∙ past_end lengths (behind (suc n) p x i) (behind (suc n) p y i) (by_more Equal (length x) (length y) (omega arith)) e
        | yes u ↦ elim (dec_lt (slice_index x i) (slice_index y i)) [
          | yes q ↦ sym (below x y i (omega arith) u q) ∙ by_less lengths _ _ (lower x y f n (p * 256 + slice_index x i) (p * 256 + slice_index y i) (i + 1) (omega arith))
          | no q ↦ elim (dec_lt (slice_index y i) (slice_index x i)) [
            | yes r ↦ sym (above x y i (omega arith) u r) ∙ by_more lengths _ _ (lower y x g n (p * 256 + slice_index y i) (p * 256 + slice_index x i) (i + 1) (omega arith))
            | no r ↦
                let e : slice_index_or x i 0 ≡ slice_index_or y i 0 = omega arith in
                sym (level x y i (omega arith) u (omega arith) (omega arith))
                ∙ order_behind n (p * 256 + slice_index x i) (i + 1) (omega arith) (omega arith)
                ∙ ap (λ (b : ℕ). order_by lengths (behind n (p * 256 + slice_index x i) x (i + 1)) (behind n (p * 256 + b) y (i + 1))) e
          ]
        ]
      ]

  module _ (h : length x ≡ 10) where
    pub words_order : order_of x y ≡ order_by (order_by (order_by Equal 10 (length y)) (low_of x) (low_of y)) (high_of x) (high_of y)
    words_order =
        order_behind 10 0 0 h (omega arith)
        ∙ rw (ten_bytes x, ten_bytes y, h) (two_words (order_by Equal 10 (length y)) (high_of x) (low_of x) (high_of y) (low_of y) (low_below x f) (low_below y g))

    module _ (k : length y ≡ 10) where
      pub words_rise : rises_to (high_of x) (low_of x) (high_of y) (low_of y) ≡ is_before (order_of x y)
      words_rise =
          two_rise (high_of x) (low_of x) (high_of y) (low_of y)
          ∙ sym (ap is_before (words_order ∙ ap (λ (n : ℕ). order_by (order_by (order_by Equal 10 n) (low_of x) (low_of y)) (high_of x) (high_of y)) k))
