-- Days marked a byte at a time: marking days of one byte is a bitwise or with the byte whose bits are the days wanted.
-- Assumes nothing.
use Rattle.std.specs.Prelude.{◌≡◌, Bool, true, false, T, eqb, leb, ltb, length, get_or, set}
use Rattle.std.proofs.Math.Path.{refl, sym, ap}
use Rattle.std.proofs.Common.{◌∙◌, mul_assoc, mod-lt, eqb→eq, pow-add, shr-shr, length-set, get_or-set_same, get_or-set_other, ne_eqb, lt-ltb, le-ltb, le-leb}
use mathlib.Core.List.{List}
use Prim.Native.Nat.{ℕ, zero, suc, ◌+◌, ◌-◌, ◌*◌, ◌/◌, ◌%◌, ◌^◌, ◌≤◌, ◌<◌, min}
use native.Mathlib.Omega.{arith}
use Rattle.std.proofs.Math.Nat.{div-eq_of_lt, one-le-pow, pow-le-pow_right}
use Rattle.std.proofs.Math.Decide.{dec_lt, ℕ_discrete}
use Rattle.std.specs.Int.Bits.{bit_and, bit_or, shifted_even}
use Rattle.std.proofs.lemmas.Nat.{or_lt, and_mask, shl-shr}
use Rattle.std.proofs.Math.Pow.{field, mod-mod-pow}
use Rattle.std.proofs.lemmas.Bool.{lt-leb}
use Rattle.laws.specs.Choice.{pick, both, either, both_false}
use Rattle.laws.specs.Sweep.{below, at, same, same→eq}
use Rattle.dates.specs.Days.{weekday_of}
use Rattle.calendar.specs.Days.{has_bit, day, with_day}
use Rattle.calendar.specs.Bits.{bit_or_lem, bit_none}
use Rattle.calendar.specs.Same.{days_same}
use Rattle.joining.specs.Joined.{marked}
use Rattle.joining.specs.Marks.{length_marked}
use Rattle.joining.specs.Bytes.{AreBytes, set_small, marked_bytes}
use Rattle.joining.specs.Union.{either_false, among_marked, day_marked}

-- the bits of a number's lowest m bits
pub low_bit : (x m j : ℕ) → j < m → has_bit (x % 2 ^ m) j ≡ has_bit x j
unfolding has_bit
low_bit x m j h =
    let e : m - j - 1 + 1 + j ≡ m = omega arith in
    ap (λ (y : ℕ). eqb y 1) (ap (λ (k : ℕ). x % 2 ^ k / 2 ^ j % 2) (sym e) ∙ ap (λ (y : ℕ). y % 2) (field x (m - j - 1 + 1) j) ∙ mod-mod-pow (x / 2 ^ j) (m - j - 1) 1)

past_bit : (x m j : ℕ) → m ≤ j → has_bit (x % 2 ^ m) j ≡ false
unfolding has_bit
past_bit x m j h =
    let l = mod-lt x (one-le-pow m 2 (omega arith)) in
    let p = pow-le-pow_right {n = 2} (omega arith) h in
    rw (div-eq_of_lt {n = x % 2 ^ m} {m = 2 ^ j} (omega arith))

-- of one shifted up, and of one shifted down
up_bit : (x p j : ℕ) → p ≤ j → has_bit (x * 2 ^ p) j ≡ has_bit x (j - p)
unfolding has_bit
up_bit x p j h =
    let e : p + (j - p) ≡ j = omega arith in
    ap (λ (y : ℕ). eqb (y % 2) 1) (ap (λ (k : ℕ). x * 2 ^ p / 2 ^ k) (sym e) ∙ sym (shr-shr (x * 2 ^ p) p (j - p)) ∙ ap (λ (y : ℕ). y / 2 ^ (j - p)) (shl-shr x p))

under_bit : (x p j : ℕ) → j < p → has_bit (x * 2 ^ p) j ≡ false
unfolding has_bit
under_bit x p j h =
    let e : suc (p - j - 1) + j ≡ p = omega arith in
    let d = p - j - 1 in
    ap (λ (y : ℕ). eqb (y % 2) 1)
    (ap (λ (k : ℕ). x * 2 ^ k / 2 ^ j) (sym e) ∙ ap (λ (y : ℕ). x * y / 2 ^ j) (pow-add 2 (suc (p - j - 1)) j)
    ∙ ap (λ (y : ℕ). y / 2 ^ j) (sym (mul_assoc x (2 ^ suc (p - j - 1)) (2 ^ j))) ∙ shl-shr (x * 2 ^ suc (p - j - 1)) j)
    ∙ ap (λ (y : ℕ). eqb y 1) (shifted_even x (p - j - 1))

pub down_bit : (x s j : ℕ) → has_bit (x / 2 ^ s) j ≡ has_bit x (s + j)
unfolding has_bit
down_bit x s j = ap (λ (y : ℕ). eqb (y % 2) 1) (shr-shr x s j)

-- m bits of a number, shifted up by p
mask : ℕ → Bool
mask m = eqb (255 / 2 ^ (8 - suc m)) (2 ^ suc m - 1)

mask_is : (m : ℕ) → 1 ≤ m → m ≤ 8 → 255 / 2 ^ (8 - m) ≡ 2 ^ m - 1
unfolding mask
mask_is zero g h = absurd (omega arith)
mask_is (suc m) g h = eqb→eq _ _ (at mask 8 tt m (omega arith))

module _ (x m p : ℕ) (g : 1 ≤ m) (h : p + m ≤ 8) where
  abbrev moved : ℕ
  moved = bit_and x (255 / 2 ^ (8 - m)) * 2 ^ p % 256

  moved_is : moved ≡ x % 2 ^ m * 2 ^ p % 2 ^ 8
  moved_is = ap (λ (y : ℕ). bit_and x y * 2 ^ p % 256) (mask_is m g (omega arith)) ∙ ap (λ (y : ℕ). y * 2 ^ p % 256) (and_mask x m)

  pub moved_bit : (j : ℕ) → j < 8 → has_bit moved j ≡ both (leb p j) (both (ltb j (p + m)) (has_bit x (j - p)))
  moved_bit j l =
      ap (λ (y : ℕ). has_bit y j) moved_is ∙ low_bit (x % 2 ^ m * 2 ^ p) 8 j l
      ∙ elim (dec_lt j p) [
        | yes u ↦ rw (lt-leb p j u) (under_bit (x % 2 ^ m) p j u)
        | no u ↦ up_bit (x % 2 ^ m) p j (omega arith) ∙ elim (dec_lt j (p + m)) [
          | yes v ↦ rw (le-leb p j (omega arith), lt-ltb j (p + m) v) (low_bit x m (j - p) (omega arith))
          | no v ↦ rw (le-leb p j (omega arith), le-ltb j (p + m) (omega arith)) (past_bit x m (j - p) (omega arith))
        ]
      ]

  pub moved_small : moved < 256
  moved_small = omega arith

-- marking m days of one byte
module _ (t : ℕ → Bool) (c : List ℕ) (a k m i b : ℕ) where
  pub mark_byte : AreBytes c → b < 256 → i < length c → (a + k) / 8 ≡ i → (a + k) % 8 + m ≤ 8 → ((j : ℕ) → j < 8 → has_bit b j ≡ among_marked t a k m (8 * i + j))
      → set c i (bit_or (get_or c i 0) b) ≡ marked t c a k m
  unfolding day
  mark_byte ha hb hi e f bits =
      days_same (set c i (bit_or (get_or c i 0) b)) (marked t c a k m)
      (length-set c i (bit_or (get_or c i 0) b) ∙ sym (length_marked t c a k m))
      (λ x h. set_small c i (bit_or (get_or c i 0) b) ha (or_lt 8 (get_or c i 0) b (ha i) hb) x)
      (λ x h. marked_bytes t c a k m ha x)
      (λ y h. each y ∙ sym (day_marked t a y c k m (omega arith)))
    where
      later_byte : (y : ℕ) → (y / 8 ≡ i → ⊥) → a + k ≤ y → a + k + m ≤ y
      later_byte y q l = omega arith

      outside : (y : ℕ) → (y / 8 ≡ i → ⊥) → among_marked t a k m y ≡ false
      outside y q =
          elim (dec_lt y (a + k)) [
            | yes l ↦ rw (lt-leb (a + k) y l)
            | no l ↦ rw (le-ltb y (a + k + m) (later_byte y q (omega arith))) (both_false (leb (a + k) y))
          ]

      each : (y : ℕ) → day (set c i (bit_or (get_or c i 0) b)) y ≡ either (day c y) (among_marked t a k m y)
      each y =
          elim (ℕ_discrete (y / 8) i) [
            | yes q ↦
                let z : 8 * i + y % 8 ≡ y = omega arith in
                rw (q, get_or-set_same c i (bit_or (get_or c i 0) b) 0 hi)
                (bit_or_lem (get_or c i 0) b (y % 8) ∙ ap (either (has_bit (get_or c i 0) (y % 8))) (bits (y % 8) (omega arith) ∙ ap (among_marked t a k m) z))
            | no q ↦
                rw (get_or-set_other c i (y / 8) (bit_or (get_or c i 0) b) 0 q)
                (sym (ap (either (has_bit (get_or c (y / 8) 0) (y % 8))) (outside y q) ∙ either_false (has_bit (get_or c (y / 8) 0) (y % 8))))
          ]

-- eight days that begin with a byte
pub whole_bits : (t : ℕ → Bool) (a k i b : ℕ) → 8 * i ≡ a + k → ((j : ℕ) → j < 8 → has_bit b j ≡ t (k + j))
    → (j : ℕ) → j < 8 → has_bit b j ≡ among_marked t a k 8 (8 * i + j)
whole_bits t a k i b e h j l =
    let d : 8 * i + j - a ≡ k + j = omega arith in
    h j l ∙ sym (rw (le-leb (a + k) (8 * i + j) (omega arith), lt-ltb (8 * i + j) (a + k + 8) (omega arith), d))

-- m days from an index on, by the bits of a number
pub moved_among : (x a m : ℕ) → 1 ≤ m → a % 8 + m ≤ 8 → (j : ℕ) → j < 8
    → has_bit (bit_and x (255 / 2 ^ (8 - m)) * 2 ^ (a % 8) % 256) j ≡ among_marked (has_bit x) a 0 m (8 * (a / 8) + j)
moved_among x a m g h j l =
    let d : 8 * (a / 8) + j - a ≡ j - a % 8 = omega arith in
    moved_bit x m (a % 8) g h j l
    ∙ elim (dec_lt j (a % 8)) [
      | yes u ↦ rw (lt-leb (a % 8) j u, lt-leb (a + 0) (8 * (a / 8) + j) (omega arith))
      | no u ↦ rw (le-leb (a % 8) j (omega arith), le-leb (a + 0) (8 * (a / 8) + j) (omega arith), d) (elim (dec_lt j (a % 8 + m)) [
        | yes v ↦ rw (lt-ltb j (a % 8 + m) v, lt-ltb (8 * (a / 8) + j) (a + 0 + m) (omega arith))
        | no v ↦ rw (le-ltb j (a % 8 + m) (omega arith), le-ltb (8 * (a / 8) + j) (a + 0 + m) (omega arith))
      ])
    ]

-- days in two goes
module _ (t : ℕ → Bool) (a : ℕ) where
  mark_more : (c : List ℕ) (k m r : ℕ) → marked t (marked t c a k m) a (k + m) r ≡ marked t c a k (m + r)
  unfolding marked
  mark_more c k zero r =
      let e : k + 0 ≡ k = omega arith in
      let f : 0 + r ≡ r = omega arith in
      rw (e, f)
  mark_more c k (suc m) r =
      let e : k + suc m ≡ k + 1 + m = omega arith in
      let f : suc m + r ≡ suc (m + r) = omega arith in
      rw (e, f) (mark_more (pick (t k) (with_day c (a + k)) c) (k + 1) m r)

  -- the days left after m more of those up to n
  pub mark_on : (c : List ℕ) (k m n : ℕ) {last : List ℕ} → last ≡ marked t c a k (min m (n - k)) → marked t last a (k + m) (n - (k + m)) ≡ marked t c a k (n - k)
  unfolding marked
  mark_on c k m n e =
      ap (λ (x : List ℕ). marked t x a (k + m) (n - (k + m))) e
      ∙ elim (dec_lt (n - k) m) [
        | yes l ↦
            let u : min m (n - k) ≡ n - k = omega arith in
            let v : n - (k + m) ≡ 0 = omega arith in
            rw (u, v) (none_left (marked t c a k (n - k)) (k + m))
        | no l ↦
            let u : min m (n - k) ≡ m = omega arith in
            let v : m + (n - (k + m)) ≡ n - k = omega arith in
            rw u (mark_more c k m (n - (k + m)) ∙ ap (marked t c a k) v)
      ]
    where
      none_left : (x : List ℕ) (j : ℕ) → marked t x a j 0 ≡ x
      none_left x j = refl

-- the same days by a test that counts from another day
from_there : (t u : ℕ → Bool) (c : List ℕ) (a k i m : ℕ) → ((j : ℕ) → j < i + m → t j ≡ u (k + j)) → marked t c (a + k) i m ≡ marked u c a (k + i) m
unfolding marked
from_there t u c a k i zero h = refl
from_there t u c a k i (suc m) h =
    let e : a + k + i ≡ a + (k + i) = omega arith in
    let f : k + i + 1 ≡ k + (i + 1) = omega arith in
    rw (h i (omega arith), e, f) (from_there t u (pick (u (k + i)) (with_day c (a + (k + i))) c) a k (i + 1) m (λ j l. h j (omega arith)))

pub mark_there : (t u : ℕ → Bool) (c : List ℕ) (a k m : ℕ) → ((j : ℕ) → j < m → t j ≡ u (k + j)) → marked t c (a + k) 0 m ≡ marked u c a k m
mark_there t u c a k m h = let e : k + 0 ≡ k = omega arith in from_there t u c a k 0 m (λ j l. h j (omega arith)) ∙ ap (λ (x : ℕ). marked u c a x m) e

-- the three ways on of a loop over the bytes: up to a byte's end, a byte, and the rest
module _ (t : ℕ → Bool) (c : List ℕ) (a n x : ℕ) where
  pub lead_on : (m : ℕ) {last : List ℕ} → ((j : ℕ) → j < min m n → has_bit x j ≡ t j) → last ≡ marked (has_bit x) c a 0 (min m n)
      → marked t last a m (n - m) ≡ marked t c a 0 n
  lead_on m {last} h e =
      let z : 0 + m ≡ m = omega arith in
      let s : n - 0 ≡ n = omega arith in
      let r : a + 0 ≡ a = omega arith in
      rw (z, s) at (mark_on t a c 0 m n {last = last} (rw s (e ∙ ap (λ (y : ℕ). marked (has_bit x) c y 0 (min m n)) (sym r) ∙ mark_there (has_bit x) t c a 0 (min m n) (λ j l. from_none j (h j l)))))
    where
      from_none : (j : ℕ) → has_bit x j ≡ t j → has_bit x j ≡ t (0 + j)
      from_none j q = let z : 0 + j ≡ j = omega arith in rw z q

  module _ (k : ℕ) where
    pub byte_on : (i : ℕ) → AreBytes c → x < 256 → i ≡ (a + k) / 8 → (a + k) % 8 ≡ 0 → k + 8 ≤ n → a + n ≤ 8 * length c → ((j : ℕ) → j < 8 → has_bit x j ≡ t (k + j))
        → marked t (set c i (bit_or (get_or c i 0) x)) a (k + 8) (n - (k + 8)) ≡ marked t c a k (n - k)
    byte_on i u v e f l w h =
        let m : min 8 (n - k) ≡ 8 = omega arith in
        mark_on t a c k 8 n (rw m (mark_byte t c a k 8 i x u v (omega arith) (sym e) (omega arith) (whole_bits t a k i x (omega arith) h)))

    pub rest_on : {last : List ℕ} → ((j : ℕ) → j < n - k → has_bit x j ≡ t (k + j)) → last ≡ marked (has_bit x) c (a + k) 0 (n - k) → last ≡ marked t c a k (n - k)
    rest_on h e = e ∙ mark_there (has_bit x) t c a k (n - k) h

-- two weeks, one behind the other
weeks : ℕ → ℕ → Bool
weeks w i = same (has_bit (w * 129) i) (has_bit w (i % 7))

weeks_swept : T (below (λ w. below (weeks w) 14) 128)
unfolding weeks has_bit
weeks_swept = tt

weeks_bit : (w i : ℕ) → w < 128 → i < 14 → has_bit (w * 129) i ≡ has_bit w (i % 7)
unfolding weeks
weeks_bit w i h l = same→eq (has_bit (w * 129) i) (has_bit w (i % 7)) (at (weeks w) 14 (at (λ w. below (weeks w) 14) 128 weeks_swept w h) i l)

pub eight_from : (week first : ℕ) → week < 256 → (j : ℕ) → j < 8
    → has_bit (bit_and (week / 2 * 129 / 2 ^ (first % 7)) 255) j ≡ has_bit week (weekday_of (first + j))
unfolding weekday_of
eight_from week first h j l =
    let s = first % 7 in
    let e : 1 + (first % 7 + j) % 7 ≡ (first + j) % 7 + 1 = omega arith in
    ap (λ (y : ℕ). has_bit y j) (and_mask (week / 2 * 129 / 2 ^ (first % 7)) 8)
    ∙ low_bit (week / 2 * 129 / 2 ^ (first % 7)) 8 j l
    ∙ down_bit (week / 2 * 129) (first % 7) j
    ∙ weeks_bit (week / 2) (first % 7 + j) (omega arith) (omega arith)
    ∙ down_bit week 1 ((first % 7 + j) % 7)
    ∙ ap (has_bit week) e

-- the eight days a day further
turned : ℕ → ℕ → Bool
turned x j = same (has_bit (x / 2 + x / 2 % 2 * 128) j) (has_bit x (j % 7 + 1))

turned_swept : T (below (λ x. below (turned x) 8) 256)
unfolding turned has_bit
turned_swept = tt

pub turned_bit : (x : ℕ) → x < 256 → (j : ℕ) → j < 8 → has_bit (x / 2 + x / 2 % 2 * 128) j ≡ has_bit x (j % 7 + 1)
unfolding turned
turned_bit x h j l = same→eq (has_bit (x / 2 + x / 2 % 2 * 128) j) (has_bit x (j % 7 + 1)) (at (turned x) 8 (at (λ x. below (turned x) 8) 256 turned_swept x h) j l)

pub next_days : (week first k x r : ℕ) → ((j : ℕ) → j < 8 → has_bit x j ≡ has_bit week (weekday_of (first + (k + j)))) → ((j : ℕ) → j < 8 → has_bit r j ≡ has_bit x (j % 7 + 1))
    → (j : ℕ) → j < 8 → has_bit r j ≡ has_bit week (weekday_of (first + (k + 8 + j)))
unfolding weekday_of
next_days week first k x r h g j l =
    let e : (first + (k + (j % 7 + 1))) % 7 + 1 ≡ (first + (k + 8 + j)) % 7 + 1 = omega arith in
    g j l ∙ h (j % 7 + 1) (omega arith) ∙ ap (has_bit week) e

-- a digit, as a number's lowest bit
digit_first : (w : Bool) → has_bit (pick w 1 0) 0 ≡ w
unfolding has_bit
digit_first true = refl
digit_first false = refl

digit_other : (w : Bool) (j : ℕ) → 1 ≤ j → j < 8 → has_bit (pick w 1 0) j ≡ false
digit_other true j h l = past_bit 1 1 j h
digit_other false j h l = bit_none j l

-- one character more before those that were gathered
pub gathered : (d x : ℕ) (w : Bool) → d ≡ pick w 1 0 → (j : ℕ) → j < 8 → has_bit (bit_or (x * 2 % 256) d) j ≡ pick (eqb j 0) w (has_bit x (j - 1))
gathered d x w e j l =
    bit_or_lem (x * 2 % 256) d j ∙ ap (λ (y : ℕ). either (has_bit (x * 2 % 256) j) (has_bit y j)) e
    ∙ elim (ℕ_discrete j 0) [
      | yes q ↦ rw q (ap (λ (y : Bool). either y (has_bit (pick w 1 0) 0)) (low_bit (x * 2 ^ 1) 8 0 (omega arith) ∙ under_bit x 1 0 (omega arith)) ∙ digit_first w)
      | no q ↦ rw (ne_eqb j 0 q, digit_other w j (omega arith) l) (either_false (has_bit (x * 2 % 256) j) ∙ low_bit (x * 2 ^ 1) 8 j l ∙ up_bit x 1 j (omega arith))
    ]

pub gather_on : (text : List ℕ) (from left m x d : ℕ) → d ≡ pick (eqb (get_or text (from + (left - 1)) 0) 49) 1 0 → 0 < left → m ≤ 8
    → ((j : ℕ) → j < m - left → has_bit x j ≡ eqb (get_or text (from + left + j) 0) 49)
    → (j : ℕ) → j < m - (left - 1) → has_bit (bit_or (x * 2 % 256) d) j ≡ eqb (get_or text (from + (left - 1) + j) 0) 49
gather_on text from left m x d e u v h j l =
    gathered d x (eqb (get_or text (from + (left - 1)) 0) 49) e j (omega arith)
    ∙ elim (ℕ_discrete j 0) [
      | yes q ↦ let z : from + (left - 1) + 0 ≡ from + (left - 1) = omega arith in rw (q, z)
      | no q ↦
          let z : from + left + (j - 1) ≡ from + (left - 1) + j = omega arith in
          rw (ne_eqb j 0 q) (h (j - 1) (omega arith) ∙ ap (λ (i : ℕ). eqb (get_or text i 0) 49) z)
    ]
