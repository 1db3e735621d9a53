-- The four bytes that a segment begins with: its tag and the byte behind it.
-- Assumes nothing.
use Rattle.std.specs.Prelude.{◌≡◌, Bool, true, List, ℕ, ◌+◌, ◌*◌, ◌/◌, ◌%◌, ◌<◌, ◌≤◌, length, drop, get_or}
use Rattle.std.proofs.Common.{sym, ap, ◌∙◌, arith}
use Rattle.laws.specs.Choice.{both, both_parts}
use Rattle.syntax.specs.Segment.{capital, tag_number}
use Rattle.syntax.specs.Tags.{tag_ahead, tag_closes, tag_four, number_three}

-- as they stand in memory, and as one number, the first highest
abbrev pub four_at : List ℕ → ℕ → ℕ
four_at s at = get_or s at 0 + get_or s (at + 1) 0 * 256 + get_or s (at + 2) 0 * 65536 + get_or s (at + 3) 0 * 16777216

abbrev pub head_at : List ℕ → ℕ → ℕ
head_at s at = get_or s at 0 * 16777216 + get_or s (at + 1) 0 * 65536 + get_or s (at + 2) 0 * 256 + get_or s (at + 3) 0

-- they are bytes
pub record Bytes (s : List ℕ) (at : ℕ) : Type 0 where
  pub first : get_or s at 0 < 256
  pub second : get_or s (at + 1) 0 < 256
  pub third : get_or s (at + 2) 0 < 256
  pub fourth : get_or s (at + 3) 0 < 256

-- the letters of a tag, and those of a number that is a tag's
abbrev pub capitals : List ℕ → ℕ → Bool
capitals s at = both (capital (get_or s at 0)) (both (capital (get_or s (at + 1) 0)) (capital (get_or s (at + 2) 0)))

abbrev pub capital_tag : ℕ → Bool
capital_tag tag = both (capital (tag / 65536)) (both (capital (tag / 256 % 256)) (capital (tag % 256)))

module _ (s : List ℕ) (at : ℕ) (b : Bytes s at) where
  -- the number by the bytes as they stand
  pub head_turned : four_at s at % 256 * 16777216 + four_at s at / 256 % 256 * 65536 + four_at s at / 65536 % 256 * 256 + four_at s at / 16777216 ≡ head_at s at
  head_turned =
      let p = b.first in
      let q = b.second in
      let r = b.third in
      let t = b.fourth in
      let x : four_at s at % 256 ≡ get_or s at 0 = omega arith in
      let y : four_at s at / 256 ≡ get_or s (at + 1) 0 + get_or s (at + 2) 0 * 256 + get_or s (at + 3) 0 * 65536 = omega arith in
      let z : four_at s at / 65536 ≡ get_or s (at + 2) 0 + get_or s (at + 3) 0 * 256 = omega arith in
      let w : four_at s at / 16777216 ≡ get_or s (at + 3) 0 = omega arith in
      let u : (get_or s (at + 1) 0 + get_or s (at + 2) 0 * 256 + get_or s (at + 3) 0 * 65536) % 256 ≡ get_or s (at + 1) 0 = omega arith in
      let v : (get_or s (at + 2) 0 + get_or s (at + 3) 0 * 256) % 256 ≡ get_or s (at + 2) 0 = omega arith in
      rw (x, y, z, w, u, v)

  pub head_mark : head_at s at % 256 ≡ get_or s (at + 3) 0
  head_mark =
      let t = b.fourth in
      omega arith

  head_tag : head_at s at / 256 ≡ get_or s at 0 * 65536 + get_or s (at + 1) 0 * 256 + get_or s (at + 2) 0
  head_tag =
      let t = b.fourth in
      omega arith

  pub tag_number_lem : at + 4 ≤ length s → head_at s at / 256 ≡ tag_number (drop at s)
  tag_number_lem h = head_tag ∙ sym (number_three s at (omega arith))

  pub head_capitals : capital_tag (head_at s at / 256) ≡ true → capitals s at ≡ true
  head_capitals g =
      let p = b.first in
      let q = b.second in
      let r = b.third in
      let t = b.fourth in
      let x : head_at s at / 256 / 65536 ≡ get_or s at 0 = omega arith in
      let y : head_at s at / 256 / 256 % 256 ≡ get_or s (at + 1) 0 = omega arith in
      let z : head_at s at / 256 % 256 ≡ get_or s (at + 2) 0 = omega arith in
      rw (x, y, z) at g

-- with a mark behind them they begin a segment
pub capitals_ahead : (s : List ℕ) (at : ℕ) → at + 4 ≤ length s → capitals s at ≡ true → tag_closes (get_or s (at + 3) 0) ≡ true → tag_ahead (drop at s) ≡ true
capitals_ahead s at h g m =
    let p = both_parts (capital (get_or s at 0)) (both (capital (get_or s (at + 1) 0)) (capital (get_or s (at + 2) 0))) g in
    let q = both_parts (capital (get_or s (at + 1) 0)) (capital (get_or s (at + 2) 0)) p.1 in
    tag_four s at h ∙ rw (p.0, q.0, q.1) m

-- a head that is a tag and a mark
module _ (s : List ℕ) (at head : ℕ) (b : Bytes s at) (k : head ≡ head_at s at) (tag m : ℕ) (x : head ≡ tag * 256 + m) (l : m < 256) where
  pub head_told : head / 256 ≡ tag
  head_told = omega arith

  pub head_behind : get_or s (at + 3) 0 ≡ m
  head_behind =
      let e = head_mark s at b in
      omega arith

  pub head_ahead : at + 4 ≤ length s → (head / 256 ≡ tag → capitals s at ≡ true) → tag_closes m ≡ true → tag_ahead (drop at s) ≡ true
  head_ahead h g q = capitals_ahead s at h (g head_told) (ap tag_closes head_behind ∙ q)
