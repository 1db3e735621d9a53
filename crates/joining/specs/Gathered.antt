-- Eight characters of a day string as the bits of a byte: a product of the number that they are brings their lowest bits together.
-- Assumes nothing.
use Rattle.std.specs.Prelude.{◌≡◌, refl, Bool, true, List, [], ◌∷◌, ℕ, zero, suc, ◌+◌, ◌*◌, ◌/◌, ◌%◌, ◌^◌, ◌<◌, eqb, length, get_or, drop}
use Rattle.std.proofs.Common.{sym, ◌∙◌, get_or-drop, eqb-true}
use Rattle.std.proofs.Math.Path.{ap}
use native.Mathlib.Omega.{arith}
use Rattle.std.specs.Int.Bits.{bit_and, and_mask}
use Rattle.std.proofs.Math.ListN.{get_or-append}
use Rattle.std.proofs.Math.Pow.{high, low}
use Rattle.laws.specs.Choice.{all, both_parts, choose}
use Rattle.laws.specs.Words.{word_by, word_of, Every, Byte, and_word, word_same}
use Rattle.laws.specs.Eight.{eight_at, drop_eight, all_joined}
use Rattle.raw_bytes.specs.Eights.{Eights, eights_bytes}
use Rattle.calendar.specs.Days.{has_bit}
use Rattle.period.specs.Period.{zero_or_one}
use Rattle.joining.specs.Eights.{down_bit}

-- the bits of a number that has one in each of eight bytes, side by side: those of the last four bytes go between those of the first four
abbrev side_by_side : ℕ → ℕ
side_by_side x = bit_and (bit_and (x + x / 2 ^ 28) 4294967295 * 2113665 / 2 ^ 21) 255

unfoldable pub gathered_of : ℕ → ℕ
gathered_of w = side_by_side (bit_and w 72340172838076673)

-- the lowest bits of a list's bytes as one number
unfoldable lowest_of : List ℕ → ℕ
lowest_of [] = 0
lowest_of (b ∷ l) = lowest_of l * 2 + b % 2

lowest_word : {l : List ℕ} → Every Byte l → bit_and (word_of l) (word_by (λ _. 1) l) ≡ word_by (λ b. b % 2) l
lowest_word r =
    and_word (λ b. b) (λ _. 1) (λ b h. h) (λ b h. omega arith) r
    ∙ word_same (λ b. bit_and b 1) (λ b. b % 2) (λ b h. and_mask b 1) r

-- of any eight bytes
module _ (a b c d e f g h : ℕ) where
  abbrev eight : List ℕ
  eight = a ∷ b ∷ c ∷ d ∷ e ∷ f ∷ g ∷ h ∷ []

  abbrev spread : ℕ
  spread = word_by (λ x. x % 2) eight

  -- the first four bytes, and the last four moved down by 28 bits
  abbrev first : ℕ
  first = a % 2 + b % 2 * 256 + c % 2 * 65536 + d % 2 * 16777216

  abbrev last : ℕ
  last = e % 2 * 16 + f % 2 * 4096 + g % 2 * 1048576 + h % 2 * 268435456

  moved : spread / 2 ^ 28 ≡ last
  unfolding word_by
  moved =
      let t : spread ≡ last * 2 ^ 28 + first = omega arith in
      ap (λ (x : ℕ). x / 2 ^ 28) t ∙ high last 28 {lo = first} (omega arith)

  abbrev behind : ℕ
  behind = e % 2 + f % 2 * 256 + g % 2 * 65536 + h % 2 * 16777216

  between : bit_and (spread + spread / 2 ^ 28) 4294967295 ≡ first + last
  unfolding word_by
  between =
      let m = moved in
      let t : spread + spread / 2 ^ 28 ≡ behind * 2 ^ 32 + (first + last) = omega arith in
      and_mask (spread + spread / 2 ^ 28) 32 ∙ ap (λ (x : ℕ). x % 2 ^ 32) t ∙ low behind 32 {lo = first + last} (omega arith)

  -- their product with 1 + 2 ^ 7 + 2 ^ 14 + 2 ^ 21 has the eight bits side by side from 2 ^ 21 on
  abbrev over : ℕ
  over = b % 2 + c % 2 * 258 + d % 2 * 66052 + f % 2 * 16 + g % 2 * 4128 + h % 2 * 1056832

  abbrev under : ℕ
  under = a % 2 * 16513 + b % 2 * 33024 + c % 2 * 65536 + e % 2 * 264208 + f % 2 * 528384 + g % 2 * 1048576

  product : (first + last) * 2113665 / 2 ^ 21 ≡ over * 256 + lowest_of eight
  unfolding lowest_of
  product =
      let t : (first + last) * 2113665 ≡ (over * 256 + lowest_of eight) * 2 ^ 21 + under = omega arith in
      ap (λ (x : ℕ). x / 2 ^ 21) t ∙ high (over * 256 + lowest_of eight) 21 {lo = under} (omega arith)

  side_by_side_lem : side_by_side spread ≡ lowest_of eight
  unfolding lowest_of
  side_by_side_lem = rw (between, product) (and_mask (over * 256 + lowest_of eight) 8 ∙ low over 8 {lo = lowest_of eight} (omega arith))

-- a character is `1` where its lowest bit is set
character_bit : (b : ℕ) → zero_or_one b ≡ true → eqb (b % 2) 1 ≡ eqb b 49
character_bit b e = choose (eqb b 48) (λ p. told 48 (eqb-true b 48 p) refl) (λ p. told 49 (eqb-true b 49 (rw p at e)) refl)
  where
    told : (c : ℕ) → b ≡ c → eqb (c % 2) 1 ≡ eqb c 49 → eqb (b % 2) 1 ≡ eqb b 49
    told c q t = rw q t

days_bits : (l : List ℕ) → all zero_or_one l ≡ true → (j : ℕ) → j < length l → has_bit (lowest_of l) j ≡ eqb (get_or l j 0) 49
unfolding lowest_of has_bit
days_bits [] e j h = absurd (omega arith)
days_bits (b ∷ l) e zero h =
    let z : (lowest_of l * 2 + b % 2) / 2 ^ 0 % 2 ≡ b % 2 = omega arith in
    ap (λ (x : ℕ). eqb x 1) z ∙ character_bit b (both_parts (zero_or_one b) (all zero_or_one l) e).0
days_bits (b ∷ l) e (suc j) h =
    let z : 1 + j ≡ suc j = omega arith in
    let y : (lowest_of l * 2 + b % 2) / 2 ^ 1 ≡ lowest_of l = omega arith in
    ap (has_bit (lowest_of l * 2 + b % 2)) (sym z) ∙ sym (down_bit (lowest_of l * 2 + b % 2) 1 j) ∙ ap (λ (x : ℕ). has_bit x j) y
    ∙ days_bits l (both_parts (zero_or_one b) (all zero_or_one l) e).1 j (omega arith)

pub all_drop : (f : ℕ → Bool) (k : ℕ) (s : List ℕ) → all f s ≡ true → all f (drop k s) ≡ true
all_drop f zero s e = e
all_drop f (suc k) [] e = refl
all_drop f (suc k) (a ∷ l) e = all_drop f k l (both_parts (f a) (all f l) e).1

-- eight characters of a text that has no others
module _ (s : List ℕ) (k : ℕ) {w : ℕ} (e : Eights s k w) where
  gathered_eight : gathered_of w ≡ lowest_of (eight_at s k)
  unfolding gathered_of word_by
  gathered_eight =
      ap gathered_of e.is ∙ ap side_by_side (lowest_word (eights_bytes s k e))
      ∙ side_by_side_lem (get_or s k 0) (get_or s (k + 1) 0) (get_or s (k + 2) 0) (get_or s (k + 3) 0) (get_or s (k + 4) 0) (get_or s (k + 5) 0) (get_or s (k + 6) 0) (get_or s (k + 7) 0)

  eight_character : (j : ℕ) → j < 8 → get_or (eight_at s k) j 0 ≡ get_or s (k + j) 0
  eight_character j h =
      sym (get_or-append (eight_at s k) (drop (k + 8) s) 0 j h) ∙ ap (λ (l : List ℕ). get_or l j 0) (sym (drop_eight s k e.inside)) ∙ get_or-drop k s j 0

  pub eight_days : all zero_or_one s ≡ true → (j : ℕ) → j < 8 → has_bit (gathered_of w) j ≡ eqb (get_or s (k + j) 0) 49
  eight_days d j h =
      let a = sym (all_joined zero_or_one (eight_at s k) (drop (k + 8) s)) ∙ sym (ap (all zero_or_one) (drop_eight s k e.inside)) ∙ all_drop zero_or_one k s d in
      let b = (both_parts (all zero_or_one (eight_at s k)) (all zero_or_one (drop (k + 8) s)) a).0 in
      ap (λ (x : ℕ). has_bit x j) gathered_eight ∙ days_bits (eight_at s k) b j h ∙ ap (λ (x : ℕ). eqb x 49) (eight_character j h)
