-- Which of eight bytes differ from a pattern's by too much: their highest bits.
-- Assumes nothing.
use Rattle.std.specs.Prelude.{◌≡◌, List, ℕ, ◌+◌, ◌<◌}
use Rattle.std.proofs.Common.{arith}
use Rattle.std.specs.Int.Bits.{bit_and, bit_or, bit_xor}
use Rattle.std.proofs.lemmas.Nat.{and_le_r, or_lt, xor_lt}
use Rattle.laws.specs.Words.{word_by, Every, Byte, add_word, and_word, or_word, xor_word}

-- the highest bits s of the bytes that differ too much, where r has the other bits
abbrev pub high_of : ℕ → ℕ → ℕ → ℕ → ℕ → ℕ
high_of w p q r s = bit_and (bit_or (bit_xor w p) (bit_and (bit_xor w p) r + q)) s

unfoldable pub differs_of : ℕ → ℕ → ℕ → ℕ
differs_of w p q = high_of w p (bit_and q 9187201950435737471) 9187201950435737471 9259542123273814144

-- ---- byte by byte: each by its pattern, and by what may be added to their difference before its highest bit is set

module _ {A : Type 0} {P : A → Type 0} (byte pattern room : A → ℕ)
    (b : (a : A) → P a → Byte (byte a)) (c : (a : A) → P a → Byte (pattern a)) (d : (a : A) → P a → room a < 128) where
  abbrev apart : A → ℕ
  apart a = bit_xor (byte a) (pattern a)

  abbrev sum : A → ℕ
  sum a = bit_and (apart a) 127 + room a

  apart_byte : (a : A) → P a → Byte (apart a)
  apart_byte a h = xor_lt 8 (byte a) (pattern a) (b a h) (c a h)

  sum_byte : (a : A) → P a → Byte (sum a)
  sum_byte a h = let l = and_le_r (apart a) 127 in let k = d a h in omega arith

  either_byte : (a : A) → P a → Byte (bit_or (apart a) (sum a))
  either_byte a h = or_lt 8 (apart a) (sum a) (apart_byte a h) (sum_byte a h)

  pub high_words : {l : List A} → Every P l
      → high_of (word_by byte l) (word_by pattern l) (word_by room l) (word_by (λ _. 127) l) (word_by (λ _. 128) l) ≡ word_by (λ a. high_of (byte a) (pattern a) (room a) 127 128) l
  high_words {l} r =
      rw (
        xor_word byte pattern b c r,
        and_word apart (λ _. 127) apart_byte (λ a h. omega arith) r,
        add_word (λ a. bit_and (apart a) 127) room l,
        or_word apart sum apart_byte sum_byte r,
      )
      (and_word (λ a. bit_or (apart a) (sum a)) (λ _. 128) either_byte (λ a h. omega arith) r)
