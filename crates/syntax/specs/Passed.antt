-- Bytes that a scan for a segment's end passes over, eight at a time.
-- Assumes nothing.
use Rattle.std.specs.Prelude.{◌≡◌, Bool, true, false, not, List, ℕ, ◌+◌, ◌*◌, ◌^◌, ◌<◌, leb, eqb}
use Rattle.std.proofs.Common.{sym, ◌∙◌, arith, eqb→eq, ne_eqb}
use Rattle.std.proofs.Math.Path.{ap}
use Rattle.std.proofs.Math.Decide.{dec_lt}
use Rattle.std.specs.Int.Bits.{bit_and, bit_or, bit_xor}
use Rattle.std.proofs.lemmas.Nat.{and_le_r, or_lt, xor_lt}
use Rattle.std.proofs.lemmas.Bool.{lt-leb, not-true}
use Rattle.laws.specs.Choice.{pick, both, either, both_parts, both_false, false≢true}
use Rattle.laws.specs.Sweep.{at, agree}
use Rattle.laws.specs.Words.{word_by, word_of, Every, Byte, word_same, add_word, and_word, or_word, xor_word}
use Rattle.laws.specs.Eight.{eight_at, Word}
use Rattle.syntax.specs.Bytes.{permitted_of}

-- the bytes that are passed over: those from `(` to `:`, and the letters
unfoldable pub goes : ℕ → Bool
goes b = either (both (leb 40 b) (leb b 58)) (either (both (leb 65 b) (leb b 90)) (both (leb 97 b) (leb b 122)))

-- those, and the space
unfoldable pub common : ℕ → Bool
common b = either (goes b) (eqb b 32)

-- all of them are permitted, and none is the terminator or the release character
fine : ℕ → Bool
fine b = both (permitted_of b) (both (not (eqb b 39)) (not (eqb b 63)))

pub record Goes (b : ℕ) : Type 0 where
  pub permitted : permitted_of b ≡ true
  pub quote : eqb b 39 ≡ false
  pub question : eqb b 63 ≡ false

pub common_fine : (b : ℕ) → common b ≡ true → Goes b
unfolding common goes fine permitted_of
common_fine b q =
    elim (dec_lt b 123) [
      | yes h ↦
          let w = (both_parts (common b) (fine b) (agree (λ b. both (common b) (fine b)) common 123 tt b h ∙ q)).1 in
          let x = both_parts (permitted_of b) (both (not (eqb b 39)) (not (eqb b 63))) w in
          let y = both_parts (not (eqb b 39)) (not (eqb b 63)) x.1 in
          record { permitted = x.0; quote = not-true _ y.0; question = not-true _ y.1 }
      | no h ↦
          absurd (false≢true (sym (simp (lt-leb b 58 (omega arith), lt-leb b 90 (omega arith), lt-leb b 122 (omega arith), ne_eqb b 32 (λ e. omega arith), both_false)) ∙ q))
    ]

pub goes_fine : (b : ℕ) → goes b ≡ true → Goes b
unfolding common
goes_fine b q = common_fine b (rw q)

-- The highest digit of a byte, set where it is passed over. In each row of 32 bytes those that are passed over stand from 1 to 26, so that
-- with five added the five lowest digits are 6 or more for them alone; a sum with 122 has its highest digit set from 6 on, and one with 88 from
-- 40 on; the byte's own highest digit is not set. `each` gives a number as often as there are bytes: this is done with one byte, or with many at
-- once, as no sum of the seven lowest digits reaches from one to the next.
unfoldable pub passes_of : (ℕ → ℕ) → ℕ → ℕ
passes_of each x =
    bit_and (bit_and (bit_and (bit_and (bit_and x (each 127) + each 5) (each 31) + each 122) (bit_and x (each 127) + each 88)) (bit_xor x (each 128))) (each 128)

-- a number eight times
abbrev pub eight_times : ℕ → ℕ
eight_times n = n * 72340172838076673

same : ℕ → Bool
same b = eqb (bit_xor (passes_of (λ n. n) b) 128) (pick (goes b) 0 128)

stop_byte : (b : ℕ) → Byte b → bit_xor (passes_of (λ n. n) b) 128 ≡ pick (goes b) 0 128
unfolding same passes_of goes
stop_byte b h = eqb→eq _ _ (at same 256 tt b h)

-- The highest digit of a byte, set where it is not passed over and is not the space: of the seven lowest without the digits of 32 only the space's are 0,
-- and a sum with 127 has its highest digit set from 1 on.
unfoldable pub stops_of : (ℕ → ℕ) → ℕ → ℕ
stops_of each x = bit_and (bit_xor (passes_of each x) (each 128)) (bit_or (bit_xor (bit_and x (each 127)) (each 32) + each 127) x)

same_common : ℕ → Bool
same_common b = eqb (bit_and (pick (goes b) 0 128) (bit_or (bit_xor (bit_and b 127) 32 + 127) b)) (pick (common b) 0 128)

common_byte : (b : ℕ) → Byte b → bit_and (pick (goes b) 0 128) (bit_or (bit_xor (bit_and b 127) 32 + 127) b) ≡ pick (common b) 0 128
unfolding same_common common goes
common_byte b h = eqb→eq _ _ (at same_common 256 tt b h)

pub stop_below : (p : Bool) → Byte (pick p 0 128)
stop_below true = omega arith
stop_below false = omega arith

-- what each step makes of a byte is one
low : (b : ℕ) → bit_and b 127 < 2 ^ 7
low b = let k = and_le_r b 127 in omega arith

five : (b : ℕ) → Byte b → Byte (bit_and b 127 + 5)
five b h = let k = low b in omega arith

forty : (b : ℕ) → Byte b → Byte (bit_and b 127 + 88)
forty b h = let k = low b in omega arith

six : (b : ℕ) → Byte b → Byte (bit_and (bit_and b 127 + 5) 31 + 122)
six b h = let k = and_le_r (bit_and b 127 + 5) 31 in omega arith

other : (b : ℕ) → Byte b → Byte (bit_xor b 128)
other b h = xor_lt 8 b 128 h (omega arith)

both_below : (b : ℕ) → Byte b → Byte (bit_and (bit_and (bit_and b 127 + 5) 31 + 122) (bit_and b 127 + 88))
both_below b h =
    let k = and_le_r (bit_and (bit_and b 127 + 5) 31 + 122) (bit_and b 127 + 88) in
    let g = forty b h in
    omega arith

three_below : (b : ℕ) → Byte b → Byte (bit_and (bit_and (bit_and (bit_and b 127 + 5) 31 + 122) (bit_and b 127 + 88)) (bit_xor b 128))
three_below b h =
    let k = and_le_r (bit_and (bit_and (bit_and b 127 + 5) 31 + 122) (bit_and b 127 + 88)) (bit_xor b 128) in
    let g = other b h in
    omega arith

passes_below : (b : ℕ) → Byte b → Byte (passes_of (λ n. n) b)
unfolding passes_of
passes_below b h = let k = and_le_r (bit_and (bit_and (bit_and (bit_and b 127 + 5) 31 + 122) (bit_and b 127 + 88)) (bit_xor b 128)) 128 in omega arith

spaced : (b : ℕ) → Byte b → Byte (bit_xor (bit_and b 127) 32 + 127)
spaced b h = let k = xor_lt 7 (bit_and b 127) 32 (low b) (omega arith) in omega arith

spaced_below : (b : ℕ) → Byte b → Byte (bit_or (bit_xor (bit_and b 127) 32 + 127) b)
spaced_below b h = or_lt 8 (bit_xor (bit_and b 127) 32 + 127) b (spaced b h) h

-- each byte of a word by itself
stops_bytes : {l : List ℕ} → Every Byte l → bit_xor (passes_of (λ m. word_by (λ _. m) l) (word_of l)) (word_by (λ _. 128) l) ≡ word_by (λ b. pick (goes b) 0 128) l
unfolding passes_of
stops_bytes {l} r =
    rw (
      and_word (λ b. b) (λ _. 127) (λ b h. h) (λ b h. omega arith) r,
      add_word (λ b. bit_and b 127) (λ _. 5) l,
      and_word (λ b. bit_and b 127 + 5) (λ _. 31) five (λ b h. omega arith) r,
      add_word (λ b. bit_and (bit_and b 127 + 5) 31) (λ _. 122) l,
      add_word (λ b. bit_and b 127) (λ _. 88) l,
      and_word (λ b. bit_and (bit_and b 127 + 5) 31 + 122) (λ b. bit_and b 127 + 88) six forty r,
      xor_word (λ b. b) (λ _. 128) (λ b h. h) (λ b h. omega arith) r,
      and_word (λ b. bit_and (bit_and (bit_and b 127 + 5) 31 + 122) (bit_and b 127 + 88)) (λ b. bit_xor b 128) both_below other r,
      and_word (λ b. bit_and (bit_and (bit_and (bit_and b 127 + 5) 31 + 122) (bit_and b 127 + 88)) (bit_xor b 128)) (λ _. 128) three_below (λ b h. omega arith) r,
      xor_word (passes_of (λ n. n)) (λ _. 128) passes_below (λ b h. omega arith) r,
    )
    (word_same (λ b. bit_xor (passes_of (λ n. n) b) 128) (λ b. pick (goes b) 0 128) stop_byte r)

common_bytes : {l : List ℕ} → Every Byte l → stops_of (λ m. word_by (λ _. m) l) (word_of l) ≡ word_by (λ b. pick (common b) 0 128) l
unfolding stops_of
common_bytes {l} r =
    rw (
      stops_bytes r,
      and_word (λ b. b) (λ _. 127) (λ b h. h) (λ b h. omega arith) r,
      xor_word (λ b. bit_and b 127) (λ _. 32) (λ b h. let k = low b in omega arith) (λ b h. omega arith) r,
      add_word (λ b. bit_xor (bit_and b 127) 32) (λ _. 127) l,
      or_word (λ b. bit_xor (bit_and b 127) 32 + 127) (λ b. b) spaced (λ b h. h) r,
      and_word (λ b. pick (goes b) 0 128) (λ b. bit_or (bit_xor (bit_and b 127) 32 + 127) b) (λ b h. stop_below (goes b)) spaced_below r,
    )
    (word_same (λ b. bit_and (pick (goes b) 0 128) (bit_or (bit_xor (bit_and b 127) 32 + 127) b)) (λ b. pick (common b) 0 128) common_byte r)

-- what stops among eight bytes
module _ (s : List ℕ) (i x : ℕ) (w : Word s i x) where
  pub passes_word : (y : ℕ) → y ≡ passes_of eight_times x → bit_xor y 9259542123273814144 ≡ word_by (λ b. pick (goes b) 0 128) (eight_at s i)
  unfolding word_by passes_of
  passes_word y e = ap (λ (y : ℕ). bit_xor y 9259542123273814144) (e ∙ ap (passes_of eight_times) w.is) ∙ stops_bytes w.bytes

  pub common_word : (y : ℕ) → y ≡ stops_of eight_times x → y ≡ word_by (λ b. pick (common b) 0 128) (eight_at s i)
  unfolding word_by passes_of stops_of
  common_word y e = e ∙ ap (stops_of eight_times) w.is ∙ common_bytes w.bytes
