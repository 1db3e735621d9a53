-- Runs of plain text, in which no byte is a mark or a release: a piece goes on behind them.
-- Assumes nothing.
use Rattle.std.specs.Prelude.{◌≡◌, true, false, List, [], ◌∷◌, ◌++◌, ℕ, ◌+◌, ◌-◌, ◌*◌, ◌≤◌, ◌<◌, eqb, length, take, drop}
use Rattle.std.proofs.Common.{sym, ap, ap₂, subst, ◌∙◌, arith, ne_eqb, eqb-true}
use Rattle.std.specs.Int.Bits.{bit_and, bit_or, bit_xor, and_zero_r, xor_self}
use Rattle.std.proofs.lemmas.Nat.{and_le_r}
use Rattle.std.proofs.Math.Seq.{take-append-add}
use Rattle.laws.specs.Lists.{between}
use Rattle.laws.specs.Words.{word_by, word_of, Every, none, one, Byte, and_word, same_word}
use Rattle.laws.specs.Eight.{eight_at, drop_eight}
use Rattle.raw_bytes.specs.Eights.{Eights, eights_bytes}
use Rattle.raw_bytes.specs.Differing.{high_of, differs_of, high_words}
use Rattle.syntax.specs.Pieces.{first_piece}
use Rattle.parts.specs.Cuts.{cut_end}

-- no byte is the mark or a release
abbrev pub Plain : ℕ → List ℕ → Type 0
Plain c [] = Unit
Plain c (b ∷ l) = (b ≡ c → ⊥) × (b ≡ 63 → ⊥) × Plain c l

run_goes : (c : ℕ) (l k : List ℕ) → Plain c l → length (first_piece c false (l ++ k)) ≡ length l + length (first_piece c false k)
unfolding first_piece
run_goes c [] k h = sym (omega arith)
run_goes c (b ∷ l) k h = let e = run_goes c l k h.2 in rw (ne_eqb b c h.0, ne_eqb b 63 h.1) (omega arith)

module _ (s : List ℕ) (i b c : ℕ) (g : i + 8 ≤ length s) (h : i + 8 ≤ b) where
  eight_between : between s i b ≡ eight_at s i ++ between s (i + 8) b
  eight_between =
      let e : b - i ≡ 8 + (b - (i + 8)) = omega arith in
      ap₂ take e (drop_eight s i g) ∙ take-append-add (eight_at s i) (drop (i + 8) s) (b - (i + 8))

  pub eight_goes : Plain c (eight_at s i) → cut_end s (i + 8) b c ≡ cut_end s i b c
  eight_goes p =
      let e = ap (λ (l : List ℕ). length (first_piece c false l)) eight_between ∙ run_goes c (eight_at s i) (between s (i + 8) b) p in
      omega arith

-- ---- eight bytes at once

-- whether none of eight bytes is one of eight marks or a release
abbrev pub plain_bits : ℕ → ℕ → ℕ
plain_bits w marks = bit_and (differs_of w marks 9187201950435737471) (differs_of w 4557430888798830399 9187201950435737471)

-- a byte's highest bit, set where it is not the mark
abbrev apart : ℕ → ℕ → ℕ
apart m b = high_of b m 127 127 128

mark_apart : (m : ℕ) → apart m m ≡ 0
mark_apart m = rw (xor_self m)

byte_plain : (m b : ℕ) → bit_and (apart m b) (apart 63 b) ≡ 128 → (b ≡ m → ⊥) × (b ≡ 63 → ⊥)
byte_plain m b e = (
  (λ q.
      let k : bit_and (apart m b) (apart 63 b) ≡ 0 = ap (λ (x : ℕ). bit_and (apart m x) (apart 63 b)) q ∙ ap (λ (x : ℕ). bit_and x (apart 63 b)) (mark_apart m) in
      omega arith),
  (λ q.
      let k : bit_and (apart m b) (apart 63 b) ≡ 0 = ap (λ (x : ℕ). bit_and (apart m b) (apart 63 x)) q ∙ and_zero_r (apart m b) in
      omega arith),
)

pub high_byte : (b p q : ℕ) → Byte (high_of b p q 127 128)
high_byte b p q = let l = and_le_r (bit_or (bit_xor b p) (bit_and (bit_xor b p) 127 + q)) 128 in omega arith

both_byte : (m b : ℕ) → Byte (bit_and (apart m b) (apart 63 b))
both_byte m b = let l = and_le_r (apart m b) (apart 63 b) in let k = high_byte b 63 127 in omega arith

each_plain : (m : ℕ) {l : List ℕ} → Every (λ b. bit_and (apart m b) (apart 63 b) ≡ 128) l → Plain m l
each_plain m none = tt
each_plain m (one {a} {l} e r) = let p = byte_plain m a e in (p.0, p.1, each_plain m r)

module _ {l : List ℕ} (r : Every Byte l) where
  abbrev apart_from : ℕ → ℕ
  apart_from m = high_of (word_of l) (word_by (λ _. m) l) (word_by (λ _. 127) l) (word_by (λ _. 127) l) (word_by (λ _. 128) l)

  apart_words : (m : ℕ) → m < 256 → apart_from m ≡ word_by (apart m) l
  apart_words m h = high_words (λ b. b) (λ _. m) (λ _. 127) (λ b k. k) (λ b k. h) (λ b k. omega arith) r

  plain_bytes : (m : ℕ) → m < 256 → bit_and (apart_from m) (apart_from 63) ≡ word_by (λ _. 128) l → Plain m l
  plain_bytes m h q =
      let e = ap₂ bit_and (apart_words m h) (apart_words 63 (omega arith)) ∙ and_word (apart m) (apart 63) (λ b k. high_byte b m 127) (λ b k. high_byte b 63 127) r in
      each_plain m (same_word (λ b. bit_and (apart m b) (apart 63 b)) (λ _. 128) (λ b k. both_byte m b) (λ b k. omega arith) r (sym e ∙ q))

plain_eight : (s : List ℕ) (i m : ℕ) → m < 256 → {w : ℕ} → Eights s i w → plain_bits w (m * 72340172838076673) ≡ 9259542123273814144 → Plain m (eight_at s i)
unfolding differs_of word_by
plain_eight s i m h e q =
    let k : m * 72340172838076673 ≡ word_by (λ _. m) (eight_at s i) = omega arith in
    plain_bytes (eights_bytes s i e) m h (sym (ap₂ plain_bits e.is k) ∙ q)

pub pass_eight : (s : List ℕ) (i b : ℕ) {w r m : ℕ} → Eights s i w → (r ≡ m) × (r < 256) → eqb (plain_bits w (r * 72340172838076673)) 9259542123273814144 ≡ true
    → i + 8 ≤ b → cut_end s (i + 8) b m ≡ cut_end s i b m
pass_eight s i b {w} {r} {m} e p q h =
    subst (λ (x : ℕ). cut_end s (i + 8) b x ≡ cut_end s i b x) p.0
    (eight_goes s i b r e.inside h (plain_eight s i r p.1 e (eqb-true (plain_bits w (r * 72340172838076673)) 9259542123273814144 q)))
