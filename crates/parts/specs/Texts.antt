-- Runs of text that a walk to the first mark passes over, eight bytes at a time.
-- Assumes nothing.
use Rattle.std.specs.Prelude.{◌≡◌, refl, Bool, true, false, not, List, ℕ, zero, suc, ◌+◌, ◌≤◌, eqb, leb, length, get_or, drop}
use Rattle.std.proofs.Common.{sym, ◌∙◌, arith, eqb→eq}
use Rattle.std.proofs.Math.Path.{ap}
use Rattle.std.specs.Int.Bits.{bit_and, bit_xor, xor_self}
use Rattle.std.proofs.lemmas.Nat.{and_le_r}
use Rattle.laws.specs.Choice.{pick, both, either, choose, false≢true}
use Rattle.laws.specs.Lists.{drop_here}
use Rattle.laws.specs.Sweep.{at}
use Rattle.laws.specs.Words.{word_by, word_of, Every, Byte, word_same, and_word, xor_word}
use Rattle.laws.specs.Eight.{eight_at}
use Rattle.laws.specs.Leads.{run_of, eight_clear}
use Rattle.raw_bytes.specs.Eights.{Eights, eights_bytes}
use Rattle.raw_bytes.specs.Differing.{high_of, differs_of, high_words}
use Rattle.parts.specs.Plain.{high_byte}
use Rattle.parts.specs.Component.{component_end, component_on}

-- the bytes that are passed over: all but `*` and `+` and those from `:` to `?`
unfoldable pub is_text : ℕ → Bool
is_text b = not (either (both (leb 42 b) (leb b 43)) (both (leb 58 b) (leb b 63)))

-- none of them is a mark or a release
text_other : (b m : ℕ) → is_text m ≡ false → is_text b ≡ true → b ≡ m → ⊥
text_other b m f t q = false≢true (sym f ∙ ap is_text (sym q) ∙ t)

text_plain : (b : ℕ) → is_text b ≡ true → (b ≡ 43 → ⊥) × (b ≡ 42 → ⊥) × (b ≡ 58 → ⊥) × (b ≡ 63 → ⊥)
unfolding is_text
text_plain b t = (text_other b 43 refl t, text_other b 42 refl t, text_other b 58 refl t, text_other b 63 refl t)

-- a component goes on behind a run of them
pub text_goes : (s : List ℕ) (b : ℕ) → b ≤ length s → (k i : ℕ) → i + k ≤ b → k ≤ run_of is_text (drop i s) → component_end s (i + k) b ≡ component_end s i b
unfolding run_of
text_goes s b g zero i h r = let e : i + 0 ≡ i = omega arith in rw e
text_goes s b g (suc k) i h r =
    let d = ap (run_of is_text) (drop_here s i (omega arith)) in
    choose (is_text (get_or s i 0))
    (λ p.
    let f = rw p at d in
    let e : i + suc k ≡ i + 1 + k = omega arith in
    let n = text_plain (get_or s i 0) p in
    rw e (text_goes s b g k (i + 1) (omega arith) (omega arith) ∙ component_on s i b (omega arith) g n.0 n.1 n.2 n.3))
    (λ p. let f = rw p at d in absurd (omega arith))

-- ---- eight bytes at once

-- the highest bit of each byte, set where it is passed over: `*` and `+` differ from `*` by less than two, those from `:` to `?` from `?` by less than six
abbrev pub text_bits : ℕ → ℕ
text_bits w = bit_and (differs_of w 3038287259199220266 9114861777597660798) (differs_of w 4557430888798830399 8825501086245354106)

abbrev text_byte : ℕ → ℕ
text_byte b = bit_and (high_of b 42 126 127 128) (high_of b 63 122 127 128)

same : ℕ → Bool
same b = eqb (bit_xor (text_byte b) 128) (pick (is_text b) 0 128)

stop_byte : (b : ℕ) → Byte b → bit_xor (text_byte b) 128 ≡ pick (is_text b) 0 128
unfolding same is_text
stop_byte b h = eqb→eq _ _ (at same 256 tt b h)

text_byte_lem : (b : ℕ) → Byte (text_byte b)
text_byte_lem b = let l = and_le_r (high_of b 42 126 127 128) (high_of b 63 122 127 128) in let k = high_byte b 63 122 in omega arith

module _ {l : List ℕ} (r : Every Byte l) where
  abbrev high_from : ℕ → ℕ → ℕ
  high_from p q = high_of (word_of l) (word_by (λ _. p) l) (word_by (λ _. q) l) (word_by (λ _. 127) l) (word_by (λ _. 128) l)

  stops_bytes : bit_xor (bit_and (high_from 42 126) (high_from 63 122)) (word_by (λ _. 128) l) ≡ word_by (λ b. pick (is_text b) 0 128) l
  stops_bytes =
      rw (
        high_words (λ b. b) (λ _. 42) (λ _. 126) (λ b k. k) (λ b k. omega arith) (λ b k. omega arith) r,
        high_words (λ b. b) (λ _. 63) (λ _. 122) (λ b k. k) (λ b k. omega arith) (λ b k. omega arith) r,
        and_word (λ b. high_of b 42 126 127 128) (λ b. high_of b 63 122 127 128) (λ b k. high_byte b 42 126) (λ b k. high_byte b 63 122) r,
        xor_word text_byte (λ _. 128) (λ b k. text_byte_lem b) (λ b k. omega arith) r,
      )
      (word_same (λ b. bit_xor (text_byte b) 128) (λ b. pick (is_text b) 0 128) stop_byte r)

module _ (s : List ℕ) (i : ℕ) {w : ℕ} (e : Eights s i w) (y : ℕ) (q : y ≡ text_bits w) where
  pub stops_word : bit_xor y 9259542123273814144 ≡ word_by (λ b. pick (is_text b) 0 128) (eight_at s i)
  unfolding word_by differs_of
  stops_word =
      ap (λ (x : ℕ). bit_xor x 9259542123273814144) (q ∙ ap text_bits e.is) ∙ stops_bytes (eights_bytes s i e)

  pub eight_text : y ≡ 9259542123273814144 → 8 ≤ run_of is_text (drop i s)
  eight_text z =
      eight_clear is_text s i (bit_xor y 9259542123273814144) e.inside stops_word
      (ap (λ (x : ℕ). bit_xor x 9259542123273814144) z ∙ xor_self 9259542123273814144)
