-- Plain text that is told from other bytes eight at a time.
-- Assumes nothing.
use Rattle.std.specs.Prelude.{◌≡◌, Bool, true, not, List, [], ◌∷◌, ℕ, zero, suc, ◌+◌, ◌≤◌, eqb, drop}
use Rattle.std.proofs.Common.{sym, ◌∙◌, arith, eqb→eq, drop-drop, ne_eqb}
use Rattle.std.proofs.Math.Path.{ap₂}
use Rattle.std.proofs.Math.Decide.{dec_lt}
use Rattle.std.specs.Int.Bits.{bit_and, bit_or, bit_xor}
use Rattle.std.proofs.lemmas.Nat.{and_le_r, xor_lt}
use Rattle.std.proofs.lemmas.Bool.{lt-leb}
use Rattle.laws.specs.Choice.{pick, both, choose, both_parts, both_false, false≢true}
use Rattle.laws.specs.Sweep.{at, agree}
use Rattle.laws.specs.Words.{word_by, Every, Byte, word_same, or_word, xor_word}
use Rattle.laws.specs.Eight.{eight_at, Word}
use Rattle.laws.specs.Leads.{run_of}
use Rattle.syntax.specs.Bytes.{permitted_of, plain_text, is_mark}
use Rattle.syntax.specs.Runs.{text_run}
use Rattle.syntax.specs.Passed.{goes, common, stops_of, eight_times, stop_below, common_word}
use Rattle.syntax.specs.Texts.{texts_of, texts_told}

-- the bytes that a search for a segment's end passes over, and the space, without the marks
unfoldable pub common_text : ℕ → Bool
common_text b = both (common b) (not (is_mark b))

common_plain : (b : ℕ) → common_text b ≡ true → plain_text b ≡ true
unfolding common_text common goes is_mark plain_text permitted_of
common_plain b q =
    elim (dec_lt b 123) [
      | yes h ↦ (both_parts (common_text b) (plain_text b) (agree (λ b. both (common_text b) (plain_text b)) common_text 123 tt b h ∙ q)).1
      | no h ↦
          absurd (false≢true (sym (simp (lt-leb b 58 (omega arith), lt-leb b 90 (omega arith), lt-leb b 122 (omega arith), ne_eqb b 32 (λ e. omega arith), both_false)) ∙ q))
    ]

-- a run of it is a part of a run of plain text
run_on : (k : ℕ) (l : List ℕ) → k ≤ run_of common_text l → text_run l ≡ k + text_run (drop k l)
unfolding run_of text_run
run_on zero l h = omega arith
run_on (suc k) [] h = absurd (omega arith)
run_on (suc k) (b ∷ l) h =
    choose (common_text b)
    (λ q. let g = rw q at h in let e = run_on k l (omega arith) in rw (common_plain b q) (omega arith))
    (λ q. let g = rw q at h in absurd (omega arith))

pub text_on : (s : List ℕ) (i k : ℕ) → k ≤ run_of common_text (drop i s) → i + k + text_run (drop (i + k) s) ≡ i + text_run (drop i s)
text_on s i k h =
    let e = run_on k (drop i s) h in
    let d : text_run (drop k (drop i s)) ≡ text_run (drop (i + k) s) = rw drop-drop in
    omega arith

-- the highest digit of a byte, set where it is none
same : ℕ → Bool
same b = eqb (bit_or (pick (common b) 0 128) (bit_xor (texts_of (λ n. n) b) 128)) (pick (common_text b) 0 128)

stop_byte : (b : ℕ) → Byte b → bit_or (pick (common b) 0 128) (bit_xor (texts_of (λ n. n) b) 128) ≡ pick (common_text b) 0 128
unfolding same common_text common goes is_mark texts_of
stop_byte b h = eqb→eq _ _ (at same 256 tt b h)

texts_below : (b : ℕ) → Byte b → Byte (texts_of (λ n. n) b)
unfolding texts_of
texts_below b h = let k = and_le_r (bit_and (bit_xor (bit_or b 17) 59) 127 + 127) 128 in omega arith

stops_bytes : {l : List ℕ} → Every Byte l
    → bit_or (word_by (λ b. pick (common b) 0 128) l) (bit_xor (word_by (texts_of (λ n. n)) l) (word_by (λ _. 128) l)) ≡ word_by (λ b. pick (common_text b) 0 128) l
stops_bytes {l} r =
    rw (
      xor_word (texts_of (λ n. n)) (λ _. 128) texts_below (λ b h. omega arith) r,
      or_word (λ b. pick (common b) 0 128) (λ b. bit_xor (texts_of (λ n. n) b) 128) (λ b h. stop_below (common b)) (λ b h. xor_lt 8 (texts_of (λ n. n) b) 128 (texts_below b h) (omega arith)) r,
    )
    (word_same (λ b. bit_or (pick (common b) 0 128) (bit_xor (texts_of (λ n. n) b) 128)) (λ b. pick (common_text b) 0 128) stop_byte r)

module _ (s : List ℕ) (i x : ℕ) (w : Word s i x) where
  pub text_word : (a t : ℕ) → a ≡ stops_of eight_times x → t ≡ texts_of eight_times x
      → bit_or a (bit_xor t 9259542123273814144) ≡ word_by (λ b. pick (common_text b) 0 128) (eight_at s i)
  unfolding word_by
  text_word a t d e =
      ap₂ (λ (a t : ℕ). bit_or a (bit_xor t 9259542123273814144)) (common_word s i x w a d) (texts_told s i x w t e)
      ∙ stops_bytes w.bytes
