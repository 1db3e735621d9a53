-- Bytes that are no mark, counted eight at a time.
-- Assumes nothing.
use Rattle.std.specs.Prelude.{◌≡◌, refl, Bool, List, [], ◌∷◌, ◌++◌, ℕ, ◌+◌, ◌-◌, ◌*◌, ◌/◌, ◌%◌, ◌≤◌, ◌<◌, eqb, leb, length, drop}
use Rattle.std.proofs.Common.{sym, subst, ◌∙◌, arith, zero-add, eqb→eq, leb→le, length-drop}
use Rattle.std.proofs.Math.Path.{ap}
use Rattle.std.specs.Int.Bits.{bit_and, bit_or, bit_xor}
use Rattle.std.proofs.lemmas.Nat.{and_le_r, or_lt, xor_lt}
use Rattle.laws.specs.Choice.{pick, both, both_left, both_right}
use Rattle.laws.specs.Sweep.{at}
use Rattle.laws.specs.Words.{word_by, word_of, Every, none, one, Byte, word_same, add_word, and_word, or_word, xor_word}
use Rattle.laws.specs.Eight.{eight_at, Word, drop_eight}
use Rattle.syntax.specs.Bytes.{is_mark}
use Rattle.syntax.specs.Few.{marks_in, marks_length}
use Rattle.syntax.specs.Passed.{eight_times}

-- The highest digit of a byte, set where it is no mark. With 16 and 1 set, `*`, `+`, `:` and `;` are 59, and so is no other byte below 128. As in
-- `passes_of`, this is done with one byte or with many at once.
unfoldable pub texts_of : (ℕ → ℕ) → ℕ → ℕ
texts_of each x = bit_and (bit_and (bit_xor (bit_or x (each 17)) (each 59)) (each 127) + each 127) (each 128)

-- 1 for such a byte, else 0
unfoldable pub text_unit : ℕ → ℕ
text_unit b = texts_of (λ n. n) b / 128

told : ℕ → Bool
told b = both (eqb (texts_of (λ n. n) b) (text_unit b * 128)) (leb (text_unit b + pick (is_mark b) 1 0) 1)

told_byte : (b : ℕ) → Byte b → (texts_of (λ n. n) b ≡ text_unit b * 128) × (text_unit b + pick (is_mark b) 1 0 ≤ 1)
unfolding told texts_of text_unit is_mark
told_byte b h =
    let p = at told 256 tt b h in
    let x = eqb (texts_of (λ n. n) b) (text_unit b * 128) in
    let y = leb (text_unit b + pick (is_mark b) 1 0) 1 in
    (eqb→eq _ _ (both_left x y p), leb→le _ _ (both_right x y p))

-- how many a list has at least
unfoldable pub texts_in : List ℕ → ℕ
texts_in [] = 0
texts_in (b ∷ l) = text_unit b + texts_in l

texts_few : {l : List ℕ} → Every Byte l → texts_in l + marks_in l ≤ length l
unfolding texts_in marks_in
texts_few none = omega arith
texts_few (one {a} {l} k r) = let h = texts_few r in let u = (told_byte a k).1 in omega arith

-- each byte of a word by itself
below : (b : ℕ) → Byte b → Byte (bit_xor (bit_or b 17) 59)
below b h = xor_lt 8 (bit_or b 17) 59 (or_lt 8 b 17 h (omega arith)) (omega arith)

above : (b : ℕ) → Byte b → Byte (bit_and (bit_xor (bit_or b 17) 59) 127 + 127)
above b h = let k = and_le_r (bit_xor (bit_or b 17) 59) 127 in omega arith

texts_bytes : {l : List ℕ} → Every Byte l → texts_of (λ m. word_by (λ _. m) l) (word_of l) ≡ word_by (texts_of (λ n. n)) l
unfolding texts_of
texts_bytes {l} r =
    rw (
      or_word (λ b. b) (λ _. 17) (λ b h. h) (λ b h. omega arith) r,
      xor_word (λ b. bit_or b 17) (λ _. 59) (λ b h. or_lt 8 b 17 h (omega arith)) (λ b h. omega arith) r,
      and_word (λ b. bit_xor (bit_or b 17) 59) (λ _. 127) below (λ b h. omega arith) r,
      add_word (λ b. bit_and (bit_xor (bit_or b 17) 59) 127) (λ _. 127) l,
      and_word (λ b. bit_and (bit_xor (bit_or b 17) 59) 127 + 127) (λ _. 128) above (λ b h. omega arith) r,
    )

times_word : (f : ℕ → ℕ) (l : List ℕ) → word_by (λ b. f b * 128) l ≡ word_by f l * 128
unfolding word_by
times_word f [] = refl
times_word f (b ∷ l) = let h = times_word f l in omega arith

-- a number of eight bytes, each at most n, of which the sum is t
pub record Bytes (n t x : ℕ) : Type 0 where
  pub a : ℕ
  pub b : ℕ
  pub c : ℕ
  pub d : ℕ
  pub e : ℕ
  pub f : ℕ
  pub g : ℕ
  pub h : ℕ
  pub is : x ≡ a + b * 256 + c * 65536 + d * 16777216 + (e + f * 256 + g * 65536 + h * 16777216) * 4294967296
  pub low : (a ≤ n) × (b ≤ n) × (c ≤ n) × (d ≤ n)
  pub high : (e ≤ n) × (f ≤ n) × (g ≤ n) × (h ≤ n)
  pub sum : a + b + c + d + (e + f + g + h) ≡ t

bytes_both : {n t x m u y : ℕ} → Bytes n t x → Bytes m u y → Bytes (n + m) (t + u) (x + y)
bytes_both p q =
    record {
      a = p.a + q.a;
      b = p.b + q.b;
      c = p.c + q.c;
      d = p.d + q.d;
      e = p.e + q.e;
      f = p.f + q.f;
      g = p.g + q.g;
      h = p.h + q.h;
      is = omega (arith, p.is, q.is);
      low = (omega (arith, p.low.0, q.low.0), omega (arith, p.low.1, q.low.1), omega (arith, p.low.2, q.low.2), omega (arith, p.low.3, q.low.3));
      high = (omega (arith, p.high.0, q.high.0), omega (arith, p.high.1, q.high.1), omega (arith, p.high.2, q.high.2), omega (arith, p.high.3, q.high.3));
      sum = omega (arith, p.sum, q.sum);
    }

-- they are added up in halves, then by one product, of which the fourth byte has them all
abbrev pub halves : ℕ → ℕ
halves x = (x + x / 4294967296) % 4294967296

halves_sum : (x l k : ℕ) → x ≡ l + k * 4294967296 → l + k < 4294967296 → halves x ≡ l + k
halves_sum x l k e h =
    let q : x / 4294967296 ≡ k = omega arith in
    rw q (omega arith)

fourth : (x u v w : ℕ) → x ≡ u * 4294967296 + v * 16777216 + w → v < 256 → w < 16777216 → x / 16777216 % 256 ≡ v
fourth x u v w e h k =
    let q : x / 16777216 ≡ u * 256 + v = omega arith in
    rw q (omega arith)

four_sum : (y a b c d : ℕ) → y ≡ a + b * 256 + c * 65536 + d * 16777216 → a ≤ 62 → b ≤ 62 → c ≤ 62 → d ≤ 62 → y * 16843009 / 16777216 % 256 ≡ a + b + c + d
four_sum y a b c d e ha hb hc hd =
    fourth (y * 16843009) (b + c + d + (c + d) * 256 + d * 65536) (a + b + c + d) (a + (a + b) * 256 + (a + b + c) * 65536) (omega arith) (omega arith) (omega arith)

bytes_sum : (n t x : ℕ) → Bytes n t x → n ≤ 31 → halves x * 16843009 / 16777216 % 256 ≡ t
bytes_sum n t x p h =
    let l = p.low in
    let k = p.high in
    let y = halves_sum x (p.a + p.b * 256 + p.c * 65536 + p.d * 16777216) (p.e + p.f * 256 + p.g * 65536 + p.h * 16777216) p.is
    (omega (arith, h, l.0, l.1, l.2, l.3, k.0, k.1, k.2, k.3)) in
    four_sum (halves x) (p.a + p.e) (p.b + p.f) (p.c + p.g) (p.d + p.h) (omega (arith, y))
    (omega (arith, h, l.0, k.0)) (omega (arith, h, l.1, k.1)) (omega (arith, h, l.2, k.2)) (omega (arith, h, l.3, k.3))
    ∙ omega (arith, p.sum)

unit_low : {b : ℕ} → Byte b → text_unit b ≤ 1
unit_low {b} k = omega (arith, (told_byte b k).1)

texts_eight : {a b c d e f g h : ℕ} → Every Byte (a ∷ b ∷ c ∷ d ∷ e ∷ f ∷ g ∷ h ∷ [])
    → Bytes 1 (texts_in (a ∷ b ∷ c ∷ d ∷ e ∷ f ∷ g ∷ h ∷ [])) (word_by text_unit (a ∷ b ∷ c ∷ d ∷ e ∷ f ∷ g ∷ h ∷ []))
unfolding word_by texts_in
texts_eight {a} {b} {c} {d} {e} {f} {g} {h} (one ka (one kb (one kc (one kd (one ke (one kf (one kg (one kh none)))))))) =
    record {
      a = text_unit a;
      b = text_unit b;
      c = text_unit c;
      d = text_unit d;
      e = text_unit e;
      f = text_unit f;
      g = text_unit g;
      h = text_unit h;
      is = omega arith;
      low = (unit_low ka, unit_low kb, unit_low kc, unit_low kd);
      high = (unit_low ke, unit_low kf, unit_low kg, unit_low kh);
      sum = omega arith;
    }

module _ (s : List ℕ) (i x : ℕ) (w : Word s i x) (y : ℕ) (e : y ≡ texts_of eight_times x) where
  pub texts_told : y ≡ word_by (texts_of (λ n. n)) (eight_at s i)
  unfolding word_by texts_of
  texts_told = e ∙ ap (texts_of eight_times) w.is ∙ texts_bytes w.bytes

  texts_word : y / 128 ≡ word_by text_unit (eight_at s i)
  texts_word =
      let a : y ≡ word_by text_unit (eight_at s i) * 128 =
      texts_told
      ∙ word_same (texts_of (λ n. n)) (λ b. text_unit b * 128) (λ b h. (told_byte b h).0) w.bytes
      ∙ times_word text_unit (eight_at s i) in
      omega arith

marks_joined : (l m : List ℕ) → marks_in (l ++ m) ≡ marks_in l + marks_in m
unfolding marks_in
marks_joined [] m = sym (zero-add (marks_in m))
marks_joined (b ∷ l) m = let h = marks_joined l m in omega arith

marks_eight : (s : List ℕ) (i : ℕ) → i + 8 ≤ length s → marks_in (drop i s) ≡ marks_in (eight_at s i) + marks_in (drop (i + 8) s)
marks_eight s i h = ap marks_in (drop_eight s i h) ∙ marks_joined (eight_at s i) (drop (i + 8) s)

-- of eight bytes from an index on as many are seen to be no marks as the bytes of x come to
pub record Seen (s : List ℕ) (i x : ℕ) : Type 0 where
  pub texts : ℕ
  pub bytes : Bytes 1 texts x
  pub others : texts + marks_in (drop i s) ≤ 8 + marks_in (drop (i + 8) s)

pub seen_eight : (s : List ℕ) (i x y : ℕ) → Word s i x → y ≡ texts_of eight_times x → i + 8 ≤ length s → Seen s i (y / 128)
seen_eight s i x y w e h =
    let f = texts_few w.bytes in
    let m = marks_eight s i h in
    record {
      texts = texts_in (eight_at s i);
      bytes = subst (Bytes 1 (texts_in (eight_at s i))) (sym (texts_word s i x w y e)) (texts_eight w.bytes);
      others = omega arith;
    }

-- and how many of twice eight
pub record SeenTwice (s : List ℕ) (i j r : ℕ) : Type 0 where
  pub first : ℕ
  pub second : ℕ
  pub is : r ≡ first + second
  pub few : r ≤ 255
  pub others : first + marks_in (drop i s) ≤ 8 + marks_in (drop (i + 8) s)
  pub second_others : second + marks_in (drop j s) ≤ 8 + marks_in (drop (j + 8) s)

pub seen_twice : (s : List ℕ) (i j x y : ℕ) → Seen s i x → Seen s j y → SeenTwice s i j (halves (x + y) * 16843009 / 16777216 % 256)
seen_twice s i j x y p q =
    record {
      first = p.texts;
      second = q.texts;
      is = bytes_sum 2 (p.texts + q.texts) (x + y) (bytes_both p.bytes q.bytes) (omega arith);
      few = omega arith;
      others = p.others;
      second_others = q.others;
    }

-- eight bytes hold at most eight marks
pub marks_most : (s : List ℕ) (i : ℕ) → i + 8 ≤ length s → marks_in (drop i s) ≤ 8 + marks_in (drop (i + 8) s)
marks_most s i h =
    let m = marks_eight s i h in
    let l = marks_length (eight_at s i) in
    omega arith

-- where enough of the first 32 bytes are none, there are at most 31 marks
module _ (p : List ℕ) (h : 32 ≤ length p) {r : ℕ} (a : SeenTwice p 0 16 r) where
  rest : marks_in (drop 24 p) ≤ length p - 24
  rest = let l = marks_length (drop 24 p) in let n = length-drop 24 p in omega arith

  pub two_few : length p - 31 ≤ r → marks_in p ≤ 31
  two_few k =
      let i = a.is in
      let o = a.others in
      let q = a.second_others in
      let m = marks_most p 8 (omega arith) in
      let l = rest in
      omega arith

  pub four_few : {t : ℕ} → SeenTwice p 8 24 t → length p - 31 ≤ r + t → marks_in p ≤ 31
  four_few b k =
      let i = a.is in
      let o = a.others in
      let q = a.second_others in
      let j = b.is in
      let u = b.others in
      let v = b.second_others in
      let l = marks_length (drop 32 p) in
      let n = length-drop 32 p in
      omega arith
