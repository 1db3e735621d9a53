-- The two dates of a POP as most are written, eight characters at a time: a byte is a digit or the mark that stands in a pattern where it
-- differs from the pattern's byte by so little that no highest bit is set.
-- Assumes nothing.
use Rattle.std.specs.Prelude.{◌≡◌, refl, Bool, true, false, List, [], ◌∷◌, ℕ, ◌+◌, ◌-◌, ◌*◌, ◌≤◌, ◌<◌, leb, length, get_or, Option, Some, None}
use Rattle.std.proofs.Common.{sym, ap₂, ◌∙◌, arith}
use Rattle.std.proofs.Math.Path.{ap}
use Rattle.std.specs.Int.Bits.{bit_or}
use Rattle.std.proofs.Math.Dec.{eqb}
use borrow.Author.Tests.{le-leb, eq-eqb, eqb-true, leb-true}
use Rattle.laws.specs.Choice.{pick, both, both_parts}
use Rattle.laws.specs.Sweep.{agree}
use Rattle.laws.specs.Words.{word_by, Every, none, one, Byte, is_zero, zero_word, or_zero}
use Rattle.raw_bytes.specs.Eights.{Eights}
use Rattle.raw_bytes.specs.Differing.{high_of, differs_of, high_words}
use Rattle.dates.specs.Days.{is_date, day_number}
use Rattle.dates.specs.Dates.{date, made_of, day_of, valid, number}
use Rattle.dates.specs.Text.{is_digit, two_digits, digits_at, date_at}
use Rattle.dates.specs.declared.Date.{Date}

-- a byte with that of a pattern, and what may be added to their difference before its highest bit is set
record Wanted : Type 0 where
  pub byte : ℕ
  pub pattern : ℕ
  pub room : ℕ

abbrev Fits : Wanted → Type 0
Fits a = Byte a.byte × Byte a.pattern × (a.room < 128)

abbrev high : Wanted → ℕ
high a = high_of a.byte a.pattern a.room 127 128

wanted_words : {l : List Wanted} → Every Fits l
    → high_of (word_by (λ a. a.byte) l) (word_by (λ a. a.pattern) l) (word_by (λ a. a.room) l) (word_by (λ _. 127) l) (word_by (λ _. 128) l) ≡ word_by high l
wanted_words r = high_words (λ a. a.byte) (λ a. a.pattern) (λ a. a.room) (λ a h. h.0) (λ a h. h.1) (λ a h. h.2) r

-- a byte that does not differ too much from `0` is a digit, and one that does not differ from a mark is the mark
abbrev digit : ℕ → Wanted
digit b = record { byte = b; pattern = 48; room = 118 }

abbrev mark : ℕ → ℕ → Wanted
mark m b = record { byte = b; pattern = m; room = 127 }

digit_fits : {b : ℕ} → Byte b → Fits (digit b)
digit_fits h = (h, omega arith, omega arith)

hyphen_fits : {b : ℕ} → Byte b → Fits (mark 45 b)
hyphen_fits h = (h, omega arith, omega arith)

stroke_fits : {b : ℕ} → Byte b → Fits (mark 47 b)
stroke_fits h = (h, omega arith, omega arith)

is_digit_lem : (b : ℕ) → b < 256 → is_zero (high (digit b)) ≡ is_digit b
is_digit_lem b h = agree (λ b. is_zero (high (digit b))) is_digit 256 tt b h

is_hyphen : (b : ℕ) → b < 256 → is_zero (high (mark 45 b)) ≡ eqb b 45
is_hyphen b h = agree (λ b. is_zero (high (mark 45 b))) (λ b. eqb b 45) 256 tt b h

is_stroke : (b : ℕ) → b < 256 → is_zero (high (mark 47 b)) ≡ eqb b 47
is_stroke b h = agree (λ b. is_zero (high (mark 47 b))) (λ b. eqb b 47) 256 tt b h

module _ (g : List ℕ) where
  abbrev first : List Wanted
  first = digit (get_or g 8 0) ∷ digit (get_or g 9 0) ∷ digit (get_or g 10 0) ∷ digit (get_or g 11 0) ∷ mark 45 (get_or g 12 0) ∷ digit (get_or g 13 0) ∷ digit (get_or g 14 0) ∷ mark 45 (get_or g 15 0) ∷ []

  pub first_is : {w : ℕ} → Eights g 8 w → eqb (differs_of w 3256155501228994608 9184658779889104502) 0 ≡ both (is_digit (get_or g 8 0)) (both (is_digit (get_or g 9 0)) (both (is_digit (get_or g 10 0)) (both (is_digit (get_or g 11 0)) (both (eqb (get_or g 12 0) 45) (both (is_digit (get_or g 13 0)) (both (is_digit (get_or g 14 0)) (both (eqb (get_or g 15 0) 45) (true))))))))
  unfolding differs_of word_by
  first_is {w} e =
      ap (λ (y : ℕ). eqb (high_of y 3256155501228994608 9184658779889104502 9187201950435737471 9259542123273814144) 0) e.is
      ∙ ap is_zero (wanted_words (one (digit_fits e.byte₀) (one (digit_fits e.byte₁) (one (digit_fits e.byte₂) (one (digit_fits e.byte₃) (one (hyphen_fits e.byte₄) (one (digit_fits e.byte₅) (one (digit_fits e.byte₆) (one (hyphen_fits e.byte₇) none))))))))) ∙ zero_word high first
      ∙ rw (is_digit_lem (get_or g 8 0) e.byte₀, is_digit_lem (get_or g 9 0) e.byte₁, is_digit_lem (get_or g 10 0) e.byte₂, is_digit_lem (get_or g 11 0) e.byte₃, is_hyphen (get_or g 12 0) e.byte₄, is_digit_lem (get_or g 13 0) e.byte₅, is_digit_lem (get_or g 14 0) e.byte₆, is_hyphen (get_or g 15 0) e.byte₇)

  abbrev middle : List Wanted
  middle = digit (get_or g 16 0) ∷ digit (get_or g 17 0) ∷ mark 47 (get_or g 18 0) ∷ digit (get_or g 19 0) ∷ digit (get_or g 20 0) ∷ digit (get_or g 21 0) ∷ digit (get_or g 22 0) ∷ mark 45 (get_or g 23 0) ∷ []

  pub middle_is : {w : ℕ} → Eights g 16 w → eqb (differs_of w 3256155514113830960 9184658741234988662) 0 ≡ both (is_digit (get_or g 16 0)) (both (is_digit (get_or g 17 0)) (both (eqb (get_or g 18 0) 47) (both (is_digit (get_or g 19 0)) (both (is_digit (get_or g 20 0)) (both (is_digit (get_or g 21 0)) (both (is_digit (get_or g 22 0)) (both (eqb (get_or g 23 0) 45) (true))))))))
  unfolding differs_of word_by
  middle_is {w} e =
      ap (λ (y : ℕ). eqb (high_of y 3256155514113830960 9184658741234988662 9187201950435737471 9259542123273814144) 0) e.is
      ∙ ap is_zero (wanted_words (one (digit_fits e.byte₀) (one (digit_fits e.byte₁) (one (stroke_fits e.byte₂) (one (digit_fits e.byte₃) (one (digit_fits e.byte₄) (one (digit_fits e.byte₅) (one (digit_fits e.byte₆) (one (hyphen_fits e.byte₇) none))))))))) ∙ zero_word high middle
      ∙ rw (is_digit_lem (get_or g 16 0) e.byte₀, is_digit_lem (get_or g 17 0) e.byte₁, is_stroke (get_or g 18 0) e.byte₂, is_digit_lem (get_or g 19 0) e.byte₃, is_digit_lem (get_or g 20 0) e.byte₄, is_digit_lem (get_or g 21 0) e.byte₅, is_digit_lem (get_or g 22 0) e.byte₆, is_hyphen (get_or g 23 0) e.byte₇)

  abbrev last : List Wanted
  last = digit (get_or g 21 0) ∷ digit (get_or g 22 0) ∷ mark 45 (get_or g 23 0) ∷ digit (get_or g 24 0) ∷ digit (get_or g 25 0) ∷ mark 45 (get_or g 26 0) ∷ digit (get_or g 27 0) ∷ digit (get_or g 28 0) ∷ []

  pub last_is : {w : ℕ} → Eights g 21 w → eqb (differs_of w 3472324997692600368 8536150290498287222) 0 ≡ both (is_digit (get_or g 21 0)) (both (is_digit (get_or g 22 0)) (both (eqb (get_or g 23 0) 45) (both (is_digit (get_or g 24 0)) (both (is_digit (get_or g 25 0)) (both (eqb (get_or g 26 0) 45) (both (is_digit (get_or g 27 0)) (both (is_digit (get_or g 28 0)) (true))))))))
  unfolding differs_of word_by
  last_is {w} e =
      ap (λ (y : ℕ). eqb (high_of y 3472324997692600368 8536150290498287222 9187201950435737471 9259542123273814144) 0) e.is
      ∙ ap is_zero (wanted_words (one (digit_fits e.byte₀) (one (digit_fits e.byte₁) (one (hyphen_fits e.byte₂) (one (digit_fits e.byte₃) (one (digit_fits e.byte₄) (one (hyphen_fits e.byte₅) (one (digit_fits e.byte₆) (one (digit_fits e.byte₇) none))))))))) ∙ zero_word high last
      ∙ rw (is_digit_lem (get_or g 21 0) e.byte₀, is_digit_lem (get_or g 22 0) e.byte₁, is_hyphen (get_or g 23 0) e.byte₂, is_digit_lem (get_or g 24 0) e.byte₃, is_digit_lem (get_or g 25 0) e.byte₄, is_hyphen (get_or g 26 0) e.byte₅, is_digit_lem (get_or g 27 0) e.byte₆, is_digit_lem (get_or g 28 0) e.byte₇)

-- ---- what then is known

pub record Pair (s : List ℕ) (i : ℕ) : Type 0 where
  pub inside : i + 2 ≤ length s
  pub tens_least : 48 ≤ get_or s i 0
  pub tens_most : get_or s i 0 ≤ 57
  pub ones_least : 48 ≤ get_or s (i + 1) 0
  pub ones_most : get_or s (i + 1) 0 ≤ 57

-- ten bytes that are written as a date is
pub record DateAt (s : List ℕ) (at : ℕ) : Type 0 where
  pub inside : at + 10 ≤ length s
  pub century : Pair s at
  pub year : Pair s (at + 2)
  pub hyphen : get_or s (at + 4) 0 ≡ 45
  pub month : Pair s (at + 5)
  pub second_hyphen : get_or s (at + 7) 0 ≡ 45
  pub day : Pair s (at + 8)

pub record DatesIn (g : List ℕ) : Type 0 where
  pub first : DateAt g 8
  pub stroke : get_or g 18 0 ≡ 47
  pub last : DateAt g 19

abbrev pub pair_in : List ℕ → ℕ → ℕ
pair_in s i = (get_or s i 0 - 48) * 10 + (get_or s (i + 1) 0 - 48)

unfoldable pub day_in : List ℕ → ℕ → Option ℕ
day_in s at = day_of (pair_in s at * 100 + pair_in s (at + 2)) (pair_in s (at + 5)) (pair_in s (at + 8))

pair_of : (s : List ℕ) (i : ℕ) → i + 2 ≤ length s → is_digit (get_or s i 0) ≡ true → is_digit (get_or s (i + 1) 0) ≡ true → Pair s i
pair_of s i h p q =
    let u = both_parts (leb 48 (get_or s i 0)) (leb (get_or s i 0) 57) p in
    let v = both_parts (leb 48 (get_or s (i + 1) 0)) (leb (get_or s (i + 1) 0) 57) q in
    record {
      inside = h;
      tens_least = leb-true 48 (get_or s i 0) u.0;
      tens_most = leb-true (get_or s i 0) 57 u.1;
      ones_least = leb-true 48 (get_or s (i + 1) 0) v.0;
      ones_most = leb-true (get_or s (i + 1) 0) 57 v.1;
    }

eight_parts : (a b c d e f g h : Bool) → both a (both b (both c (both d (both e (both f (both g (both h true))))))) ≡ true
    → (a ≡ true) × (b ≡ true) × (c ≡ true) × (d ≡ true) × (e ≡ true) × (f ≡ true) × (g ≡ true) × (h ≡ true)
eight_parts a b c d e f g h k =
    let k₁ = both_parts a (both b (both c (both d (both e (both f (both g (both h true))))))) k in
    let k₂ = both_parts b (both c (both d (both e (both f (both g (both h true)))))) k₁.1 in
    let k₃ = both_parts c (both d (both e (both f (both g (both h true))))) k₂.1 in
    let k₄ = both_parts d (both e (both f (both g (both h true)))) k₃.1 in
    let k₅ = both_parts e (both f (both g (both h true))) k₄.1 in
    let k₆ = both_parts f (both g (both h true)) k₅.1 in
    let k₇ = both_parts g (both h true) k₆.1 in
    let k₈ = both_parts h true k₇.1 in
    (k₁.0, k₂.0, k₃.0, k₄.0, k₅.0, k₆.0, k₇.0, k₈.0)

module _ (g : List ℕ) {a b c : ℕ} (p : Eights g 8 a) (q : Eights g 16 b) (r : Eights g 21 c) where
  abbrev gathered : ℕ
  gathered = bit_or (bit_or (differs_of a 3256155501228994608 9184658779889104502) (differs_of b 3256155514113830960 9184658741234988662)) (differs_of c 3472324997692600368 8536150290498287222)

  pub dates_in : bit_or (bit_or (differs_of a 3256155501228994608 9184658779889104502) (differs_of b 3256155514113830960 9184658741234988662)) (differs_of c 3472324997692600368 8536150290498287222) ≡ 0 → DatesIn g
  dates_in e =
      let n = r.inside in
      let k = both_parts (both (eqb (differs_of a 3256155501228994608 9184658779889104502) 0) (eqb (differs_of b 3256155514113830960 9184658741234988662) 0)) (eqb (differs_of c 3472324997692600368 8536150290498287222) 0)
      (ap (λ (x : Bool). both x (eqb (differs_of c 3472324997692600368 8536150290498287222) 0)) (sym (or_zero (differs_of a 3256155501228994608 9184658779889104502) (differs_of b 3256155514113830960 9184658741234988662))) ∙ sym (or_zero (bit_or (differs_of a 3256155501228994608 9184658779889104502) (differs_of b 3256155514113830960 9184658741234988662)) (differs_of c 3472324997692600368 8536150290498287222)) ∙ eq-eqb gathered 0 e) in
      let j = both_parts (eqb (differs_of a 3256155501228994608 9184658779889104502) 0) (eqb (differs_of b 3256155514113830960 9184658741234988662) 0) k.0 in
      let u = eight_parts (is_digit (get_or g 8 0)) (is_digit (get_or g 9 0)) (is_digit (get_or g 10 0)) (is_digit (get_or g 11 0)) (eqb (get_or g 12 0) 45) (is_digit (get_or g 13 0)) (is_digit (get_or g 14 0)) (eqb (get_or g 15 0) 45) (sym (first_is g p) ∙ j.0) in
      let v = eight_parts (is_digit (get_or g 16 0)) (is_digit (get_or g 17 0)) (eqb (get_or g 18 0) 47) (is_digit (get_or g 19 0)) (is_digit (get_or g 20 0)) (is_digit (get_or g 21 0)) (is_digit (get_or g 22 0)) (eqb (get_or g 23 0) 45) (sym (middle_is g q) ∙ j.1) in
      let w = eight_parts (is_digit (get_or g 21 0)) (is_digit (get_or g 22 0)) (eqb (get_or g 23 0) 45) (is_digit (get_or g 24 0)) (is_digit (get_or g 25 0)) (eqb (get_or g 26 0) 45) (is_digit (get_or g 27 0)) (is_digit (get_or g 28 0)) (sym (last_is g r) ∙ k.1) in
      record {
        first = record {
          inside = omega arith;
          century = pair_of g 8 (omega arith) u.0 u.1;
          year = pair_of g 10 (omega arith) u.2 u.3;
          hyphen = eqb-true (get_or g 12 0) 45 u.4;
          month = pair_of g 13 (omega arith) u.5 u.6;
          second_hyphen = eqb-true (get_or g 15 0) 45 u.7;
          day = pair_of g 16 (omega arith) v.0 v.1;
        };
        stroke = eqb-true (get_or g 18 0) 47 v.2;
        last = record {
          inside = omega arith;
          century = pair_of g 19 (omega arith) v.3 v.4;
          year = pair_of g 21 (omega arith) w.0 w.1;
          hyphen = eqb-true (get_or g 23 0) 45 w.2;
          month = pair_of g 24 (omega arith) w.3 w.4;
          second_hyphen = eqb-true (get_or g 26 0) 45 w.5;
          day = pair_of g 27 (omega arith) w.6 w.7;
        };
      }

  pub dates_told : {k m n : ℕ} → k ≡ differs_of a 3256155501228994608 9184658779889104502 → m ≡ differs_of b 3256155514113830960 9184658741234988662 → n ≡ differs_of c 3472324997692600368 8536150290498287222 → eqb (bit_or (bit_or k m) n) 0 ≡ true → DatesIn g
  dates_told {k} {m} {n} ek em en e =
      dates_in (sym (ap₂ (λ (x y : ℕ). bit_or (bit_or x y) n) ek em ∙ ap (bit_or (bit_or (differs_of a 3256155501228994608 9184658779889104502) (differs_of b 3256155514113830960 9184658741234988662))) en) ∙ eqb-true (bit_or (bit_or k m) n) 0 e)

-- a date that is written so is the one that its digits make
pair_digits : (s : List ℕ) (i : ℕ) → Pair s i → both (is_digit (get_or s i 0)) (is_digit (get_or s (i + 1) 0)) ≡ true
pair_digits s i p =
    rw (le-leb 48 (get_or s i 0) p.tens_least, le-leb (get_or s i 0) 57 p.tens_most, le-leb 48 (get_or s (i + 1) 0) p.ones_least, le-leb (get_or s (i + 1) 0) 57 p.ones_most)

pub record Known (s : List ℕ) (at n : ℕ) : Type 0 where
  pub date : Date
  pub read : date_at s at ≡ Some date
  pub told : (valid date ≡ true) × (number date ≡ n)

known : (p : Bool) (k : ℕ) {n : ℕ} → pick p (Some k) None ≡ Some n → (p ≡ true) × (k ≡ n)
known true k e = (refl, cc)
known false k e = let z : ◌≡◌ {A = ℕ} 0 1 = cc in absurd (omega arith)

module _ (s : List ℕ) (at : ℕ) (h : DateAt s at) where
  abbrev y : ℕ
  y = pair_in s at * 100 + pair_in s (at + 2)

  date_made : date_at s at ≡ made_of y (pair_in s (at + 5)) (pair_in s (at + 8))
  unfolding date_at digits_at two_digits
  date_made =
      rw (
        le-leb (at + 10) (length s) h.inside,
        eq-eqb (get_or s (at + 4) 0) 45 h.hyphen,
        eq-eqb (get_or s (at + 7) 0) 45 h.second_hyphen,
        pair_digits s at h.century,
        pair_digits s (at + 2) h.year,
        pair_digits s (at + 5) h.month,
        pair_digits s (at + 8) h.day,
      )

  pub day_known : {n : ℕ} → day_in s at ≡ Some n → Known s at n
  unfolding day_in day_of made_of
  day_known e =
      let k = known (is_date y (pair_in s (at + 5)) (pair_in s (at + 8))) (day_number y (pair_in s (at + 5)) (pair_in s (at + 8))) e in
      record { date = date y (pair_in s (at + 5)) (pair_in s (at + 8)); read = date_made ∙ rw k.0; told = k }

pub day_in_lem : (s : List ℕ) (at : ℕ) {c y m d : ℕ} → c ≡ pair_in s at → y ≡ pair_in s (at + 2) → m ≡ pair_in s (at + 5) → d ≡ pair_in s (at + 8) → day_of (c * 100 + y) m d ≡ day_in s at
unfolding day_in
day_in_lem s at a b e f = rw (a, b, e, f)
