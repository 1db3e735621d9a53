-- A POP as most are written, `POP+273:first/last` and then a form of days or neither: what its bytes say is its period.
-- Assumes nothing.
use Rattle.std.specs.Prelude.{◌≡◌, Bool, true, ℕ, zero, suc, ◌+◌, ◌*◌, ◌≤◌, eqb, leb, length, Some, None, Option, Ok}
use Rattle.std.proofs.Math.Path.{refl, ap}
use Rattle.std.proofs.Common.{sym, subst, ◌∙◌, arith, le-leb, leb-true, eqb-true}
use mathlib.Core.List.{List, [], ◌∷◌, ◌++◌}
use Rattle.std.proofs.Math.ListN.{get_or, drop}
use Rattle.laws.specs.Choice.{both, all, both_parts, all_append, choose}
use Rattle.laws.specs.Lists.{drop_here}
use Rattle.laws.specs.Text.{bytes}
use Rattle.syntax.specs.Bytes.{plain, plain_on}
use Rattle.values.specs.Values.{same_text}
use Rattle.dates.specs.Text.{is_digit, two_digits, digits_at, date_at}
use Rattle.dates.specs.declared.Date.{Date}
use Rattle.calendar.specs.Written.{days_span, span_of}
use Rattle.free_texts.specs.Free.{numeric, plain_all, no_release}
use Rattle.free_texts.specs.Parts.{Cut, one_element, without_string}
use Rattle.period.specs.declared.Form.{Form}
use Rattle.period.specs.Period.{first_last, day_text, week_text, span_in, formed_of, rest_good, period_of, period_from}
use Rattle.period.specs.Tests.{two_dates, good_period_lem}
use Rattle.calendar.specs.declared.Span.{Span}

-- a POP cut into these parts is a good period where they are good
module _ (g d s w : List ℕ) (p : Cut g d s w) (pd : all numeric d ≡ true) (ps : all numeric s ≡ true) (pw : all numeric w ≡ true) where
  dates_plain : first_last g ≡ d
  dates_plain = ap plain p.dates_are ∙ plain_all d (no_release d pd)

  pub string_plain : day_text g ≡ s
  string_plain = ap plain p.string_is ∙ plain_all s (no_release s ps)

  pub weekdays_plain : week_text g ≡ w
  weekdays_plain = ap plain p.weekdays_are ∙ plain_all w (no_release w pw)

  rest_read : rest_good g ≡ true
  unfolding rest_good same_text plain_on
  rest_read =
      rw (p.first_once, p.second_once)
      (ap (λ (x : List ℕ). both (same_text (plain x) (bytes "273")) true) p.qualifier_is)

  pub cut_good : (wish : Bool) {f n : ℕ} {form : Form} → span_in d ≡ Some (span_of f n) → formed_of wish n s w ≡ Ok form → period_from f n form ≡ period_of wish g
  cut_good wish {f} {n} {form} a b =
      good_period_lem wish g (ap span_in dates_plain ∙ a)
      (ap (λ (x : List ℕ). formed_of wish n x (week_text g)) string_plain ∙ ap (formed_of wish n s) weekdays_plain ∙ b)
      rest_read

-- the n elements from index k on, where there are so many
firsts : List ℕ → ℕ → ℕ → List ℕ
firsts g k zero = []
firsts g k (suc n) = get_or g k 0 ∷ firsts g (k + 1) n

length_firsts : (g : List ℕ) (n k : ℕ) → length (firsts g k n) ≡ n
unfolding firsts
length_firsts g zero k = refl
length_firsts g (suc n) k = ap suc (length_firsts g n (k + 1))

drop_firsts : (g : List ℕ) (n k : ℕ) → k + n ≤ length g → drop k g ≡ firsts g k n ++ drop (k + n) g
unfolding firsts
drop_firsts g zero k h = let e : k + 0 ≡ k = omega arith in rw e
drop_firsts g (suc n) k h =
    let e : k + suc n ≡ k + 1 + n = omega arith in
    rw e (drop_here g k (omega arith) ∙ ap (λ (x : List ℕ). get_or g k 0 ∷ x) (drop_firsts g n (k + 1) (omega arith)))

-- the bytes of a date are digits and hyphens
digit_numeric : (b : ℕ) → is_digit b ≡ true → numeric b ≡ true
digit_numeric b p =
    let u = both_parts (leb 48 b) (leb b 57) p in
    let l = leb-true 48 b u.0 in
    rw (le-leb 45 b (omega arith), u.1)

hyphen_numeric : (b : ℕ) → eqb b 45 ≡ true → numeric b ≡ true
hyphen_numeric b p = rw (eqb-true b 45 p)

pair_numeric : (t o : ℕ) → both (is_digit t) (is_digit o) ≡ true → (numeric t ≡ true) × (numeric o ≡ true)
pair_numeric t o p = let u = both_parts (is_digit t) (is_digit o) p in (digit_numeric t u.0, digit_numeric o u.1)

no_date : {a : Date} → None ≡ Some a → ⊥
no_date e = let z : ◌≡◌ {A = ℕ} 0 1 = cc in omega arith

module _ (y₀ y₁ y₂ y₃ y₄ y₅ y₆ y₇ y₈ y₉ : ℕ) where
  date_numeric : {a : Date} → date_at (y₀ ∷ y₁ ∷ y₂ ∷ y₃ ∷ y₄ ∷ y₅ ∷ y₆ ∷ y₇ ∷ y₈ ∷ y₉ ∷ []) 0 ≡ Some a
      → all numeric (y₀ ∷ y₁ ∷ y₂ ∷ y₃ ∷ y₄ ∷ y₅ ∷ y₆ ∷ y₇ ∷ y₈ ∷ y₉ ∷ []) ≡ true
  unfolding date_at digits_at two_digits
  date_numeric e =
      choose (both (eqb y₄ 45) (eqb y₇ 45)) (λ h.
      choose (both (is_digit y₀) (is_digit y₁)) (λ c.
      choose (both (is_digit y₂) (is_digit y₃)) (λ y.
      choose (both (is_digit y₅) (is_digit y₆)) (λ m.
      choose (both (is_digit y₈) (is_digit y₉)) (λ d.
      let u = both_parts (eqb y₄ 45) (eqb y₇ 45) h in
      let v = pair_numeric y₀ y₁ c in
      let w = pair_numeric y₂ y₃ y in
      let x = pair_numeric y₅ y₆ m in
      let z = pair_numeric y₈ y₉ d in
      rw (v.0, v.1, w.0, w.1, hyphen_numeric y₄ u.0, x.0, x.1, hyphen_numeric y₇ u.1, z.0, z.1))
      (λ n. absurd (no_date (rw (h, c, y, m, n) at e))))
      (λ n. absurd (no_date (rw (h, c, y, n) at e))))
      (λ n. absurd (no_date (rw (h, c, n) at e))))
      (λ n. absurd (no_date (rw (h, n) at e))))
      (λ n. absurd (no_date (rw n at e)))

-- a POP that begins `POP+273:first/last`, with dates that give a period
pub record Begins (g : List ℕ) (f n : ℕ) : Type 0 where
  pub dates : List ℕ
  pub counted : length dates ≡ 21
  pub split : g ≡ one_element (without_string (dates ++ drop 29 g))
  pub numerics : all numeric dates ≡ true
  pub span : span_in dates ≡ Some (span_of f n)

-- days that were found are those of such a POP; where none were found nothing is said
abbrev pub span_told : List ℕ → Option Span → Type 0
span_told g (Some s) = Begins g s.first s.count
span_told g None = Unit

pub span_known : (g : List ℕ) {r : Option Span} {f n : ℕ} → span_told g r → r ≡ Some (span_of f n) → Begins g f n
span_known g t e = subst (span_told g) e t

pub record Same (a b c d x y z w : ℕ) : Type 0 where
  pub one : a ≡ x
  pub two : b ≡ y
  pub three : c ≡ z
  pub four : d ≡ w

-- four bytes as one number
pub record Word (r a b c d : ℕ) : Type 0 where
  pub is : r ≡ a + b * 256 + c * 65536 + d * 16777216
  pub first_byte : a ≤ 255
  pub second_byte : b ≤ 255
  pub third_byte : c ≤ 255
  pub fourth_byte : d ≤ 255

pub word_same : {r t a b c d x y z w : ℕ} → Word r a b c d → Word t x y z w → r ≡ t → Same a b c d x y z w
word_same {r} {t} {a} {b} {c} {d} {x} {y} {z} {w} p q e =
    let k = p.is in
    let l = q.is in
    let a₁ = p.first_byte in
    let b₁ = p.second_byte in
    let c₁ = p.third_byte in
    let d₁ = p.fourth_byte in
    let x₁ = q.first_byte in
    let y₁ = q.second_byte in
    let z₁ = q.third_byte in
    let w₁ = q.fourth_byte in
    let four : d ≡ w = omega arith in
    let three : c ≡ z = omega arith in
    let two : b ≡ y = omega arith in
    record { one = omega arith; two = two; three = three; four = four }

four_same : {a b c d x y z w : ℕ} → Same a b c d x y z w → (l : List ℕ) → a ∷ b ∷ c ∷ d ∷ l ≡ x ∷ y ∷ z ∷ w ∷ l
four_same s l = rw (s.one, s.two, s.three, s.four)

module _ (g : List ℕ) (h : 29 ≤ length g) {a b : Date} (p : date_at g 8 ≡ Some a) (q : date_at g 19 ≡ Some b) (stroke : get_or g 18 0 ≡ 47) where
  abbrev ds : List ℕ
  ds = firsts g 8 21

  first_numeric : all numeric (firsts g 8 10) ≡ true
  unfolding firsts date_at digits_at
  first_numeric = date_numeric (get_or g 8 0) (get_or g 9 0) (get_or g 10 0) (get_or g 11 0) (get_or g 12 0) (get_or g 13 0) (get_or g 14 0) (get_or g 15 0) (get_or g 16 0) (get_or g 17 0) (rw (le-leb 18 (length g) (omega arith)) at p)

  last_numeric : all numeric (firsts g 19 10) ≡ true
  unfolding firsts date_at digits_at
  last_numeric = date_numeric (get_or g 19 0) (get_or g 20 0) (get_or g 21 0) (get_or g 22 0) (get_or g 23 0) (get_or g 24 0) (get_or g 25 0) (get_or g 26 0) (get_or g 27 0) (get_or g 28 0) (rw (le-leb 29 (length g) (omega arith)) at q)

  dates_numeric : all numeric (firsts g 8 21) ≡ true
  unfolding firsts
  dates_numeric = all_append numeric (firsts g 8 10) (firsts g 18 11) first_numeric (all_append numeric (get_or g 18 0 ∷ []) (firsts g 19 10) (rw stroke) last_numeric)

  dates_span : days_span a b ≡ span_in (firsts g 8 21)
  unfolding firsts date_at digits_at
  dates_span = two_dates (firsts g 8 21) refl stroke (rw (le-leb 18 (length g) (omega arith)) at p) (rw (le-leb 29 (length g) (omega arith)) at q)

  module _ (s : Same (get_or g 0 0) (get_or g 1 0) (get_or g 2 0) (get_or g 3 0) 80 79 80 43) (t : Same (get_or g 4 0) (get_or g 5 0) (get_or g 6 0) (get_or g 7 0) 50 55 51 58) where
    begins_split : g ≡ one_element (without_string (firsts g 8 21 ++ drop 29 g))
    unfolding firsts
    begins_split =
        drop_firsts g 8 0 (omega arith)
        ∙ four_same s (get_or g 4 0 ∷ get_or g 5 0 ∷ get_or g 6 0 ∷ get_or g 7 0 ∷ drop 8 g)
        ∙ ap one_element (four_same t (drop 8 g))
        ∙ ap (λ (x : List ℕ). one_element (without_string x)) (drop_firsts g 21 8 (omega arith))

    pub begins_told : (r : Option Span) → r ≡ days_span a b → span_told g r
    begins_told None e = tt
    begins_told (Some r) e =
        record { dates = firsts g 8 21; counted = length_firsts g 21 8; split = begins_split; numerics = dates_numeric; span = sym (e ∙ dates_span) }
