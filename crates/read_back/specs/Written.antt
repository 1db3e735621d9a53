-- What is written reads back: the dates and days of a day string, in full or short, are those of the calendar.
-- Assumes nothing.
use Rattle.std.specs.Prelude.{◌≡◌, Bool, true, false, not, ℕ, zero, suc, ◌+◌, ◌/◌, ◌%◌, ◌≤◌, ◌<◌, length, get_or, take, drop, Ok}
use Rattle.std.proofs.Math.Path.{refl, sym, ap}
use Rattle.std.proofs.Common.{◌∙◌, arith}
use mathlib.Core.List.{List, [], ◌∷◌, ◌++◌, append_assoc}
use Rattle.std.proofs.Math.Decide.{dec_lt}
use Rattle.std.proofs.Math.Dec.{eqb}
use Rattle.std.proofs.Math.ListN.{get_or-eq_default}
use borrow.Author.Tests.{le-leb, lt-ltb}
use Rattle.laws.specs.Choice.{pick, both, either, all, both_false, all_append}
use Rattle.syntax.specs.Segment.{body_at, segment_at}
use Rattle.parts.specs.Places.{present}
use Rattle.dates.specs.Dates.{number}
use Rattle.laws.specs.Decimal.{digit}
use Rattle.dates.specs.Text.{date_text}
use Rattle.dates.specs.Again.{read_text}
use Rattle.dates.specs.declared.Date.{Date}
use Rattle.calendar.specs.Days.{day}
use Rattle.calendar.specs.Steps.{length_characters, character_at}
use Rattle.calendar.specs.Good.{GoodCalendar, good_facts}
use Rattle.calendar.specs.Written.{day_count, good_period, days_span, good_calendar, start, day_character, day_characters, character_count, day_string_text, string_text}
use Rattle.calendar.specs.Short.{Counted, counted}
use Rattle.period.specs.Period.{zero_or_one, day_string, fits_days, rising_days, form_of, formed_of, period_of, runs_by, runs_in, runs, period_from}
use Rattle.period.specs.Tests.{two_dates}
use Rattle.period.specs.Written.{string_plain, cut_good}
use Rattle.period.specs.declared.Form.{Form}
use Rattle.period.specs.declared.Form.TheVariants.{Every, ByString}
use Rattle.free_texts.specs.Free.{numeric}
use Rattle.free_texts.specs.Parts.{one_element, with_string}
use Rattle.free_texts.specs.Whole.{Parts, string_parts, stands_alone}

-- the bytes of the parts
all_cons : (f : ℕ → Bool) (b : ℕ) (l : List ℕ) → f b ≡ true → all f l ≡ true → all f (b ∷ l) ≡ true
all_cons f b l p q = rw (p, q)

numeric_digit : (n : ℕ) → numeric (digit n) ≡ true
numeric_digit n = rw (le-leb 45 (48 + n % 10) (omega arith), le-leb (48 + n % 10) 57 (omega arith))

numeric_date : (a : Date) → all numeric (date_text a) ≡ true
unfolding date_text
numeric_date a =
    rw (numeric_digit (a.year / 1000), numeric_digit (a.year / 100), numeric_digit (a.year / 10), numeric_digit a.year, numeric_digit (a.month / 10), numeric_digit a.month, numeric_digit (a.day / 10), numeric_digit a.day)

-- first/last
abbrev pub dates : Date → Date → List ℕ
dates first last = date_text first ++ (47 ∷ []) ++ date_text last

pub numeric_dates : (a b : Date) → all numeric (dates a b) ≡ true
unfolding date_text
numeric_dates a b = all_append numeric (date_text a) ((47 ∷ []) ++ date_text b) (numeric_date a) (all_append numeric (47 ∷ []) (date_text b) refl (numeric_date b))

pub length_dates : (a b : Date) → length (dates a b) ≡ 21
unfolding date_text
length_dates a b = refl

stroke_in : (a b : Date) → get_or (dates a b) 10 0 ≡ 47
unfolding date_text
stroke_in a b = refl

first_in_lem : (a b : Date) → take 10 (drop 0 (dates a b)) ≡ date_text a
unfolding date_text
first_in_lem a b = refl

last_in_lem : (a b : Date) → take 10 (drop 11 (dates a b)) ≡ date_text b
unfolding date_text
last_in_lem a b = refl

-- the span is the calendar's
module _ (c : List ℕ) (a b : Date) (good : GoodCalendar c a b) where
  good_span : good_period a b ≡ true
  unfolding good_period
  good_span = rw (good.first_date, good.last_date, le-leb (number a) (number b) good.in_order, le-leb (day_count a b) 512 good.not_long)

  -- a POP whose parts are these dates and a form that is told is a good period
  module _ (g s w : List ℕ) (p : Parts g (dates a b) s w) (ns : all numeric s ≡ true) (nw : all numeric w ≡ true) where
    pub period_read : (wish : Bool) → fits_days (day_count a b) s ≡ true → rising_days 48 w ≡ true → both (present s) (present w) ≡ false
        → both (not (present s)) (not (present w)) ≡ false → period_of wish g ≡ period_from (number a) (day_count a b) (form_of s w)
    unfolding days_span formed_of
    period_read wish f r n l =
        sym (cut_good g (dates a b) s w p.cut (numeric_dates a b) ns nw wish
        (sym (two_dates (dates a b) (length_dates a b) (stroke_in a b) (read_text a good.first_date (dates a b) 0 (first_in_lem a b)) (read_text b good.last_date (dates a b) 11 (last_in_lem a b))) ∙ rw good_span)
        (rw (f, r, n, l, both_false (not wish))))

-- the day string
numeric_characters : (c : List ℕ) (k n : ℕ) → all numeric (day_characters c k n) ≡ true
unfolding day_characters day_character
numeric_characters c k zero = refl
numeric_characters c k (suc n) = all_cons numeric (pick (day c k) 49 48) (day_characters c (k + 1) n) (one (day c k)) (numeric_characters c (k + 1) n)
  where
    one : (d : Bool) → numeric (pick d 49 48) ≡ true
    one true = refl
    one false = refl

zeros_and_ones : (c : List ℕ) (k n : ℕ) → all zero_or_one (day_characters c k n) ≡ true
unfolding day_characters day_character
zeros_and_ones c k zero = refl
zeros_and_ones c k (suc n) = all_cons zero_or_one (pick (day c k) 49 48) (day_characters c (k + 1) n) (one (day c k)) (zeros_and_ones c (k + 1) n)
  where
    one : (d : Bool) → zero_or_one (pick d 49 48) ≡ true
    one true = refl
    one false = refl

some_characters : (c : List ℕ) (n : ℕ) → 1 ≤ n → present (day_characters c 0 n) ≡ true
unfolding day_characters
some_characters c zero h = absurd (omega arith)
some_characters c (suc n) h = refl

string_fits : (c : List ℕ) (n m : ℕ) → m ≤ n → fits_days n (day_characters c 0 m) ≡ true
unfolding day_string
string_fits c n m h = fits (present (day_characters c 0 m)) (day_string n (day_characters c 0 m)) (rw (length_characters c 0 m, le-leb m n h, zeros_and_ones c 0 m))
  where
    fits : (p q : Bool) → q ≡ true → either (not p) q ≡ true
    fits true q e = e
    fits false q e = refl

no_weekdays : rising_days 48 [] ≡ true
unfolding rising_days
no_weekdays = refl

day_of_lem : (d : Bool) → eqb (pick d 49 48) 49 ≡ d
day_of_lem true = refl
day_of_lem false = refl

-- a day with a character runs by it, and one that has none does not run
string_runs : (c : List ℕ) (n m : ℕ) → Counted c n m → (k : ℕ) → k < n → eqb (get_or (day_characters c 0 m) k 0) 49 ≡ day c k
unfolding day_character
string_runs c n m o k h =
    let l = length_characters c 0 m in
    elim (dec_lt k m) [
      | yes u ↦ ap (λ (x : ℕ). eqb x 49) (character_at c m k u) ∙ day_of_lem (day c k)
      | no u ↦ ap (λ (x : ℕ). eqb x 49) (get_or-eq_default (day_characters c 0 m) 0 (omega arith)) ∙ sym (o.past k (omega arith) h)
    ]

-- what reading a text back is to give, with or without the wish: one whole segment, the same dates, and the days of the calendar
pub record ReadsBack (wish : Bool) (text c : List ℕ) (first last : Date) (form : Form) : Type 0 where
  pub body : List ℕ
  pub ended : text ≡ body ++ (39 ∷ [])
  pub cut : body_at text 0 ≡ body
  pub segment : segment_at text 0 ≡ Ok (length body)
  pub period : period_of wish body ≡ period_from (number first) (day_count first last) form
  pub days : (k : ℕ) → k < day_count first last → runs wish body k ≡ day c k

module _ (wish short : Bool) (c : List ℕ) (first last : Date) (good : good_calendar c first last ≡ true) where
  abbrev count : ℕ
  count = character_count short c (day_count first last)

  abbrev string : List ℕ
  string = day_characters c 0 count

  abbrev string_body : List ℕ
  string_body = one_element (with_string (dates first last) string)

  string_text_lem : string_text short c first last ≡ string_body ++ (39 ∷ [])
  unfolding day_string_text start date_text day_characters
  string_text_lem =
      sym (ap (λ (l : List ℕ). 80 ∷ 79 ∷ 80 ∷ 43 ∷ 50 ∷ 55 ∷ 51 ∷ 58 ∷ l) (append_assoc (dates first last) (58 ∷ 58 ∷ string) (39 ∷ [])))

  -- the day string reads back as the same calendar
  pub day_string_back : ReadsBack wish (string_text short c first last) c first last ByString
  unfolding runs_in runs_by
  day_string_back =
      let f = good_facts c first last good in
      let m = f.not_long in
      let o = counted short c (day_count first last) (omega arith) in
      let some = o.some in
      let few = o.few in
      let s = numeric_characters c 0 count in
      let l = length_characters c 0 count in
      let d = length_dates first last in
      let p = string_parts (dates first last) string (numeric_dates first last) s (omega arith) (omega arith) in
      let x = some_characters c count (omega arith) in
      let e =
      period_read c first last f string_body string [] p s refl wish (string_fits c (day_count first last) count few) no_weekdays (rw x) (rw x)
      ∙ ap (λ (t : Bool). period_from (number first) (day_count first last) (pick t ByString Every)) x in
      record {
        body = string_body;
        ended = string_text_lem;
        cut = ap (λ (t : List ℕ). body_at t 0) string_text_lem ∙ (stands_alone p.whole).0;
        segment = ap (λ (t : List ℕ). segment_at t 0) string_text_lem ∙ (stands_alone p.whole).1;
        period = e;
        days = λ k h.
            rw (e, lt-ltb k (day_count first last) h)
            (ap (λ (t : List ℕ). eqb (get_or t k 0) 49) (string_plain string_body (dates first last) string [] p.cut (numeric_dates first last) s refl) ∙ string_runs c (day_count first last) count o k h);
      }
