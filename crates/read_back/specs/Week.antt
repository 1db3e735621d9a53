-- The weekday form reads back: it names exactly the weekdays of the selected days.
-- Assumes nothing.
use Rattle.std.specs.Prelude.{◌≡◌, Bool, true, false, length}
use Rattle.std.proofs.Math.Path.{refl, sym, ap}
use Rattle.std.proofs.Common.{◌∙◌}
use mathlib.Core.List.{List, [], ◌∷◌, ◌++◌, append_assoc}
use Prim.Native.Nat.{ℕ, zero, suc, ◌+◌, ◌≤◌, ◌<◌}
use native.Mathlib.Omega.{arith}
use Rattle.std.proofs.Math.Decide.{ℕ_discrete}
use borrow.Author.Tests.{eq-eqb, ne_eqb, le-leb, lt-ltb}
use Rattle.laws.specs.Choice.{pick, all, among, choose, false≢true}
use Rattle.syntax.specs.Segment.{body_at, segment_at}
use Rattle.parts.specs.Places.{present}
use Rattle.dates.specs.Days.{weekday_of}
use Rattle.dates.specs.Dates.{number}
use Rattle.dates.specs.Laws.{weekday_range}
use Rattle.dates.specs.Text.{date_text}
use Rattle.dates.specs.declared.Date.{Date}
use Rattle.calendar.specs.Days.{day}
use Rattle.calendar.specs.Form.{HasForm, named_some, some_named, form_told}
use Rattle.calendar.specs.Good.{good_facts}
use Rattle.calendar.specs.Written.{day_count, good_calendar, start, named, weekday_form, digits_from, named_text, weekday_text}
use Rattle.period.specs.Period.{rising_days, runs_by, runs_in, period_from}
use Rattle.period.specs.declared.Form.TheVariants.{Every, ByWeekdays}
use Rattle.free_texts.specs.Free.{numeric}
use Rattle.free_texts.specs.Parts.{two_elements, without_string}
use Rattle.period.specs.Written.{weekdays_plain}
use Rattle.free_texts.specs.Whole.{week_parts, stands_alone}
use Rattle.read_back.specs.Written.{dates, numeric_dates, length_dates, period_read, ReadsBack}

-- the digits of those of the m weekdays from v on of which a test holds
module _ (t : ℕ → Bool) where
  digits_numeric : (v m : ℕ) → v + m ≤ 8 → all numeric (digits_from t v m) ≡ true
  unfolding digits_from
  digits_numeric v zero h = refl
  digits_numeric v (suc m) h =
      let r = digits_numeric (v + 1) m (omega arith) in
      choose (t v)
      (λ q. rw (q, le-leb 45 (48 + v) (omega arith), le-leb (48 + v) 57 (omega arith)) r)
      (λ q. rw q r)

  digits_few : (v m : ℕ) → length (digits_from t v m) ≤ m
  unfolding digits_from
  digits_few v zero = omega arith
  digits_few v (suc m) =
      let r = digits_few (v + 1) m in
      choose (t v) (λ q. rw q (omega arith)) (λ q. rw q (omega arith))

  digits_rise : (low v m : ℕ) → low < 48 + v → v + m ≤ 8 → rising_days low (digits_from t v m) ≡ true
  unfolding digits_from rising_days
  digits_rise low v zero h k = refl
  digits_rise low v (suc m) h k =
      choose (t v)
      (λ q. rw (q, lt-ltb low (48 + v) h, le-leb (48 + v) 55 (omega arith)) (digits_rise (48 + v) (v + 1) m (omega arith) (omega arith)))
      (λ q. rw q (digits_rise low (v + 1) m (omega arith) (omega arith)))

  -- none of the digits is before the first of these weekdays
  digits_from_lem : (x v m : ℕ) → x < v → among (48 + x) (digits_from t v m) ≡ false
  unfolding digits_from
  digits_from_lem x v zero h = refl
  digits_from_lem x v (suc m) h =
      let r = digits_from_lem x (v + 1) m (omega arith) in
      choose (t v)
      (λ q. rw (q, ne_eqb (48 + x) (48 + v) (λ e. omega arith)) r)
      (λ q. rw q r)

  -- a weekday's digit is one of them exactly when the test holds of it
  digits_name : (x v m : ℕ) → v ≤ x → x < v + m → among (48 + x) (digits_from t v m) ≡ t x
  unfolding digits_from
  digits_name x v zero h k = absurd (omega arith)
  digits_name x v (suc m) h k =
      elim (ℕ_discrete x v) [
        | yes e ↦
            let r = digits_from_lem x (v + 1) m (omega arith) in
            choose (t v)
            (λ q. rw (q, eq-eqb (48 + x) (48 + v) (omega arith)) (sym (ap t e ∙ q)))
            (λ q. rw q (r ∙ sym (ap t e ∙ q)))
        | no e ↦
            let r = digits_name x (v + 1) m (omega arith) (omega arith) in
            choose (t v)
            (λ q. rw (q, ne_eqb (48 + x) (48 + v) (λ z. e (omega arith))) r)
            (λ q. rw q r)
      ]

some_digit : (b : ℕ) (l : List ℕ) → among b l ≡ true → present l ≡ true
some_digit b [] p = absurd (false≢true p)
some_digit b (x ∷ l) p = refl

-- two tests that follow from one another
same_test : (a b : Bool) → (a ≡ true → b ≡ true) → (b ≡ true → a ≡ true) → a ≡ b
same_test true b f g = sym (f refl)
same_test false true f g = g refl
same_test false false f g = refl

-- the weekday of a day is named exactly when the day is selected
module _ (c : List ℕ) (f n : ℕ) (h : HasForm c f n) where
  named_day : (k : ℕ) → k < n → named c f n (weekday_of (f + k)) ≡ day c k
  named_day k l =
      same_test (named c f n (weekday_of (f + k))) (day c k)
      (λ p.
      let s = named_some c f n (weekday_of (f + k)) p in
      h.whole s.0 k s.1 l s.3 s.2)
      (λ p. some_named c f n (weekday_of (f + k)) k l p refl)

  abbrev digits : List ℕ
  digits = digits_from (named c f n) 1 7

  week_runs : (k : ℕ) → k < n → among (48 + weekday_of (f + k)) digits ≡ day c k
  week_runs k l =
      let r = weekday_range (f + k) in
      let a = r.0 in
      let b = r.1 in
      digits_name (named c f n) (weekday_of (f + k)) 1 7 (omega arith) (omega arith) ∙ named_day k l

  week_present : present digits ≡ true
  week_present =
      let s = h.some in
      some_digit (48 + weekday_of (f + s.0)) digits (week_runs s.0 s.1 ∙ s.2)

module _ (wish : Bool) (c : List ℕ) (first last : Date) (good : good_calendar c first last ≡ true) (form : weekday_form c (number first) (day_count first last) ≡ true) where
  abbrev names : List ℕ
  names = digits_from (named c (number first) (day_count first last)) 1 7

  abbrev week_body : List ℕ
  week_body = two_elements (without_string (dates first last)) names

  week_text_lem : weekday_text c first last ≡ week_body ++ (39 ∷ [])
  unfolding named_text start date_text
  week_text_lem =
      sym (ap (λ (l : List ℕ). 80 ∷ 79 ∷ 80 ∷ 43 ∷ 50 ∷ 55 ∷ 51 ∷ 58 ∷ l) (append_assoc (dates first last) (43 ∷ names) (39 ∷ [])))

  -- the weekday form, where the calendar has one, reads back as the same calendar
  pub weekdays_back : ReadsBack wish (weekday_text c first last) c first last ByWeekdays
  unfolding runs_in runs_by
  weekdays_back =
      let f = good_facts c first last good in
      let h = form_told c (number first) (day_count first last) form in
      let t = named c (number first) (day_count first last) in
      let w = digits_numeric (named c (number first) (day_count first last)) 1 7 (omega arith) in
      let l = digits_few (named c (number first) (day_count first last)) 1 7 in
      let d = length_dates first last in
      let p = week_parts (dates first last) names (numeric_dates first last) w (omega arith) (omega arith) in
      let x = week_present c (number first) (day_count first last) h in
      let e =
      period_read c first last f week_body [] names p refl w wish refl (digits_rise (named c (number first) (day_count first last)) 48 1 7 (omega arith) (omega arith)) refl (rw x)
      ∙ ap (λ (b : Bool). period_from (number first) (day_count first last) (pick b ByWeekdays Every)) x in
      record {
        body = week_body;
        ended = week_text_lem;
        cut = ap (λ (s : List ℕ). body_at s 0) week_text_lem ∙ (stands_alone p.whole).0;
        segment = ap (λ (s : List ℕ). segment_at s 0) week_text_lem ∙ (stands_alone p.whole).1;
        period = e;
        days = λ k i.
            rw (e, lt-ltb k (day_count first last) i)
            (ap (among (48 + weekday_of (number first + k))) (weekdays_plain week_body (dates first last) [] names p.cut (numeric_dates first last) refl w) ∙ week_runs c (number first) (day_count first last) h k i);
      }
