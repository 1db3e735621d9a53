-- What is known of a period that is good.
-- Assumes nothing.
use Rattle.std.specs.Prelude.{◌≡◌, refl, Bool, true, false, List, ℕ, ◌+◌, ◌≤◌, eqb, leb, length, get_or, Option, Some, None, Result, Ok, Err}
use Rattle.std.proofs.Common.{sym, ap, ◌∙◌, arith, leb-true}
use Rattle.laws.specs.Choice.{pick, both, both_parts}
use Rattle.parts.specs.Places.{present}
use Rattle.dates.specs.Dates.{valid, number}
use Rattle.dates.specs.Laws.{number_below}
use Rattle.dates.specs.Text.{date_at}
use Rattle.dates.specs.declared.Date.{Date}
use Rattle.calendar.specs.Written.{day_count, good_period, days_span, span_of}
use Rattle.period.specs.declared.Form.{Form}
use Rattle.period.specs.declared.Fault.TheVariants.{BadDayString, BadWeekdays, BothForms, NeitherForm}
use Rattle.period.specs.Period.{first_last, day_text, week_text, made_span, span_in, fits_days, rising_days, form_of, lacks_form, formed_of, rest_good, period_by, period_on, period_of, period_from}
use Rattle.calendar.specs.declared.Span.{Span}
use Rattle.period.specs.declared.Period.{Period}
use Rattle.period.specs.declared.Fault.{Fault}

-- two dates give the numbers
pub record Spans (f n : ℕ) : Type 0 where
  pub first : Date
  pub last : Date
  pub first_date : valid first ≡ true
  pub last_date : valid last ≡ true
  pub in_order : number first ≤ number last
  pub first_number : number first ≡ f
  pub count : day_count first last ≡ n
  pub not_long : n ≤ 512

between_told : (p : Bool) (a b : Date) (f n : ℕ) → good_period a b ≡ p → pick p (Some (span_of (number a) (day_count a b))) None ≡ Some (span_of f n) → Spans f n
unfolding good_period
between_told false a b f n e q = let z : ◌≡◌ {A = ℕ} 0 1 = cc in absurd (omega arith)
between_told true a b f n e q =
    let u = both_parts (valid a) (both (valid b) (both (leb (number a) (number b)) (leb (day_count a b) 512))) e in
    let v = both_parts (valid b) (both (leb (number a) (number b)) (leb (day_count a b) 512)) u.1 in
    let w = both_parts (leb (number a) (number b)) (leb (day_count a b) 512) v.1 in
    let s : span_of (number a) (day_count a b) ≡ span_of f n = cc in
    let k : number a ≡ f = ap (λ (x : Span). x.first) s in
    let m : day_count a b ≡ n = ap (λ (x : Span). x.count) s in
    let l = leb-true (day_count a b) 512 w.1 in
    record { first = a; last = b; first_date = u.0; last_date = v.0; in_order = leb-true (number a) (number b) w.0; first_number = k; count = m; not_long = omega arith }

of_told : (a b : Option Date) (f n : ℕ) → made_span a b ≡ Some (span_of f n) → Spans f n
unfolding days_span
of_told (Some a) (Some b) f n q = between_told (good_period a b) a b f n refl q
of_told (Some a) None f n q = let z : ◌≡◌ {A = ℕ} 0 1 = cc in absurd (omega arith)
of_told None b f n q = let z : ◌≡◌ {A = ℕ} 0 1 = cc in absurd (omega arith)

picked : (p : Bool) (x : Option Span) (f n : ℕ) → pick p x None ≡ Some (span_of f n) → x ≡ Some (span_of f n)
picked true x f n q = q
picked false x f n q = let z : ◌≡◌ {A = ℕ} 0 1 = cc in absurd (omega arith)

pub span_told_lem : (t : List ℕ) (f n : ℕ) → span_in t ≡ Some (span_of f n) → Spans f n
unfolding span_in
span_told_lem t f n q =
    of_told (date_at t 0) (date_at t 11) f n
    (picked (both (eqb (length t) 21) (eqb (get_or t 10 0) 47)) (made_span (date_at t 0) (date_at t 11)) f n q)

-- a form that is told
pub record Forms (n : ℕ) (d w : List ℕ) (form : Form) : Type 0 where
  pub fits : fits_days n d ≡ true
  pub rises : rising_days 48 w ≡ true
  pub is : form_of d w ≡ form

forms_by : (p q r l : Bool) (n : ℕ) (d w : List ℕ) (form : Form) → fits_days n d ≡ p → rising_days 48 w ≡ q
    → pick p (pick q (pick r (Err BothForms) (pick l (Err NeitherForm) (Ok (form_of d w)))) (Err BadWeekdays)) (Err BadDayString) ≡ Ok form
    → Forms n d w form
forms_by false q r l n d w form a b e = let z : ◌≡◌ {A = ℕ} 0 1 = cc in absurd (omega arith)
forms_by true false r l n d w form a b e = let z : ◌≡◌ {A = ℕ} 0 1 = cc in absurd (omega arith)
forms_by true true true l n d w form a b e = let z : ◌≡◌ {A = ℕ} 0 1 = cc in absurd (omega arith)
forms_by true true false true n d w form a b e = let z : ◌≡◌ {A = ℕ} 0 1 = cc in absurd (omega arith)
forms_by true true false false n d w form a b e = record { fits = a; rises = b; is = cc }

pub form_told : (wish : Bool) (n : ℕ) (d w : List ℕ) (form : Form) → formed_of wish n d w ≡ Ok form → Forms n d w form
unfolding formed_of
form_told wish n d w form e =
    forms_by (fits_days n d) (rising_days 48 w) (both (present d) (present w)) (lacks_form wish d w) n d w form refl refl e

-- a good period: its dates, its form and the rest
pub record Goods (wish : Bool) (g : List ℕ) (f n : ℕ) (form : Form) : Type 0 where
  pub span : span_in (first_last g) ≡ Some (span_of f n)
  pub told : formed_of wish n (day_text g) (week_text g) ≡ Ok form
  pub rest : rest_good g ≡ true

by_told : (x : Result Form Fault) (r : Bool) (a b f n : ℕ) (form : Form) → period_by x r a b ≡ period_from f n form → (a ≡ f) × (b ≡ n) × (x ≡ Ok form) × (r ≡ true)
by_told (Err x) r a b f n form e = let z : ◌≡◌ {A = ℕ} 0 1 = cc in absurd (omega arith)
by_told (Ok y) false a b f n form e = let z : ◌≡◌ {A = ℕ} 0 1 = cc in absurd (omega arith)
by_told (Ok y) true a b f n form e =
    let s : ◌≡◌ {A = Period} (record { days = span_of a b; form = y }) (record { days = span_of f n; form = form }) = cc in
    (ap (λ (x : Period). x.days.first) s, ap (λ (x : Period). x.days.count) s, ap (λ (x : Period). Ok x.form) s, refl)

on_told : (wish : Bool) (s : Option Span) (g : List ℕ) (f n : ℕ) (form : Form) → span_in (first_last g) ≡ s → period_on wish s g ≡ period_from f n form → Goods wish g f n form
on_told wish None g f n form q e = let z : ◌≡◌ {A = ℕ} 0 1 = cc in absurd (omega arith)
on_told wish (Some s) g f n form q e =
    let r = by_told (formed_of wish s.count (day_text g) (week_text g)) (rest_good g) s.first s.count f n form e in
    record { span = q ∙ ap (λ (x : ℕ). Some (span_of x s.count)) r.0 ∙ ap (λ (x : ℕ). Some (span_of f x)) r.1; told = ap (λ (x : ℕ). formed_of wish x (day_text g) (week_text g)) (sym r.1) ∙ r.2; rest = r.3 }

pub good_told : (wish : Bool) (g : List ℕ) (f n : ℕ) (form : Form) → period_of wish g ≡ period_from f n form → Goods wish g f n form
unfolding period_of
good_told wish g f n form e = on_told wish (span_in (first_last g)) g f n form refl e

-- its days are dates
pub record Bounds (f n : ℕ) : Type 0 where
  pub some : 1 ≤ n
  pub few : n ≤ 512
  pub inside : f + n ≤ 40177

pub good_bounds : (wish : Bool) (g : List ℕ) (f n : ℕ) (form : Form) → period_of wish g ≡ period_from f n form → Bounds f n
good_bounds wish g f n form e =
    let s = span_told_lem (first_last g) f n (good_told wish g f n form e).span in
    let b = number_below s.last s.last_date in
    let p = s.first_number in
    let q = s.count in
    let o = s.in_order in
    let l = s.not_long in
    record { some = omega arith; few = omega arith; inside = omega arith }

pub good_rising : (wish : Bool) (g : List ℕ) (f n : ℕ) (form : Form) → period_of wish g ≡ period_from f n form → rising_days 48 (week_text g) ≡ true
good_rising wish g f n form e = (form_told wish n (day_text g) (week_text g) form (good_told wish g f n form e).told).rises
