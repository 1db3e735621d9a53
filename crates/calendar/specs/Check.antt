-- The tests of a period and of a calendar to write, in their order.
-- Assumes nothing.
use Rattle.std.specs.Prelude.{◌≡◌, refl, Bool, true, false, List, ℕ, ◌+◌, ◌-◌, ◌<◌, ◌≤◌, length, Some, None}
use Rattle.std.proofs.Common.{ap, arith}
use borrow.Author.Tests.{eq-eqb, ne_eqb, le-leb, lt-leb}
use Rattle.laws.specs.Choice.{pick}
use Rattle.dates.specs.Dates.{valid, number}
use Rattle.dates.specs.declared.Date.{Date}
use Rattle.calendar.specs.Written.{any_day, day_count, good_period, numbers_span, days_span, good_calendar, checked_of, span_of}
use Rattle.calendar.specs.declared.Span.{Span}

module _ (first last : Date) where
  pub bad_first : valid first ≡ false → None ≡ days_span first last
  unfolding days_span good_period
  bad_first v = rw v

  pub bad_last : valid first ≡ true → valid last ≡ false → None ≡ days_span first last
  unfolding days_span good_period
  bad_last v w = rw (v, w)

  pub span_numbers : {f t : ℕ} → (valid first ≡ true) × (number first ≡ f) → (valid last ≡ true) × (number last ≡ t) → numbers_span f t ≡ days_span first last
  unfolding days_span good_period numbers_span
  span_numbers p q = rw (p.0, q.0, p.1, q.1)

module _ (f t : ℕ) where
  pub bad_order : t < f → None ≡ numbers_span f t
  unfolding numbers_span
  bad_order l = rw (lt-leb f t l)

  pub bad_many : f ≤ t → 512 ≤ t - f → None ≡ numbers_span f t
  unfolding numbers_span
  bad_many l m = rw (le-leb f t l, lt-leb (t - f + 1) 512 (omega arith))

  pub good_span : f ≤ t → t - f < 512 → Some (span_of f (t - f + 1)) ≡ numbers_span f t
  unfolding numbers_span
  good_span l m = rw (le-leb f t l, le-leb (t - f + 1) 512 (omega arith))

-- what an answer tells
days : (p : Bool) (s : Span) {t : Span} → pick p (Some s) None ≡ Some t → (p ≡ true) × (s ≡ t)
days true s e = (refl, cc)
days false s e = let z : ◌≡◌ {A = ℕ} 0 1 = cc in absurd (omega arith)

none : (p : Bool) (s : Span) → pick p (Some s) None ≡ None → p ≡ false
none true s e = let z : ◌≡◌ {A = ℕ} 0 1 = cc in absurd (omega arith)
none false s e = refl

pub span_good : (first last : Date) {s : Span} → days_span first last ≡ Some s
    → (good_period first last ≡ true) × (number first ≡ s.first) × (day_count first last ≡ s.count)
unfolding days_span
span_good first last {s} e = let d = days (good_period first last) (span_of (number first) (day_count first last)) {t = s} e in (d.0, ap (λ (x : Span). x.first) d.1, ap (λ (x : Span). x.count) d.1)

pub span_bad : (first last : Date) → days_span first last ≡ None → good_period first last ≡ false
unfolding days_span
span_bad first last e = none (good_period first last) (span_of (number first) (day_count first last)) e

pub checked_good : (c : List ℕ) (first last : Date) {s : Span} → checked_of c first last ≡ Some s
    → (good_calendar c first last ≡ true) × (number first ≡ s.first) × (day_count first last ≡ s.count)
unfolding checked_of
checked_good c first last {s} e = let d = days (good_calendar c first last) (span_of (number first) (day_count first last)) {t = s} e in (d.0, ap (λ (x : Span). x.first) d.1, ap (λ (x : Span). x.count) d.1)

pub checked_bad : (c : List ℕ) (first last : Date) → checked_of c first last ≡ None → good_calendar c first last ≡ false
unfolding checked_of
checked_bad c first last e = none (good_calendar c first last) (span_of (number first) (day_count first last)) e

module _ (c : List ℕ) (first last : Date) where
  pub bad_length : (length c ≡ 64 → ⊥) → None ≡ checked_of c first last
  unfolding checked_of good_calendar
  bad_length h = rw (ne_eqb (length c) 64 h)

  module _ (h : length c ≡ 64) where
    pub bad_span : days_span first last ≡ None → None ≡ checked_of c first last
    unfolding checked_of good_calendar
    bad_span e = rw (eq-eqb (length c) 64 h, span_bad first last e)

    module _ {s : Span} (e : days_span first last ≡ Some s) where
      pub bad_past : any_day c s.count (512 - s.count) ≡ true → None ≡ checked_of c first last
      unfolding checked_of good_calendar
      bad_past d =
          let g = span_good first last e in
          rw (eq-eqb (length c) 64 h, g.0, g.2, d)

      pub good : any_day c s.count (512 - s.count) ≡ false → Some s ≡ checked_of c first last
      unfolding checked_of good_calendar
      good d =
          let g = span_good first last e in
          rw (eq-eqb (length c) 64 h, g.0, g.2, g.1, d)
