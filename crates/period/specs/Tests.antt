-- The tests of a period, in the order of the code.
-- Assumes nothing.
use Rattle.std.specs.Prelude.{◌≡◌, Bool, true, false, not, List, ℕ, ◌+◌, ◌%◌, ◌<◌, ◌≤◌, eqb, length, get_or, take, Some, None, Result, Ok, Err}
use Rattle.std.proofs.Math.Path.{ap}
use Rattle.std.proofs.Common.{◌∙◌}
use native.Mathlib.Omega.{arith}
use Rattle.std.proofs.Math.Decide.{dec_lt}
use Rattle.laws.specs.Put.{put_at, length_put, take_put}
use borrow.Author.Tests.{eq-eqb, ne_eqb, lt-ltb, le-ltb}
use Rattle.laws.specs.Choice.{among, both_false}
use Rattle.parts.specs.Places.{present}
use Rattle.dates.specs.Days.{weekday_of}
use Rattle.dates.specs.Text.{date_at}
use Rattle.dates.specs.declared.Date.{Date}
use Rattle.calendar.specs.Written.{days_span, span_of}
use Rattle.values.specs.Values.{copied_of}
use Rattle.period.specs.declared.Form.{Form}
use Rattle.period.specs.declared.Form.TheVariants.{Every, ByString, ByWeekdays}
use Rattle.period.specs.declared.Fault.TheVariants.{BadDates, BadDayString, BadWeekdays, BothForms, NeitherForm, BadRest}
use Rattle.period.specs.declared.Fault.{Fault}
use Rattle.period.specs.Period.{first_last, day_text, week_text, span_in, day_string, fits_days, rising_days, formed_of, rest_good, period_of, runs_by, runs_in, period_from}
use Rattle.period.specs.declared.Period.{Period}

-- the text of the two dates
module _ (t : List ℕ) where
  pub not_long : (length t ≡ 21 → ⊥) → None ≡ span_in t
  unfolding span_in
  not_long h = rw (ne_eqb (length t) 21 h)

  module _ (h : length t ≡ 21) where
    pub no_stroke : (get_or t 10 0 ≡ 47 → ⊥) → None ≡ span_in t
    unfolding span_in
    no_stroke e = rw (eq-eqb (length t) 21 h, ne_eqb (get_or t 10 0) 47 e)

    module _ (e : get_or t 10 0 ≡ 47) where
      pub no_first : date_at t 0 ≡ None → None ≡ span_in t
      unfolding span_in
      no_first a = rw (eq-eqb (length t) 21 h, eq-eqb (get_or t 10 0) 47 e, a)

      pub no_last : {a : Date} → date_at t 0 ≡ Some a → date_at t 11 ≡ None → None ≡ span_in t
      unfolding span_in
      no_last p q = rw (eq-eqb (length t) 21 h, eq-eqb (get_or t 10 0) 47 e, p, q)

      pub two_dates : {a b : Date} → date_at t 0 ≡ Some a → date_at t 11 ≡ Some b → days_span a b ≡ span_in t
      unfolding span_in
      two_dates p q = rw (eq-eqb (length t) 21 h, eq-eqb (get_or t 10 0) 47 e, p, q)

-- the forms
module _ (wish : Bool) (n : ℕ) (d w : List ℕ) where
  pub bad_string : fits_days n d ≡ false → Err BadDayString ≡ formed_of wish n d w
  unfolding formed_of
  bad_string p = rw p

  module _ (p : fits_days n d ≡ true) where
    pub bad_weekdays : rising_days 48 w ≡ false → Err BadWeekdays ≡ formed_of wish n d w
    unfolding formed_of
    bad_weekdays q = rw (p, q)

    module _ (q : rising_days 48 w ≡ true) where
      pub by_weekdays : present d ≡ false → present w ≡ true → Ok ByWeekdays ≡ formed_of wish n d w
      unfolding formed_of
      by_weekdays a b = rw (p, q, a, b, both_false (not wish))

      pub by_wish : present d ≡ false → present w ≡ false → wish ≡ true → Ok Every ≡ formed_of wish n d w
      unfolding formed_of
      by_wish a b e = rw (p, q, a, b, e)

      pub neither_form : present d ≡ false → present w ≡ false → wish ≡ false → Err NeitherForm ≡ formed_of wish n d w
      unfolding formed_of
      neither_form a b e = rw (p, q, a, b, e)

      pub both_forms : present d ≡ true → present w ≡ true → Err BothForms ≡ formed_of wish n d w
      unfolding formed_of
      both_forms a b = rw (p, q, a, b)

      pub by_string : present d ≡ true → present w ≡ false → Ok ByString ≡ formed_of wish n d w
      unfolding formed_of
      by_string a b = rw (p, q, a, b, both_false (not wish))

module _ (n : ℕ) (t : List ℕ) where
  pub fits_present : present t ≡ true → day_string n t ≡ fits_days n t
  fits_present p = rw p

  pub fits_absent : present t ≡ false → true ≡ fits_days n t
  fits_absent p = rw p

-- the whole segment
module _ (wish : Bool) (g : List ℕ) where
  pub wrong_dates : span_in (first_last g) ≡ None → Err BadDates ≡ period_of wish g
  unfolding period_of
  wrong_dates p = rw p

  module _ {f n : ℕ} (p : span_in (first_last g) ≡ Some (span_of f n)) where
    pub wrong_form : {x : Fault} → formed_of wish n (day_text g) (week_text g) ≡ Err x → Err x ≡ period_of wish g
    unfolding period_of
    wrong_form q = rw (p, q)

    module _ {form : Form} (q : formed_of wish n (day_text g) (week_text g) ≡ Ok form) where
      pub wrong_rest : rest_good g ≡ false → Err BadRest ≡ period_of wish g
      unfolding period_of
      wrong_rest r = rw (p, q, r)

      pub good_period_lem : rest_good g ≡ true → period_from f n form ≡ period_of wish g
      unfolding period_of
      good_period_lem r = rw (p, q, r)

-- the days that run
module _ (g : List ℕ) where
  pub runs_every : (f k : ℕ) {form : Form} → form ≡ Every → true ≡ runs_by g form f k
  unfolding runs_by
  runs_every f k e = rw e

  pub runs_string : (f k : ℕ) {form : Form} {b : ℕ} → form ≡ ByString → b ≡ get_or (day_text g) k 0 → eqb b 49 ≡ runs_by g form f k
  unfolding runs_by
  runs_string f k e h = rw (e, h)

  pub runs_weekdays : (f k : ℕ) {form : Form} {w : ℕ} {r : Bool} → form ≡ ByWeekdays → w ≡ weekday_of (f % 7 + k % 7) → r ≡ among (48 + w) (week_text g)
      → r ≡ runs_by g form f k
  unfolding runs_by weekday_of
  runs_weekdays f k {form} {w} {r} e h q =
      let m : (f % 7 + k % 7) % 7 ≡ (f + k) % 7 = omega arith in
      rw e (q ∙ ap (λ (x : ℕ). among (48 + x) (week_text g)) (h ∙ ap (λ (x : ℕ). x + 1) m))

  module _ {f n k : ℕ} {form : Form} {p : Result Period Fault} (e : p ≡ period_from f n form) where
    pub runs_past : n ≤ k → false ≡ runs_in g p k
    unfolding runs_in
    runs_past h = rw (e, le-ltb k n h)

    pub runs_inside : {r : Bool} → k < n → r ≡ runs_by g form f k → r ≡ runs_in g p k
    unfolding runs_in
    runs_inside h q = rw (e, lt-ltb k n h) q

  pub runs_wrong : {x : Fault} {p : Result Period Fault} (k : ℕ) → p ≡ Err x → false ≡ runs_in g p k
  unfolding runs_in
  runs_wrong k e = rw e

-- the text of the dates, copied to a buffer of 21 bytes
copied_not : (n : ℕ) → copied_of n 21 ≡ None → 21 < n
copied_not n e =
    elim (dec_lt 21 n) [
      | yes l ↦ l
      | no l ↦ let z : ◌≡◌ {A = ℕ} 0 1 = cc (rw (le-ltb 21 n (omega arith)) at e) in absurd (omega arith)
    ]

copied_all : (n m : ℕ) → copied_of n 21 ≡ Some m → (n ≤ 21) × (n ≡ m)
copied_all n m e =
    elim (dec_lt 21 n) [
      | yes l ↦ let z : ◌≡◌ {A = ℕ} 0 1 = cc (rw (lt-ltb 21 n l) at e) in absurd (omega arith)
      | no l ↦ (omega arith, cc (rw (le-ltb 21 n (omega arith)) at e))
    ]

pub dates_too_long : (t : List ℕ) {n : ℕ} → n ≡ 21 → copied_of (length t) n ≡ None → None ≡ span_in t
dates_too_long t h e =
    let l = copied_not (length t) (rw h at e) in
    not_long t (λ q. omega arith)

module _ (t to : List ℕ) {last : List ℕ} {m : ℕ} (h : length to ≡ 21) (e : copied_of (length t) (length to) ≡ Some m) (w : last ≡ put_at to 0 t) where
  whole : (length t ≤ 21) × (length t ≡ m)
  whole = copied_all (length t) m (rw h at e)

  pub dates_fit : m ≤ length last
  dates_fit =
      let f = whole in
      let l = ap length w ∙ length_put to 0 t in
      omega arith

  pub dates_copied : take m last ≡ t
  dates_copied =
      let f = whole in
      take_put to t last m w (omega arith) (omega arith)
