-- The two readings of a POP: what a caller who does not ask for the old one is told, by what the old one says.
-- Assumes nothing.
use Rattle.std.specs.Prelude.{◌≡◌, refl, Bool, true, false, not, List, ℕ, ltb, Option, Some, None, Result, Ok, Err}
use Rattle.std.proofs.Common.{sym, ap, ◌∙◌, arith}
use Rattle.laws.specs.Choice.{pick, both, false≢true, choose}
use Rattle.parts.specs.Places.{present}
use Rattle.syntax.specs.Segment.{body_at}
use Rattle.period.specs.declared.Form.{Form}
use Rattle.period.specs.declared.Form.TheVariants.{Every, ByString, ByWeekdays}
use Rattle.period.specs.declared.Fault.TheVariants.{BadDayString, BadWeekdays, BothForms, NeitherForm}
use Rattle.period.specs.Period.{first_last, day_text, week_text, span_in, fits_days, rising_days, suffices, formed_of, rest_good, period_by, period_on, period_of, is_good, fault_number, pop_at, period_from, pop_from}
use Rattle.period.specs.Facts.{form_told, good_told}
use Rattle.period.specs.Pops.{pop_is, pop_told_lem}
use Rattle.calendar.specs.declared.Span.{Span}
use Rattle.period.specs.declared.Period.{Period}
use Rattle.period.specs.declared.Fault.{Fault}

-- part 5 where neither form is given, unless a lower one is wrong; else what the old reading says
abbrev pub unasked : Bool → Result Period Fault → Result Period Fault
unasked neither (Ok v) = pick neither (Err NeitherForm) (Ok v)
unasked neither (Err x) = pick (both (ltb 5 (fault_number x)) neither) (Err NeitherForm) (Err x)

abbrev pub gives_neither : List ℕ → Bool
gives_neither g = both (not (present (day_text g))) (not (present (week_text g)))

-- by whether each part is right, and given
abbrev formed_by : Bool → Bool → Bool → Bool → Bool → Result Form Fault
formed_by wish fits rises days weekdays =
    pick fits
    (pick rises
    (pick (both days weekdays) (Err BothForms)
    (pick (both (not wish) (both (not days) (not weekdays))) (Err NeitherForm) (Ok (pick days ByString (pick weekdays ByWeekdays Every)))))
    (Err BadWeekdays))
    (Err BadDayString)

unasked_by : (fits rises days weekdays rest : Bool) (f n : ℕ)
    → period_by (formed_by false fits rises days weekdays) rest f n ≡ unasked (both (not days) (not weekdays)) (period_by (formed_by true fits rises days weekdays) rest f n)
unfolding fault_number
unasked_by false rises days weekdays rest f n = refl
unasked_by true false days weekdays rest f n = refl
unasked_by true true true true rest f n = refl
unasked_by true true true false true f n = refl
unasked_by true true true false false f n = refl
unasked_by true true false true true f n = refl
unasked_by true true false true false f n = refl
unasked_by true true false false true f n = refl
unasked_by true true false false false f n = refl

unasked_on : (s : Option Span) (g : List ℕ) → period_on false s g ≡ unasked (gives_neither g) (period_on true s g)
unfolding fault_number formed_of
unasked_on None g = refl
unasked_on (Some s) g = unasked_by (fits_days s.count (day_text g)) (rising_days 48 (week_text g)) (present (day_text g)) (present (week_text g)) (rest_good g) s.first s.count

pub unasked_is : (g : List ℕ) → period_of false g ≡ unasked (gives_neither g) (period_of true g)
unfolding period_of
unasked_is g = unasked_on (span_in (first_last g)) g

-- a form suffices unless neither is given, and to one who asks always
lacking_by : (days weekdays : Bool) (x y : Result Period Fault) → pick (both (not days) (not weekdays)) x y ≡ pick (suffices false (pick days ByString (pick weekdays ByWeekdays Every))) y x
lacking_by true weekdays x y = refl
lacking_by false true x y = refl
lacking_by false false x y = refl

asked_by : (form : Form) (x y : Result Period Fault) → x ≡ pick (suffices true form) x y
asked_by Every x y = refl
asked_by ByString x y = refl
asked_by ByWeekdays x y = refl

-- a period of the old reading: where its form does not suffice it is 10, part 5
pub wished : (wish : Bool) (g : List ℕ) (f n : ℕ) (form : Form) → period_of true g ≡ period_from f n form
    → period_of wish g ≡ pick (suffices wish form) (period_from f n form) (Err NeitherForm)
wished true g f n form e = e ∙ asked_by form (period_from f n form) (Err NeitherForm)
wished false g f n form e =
    unasked_is g
    ∙ ap (unasked (gives_neither g)) e
    ∙ lacking_by (present (day_text g)) (present (week_text g)) (Err NeitherForm) (period_from f n form)
    ∙ ap (λ (x : Form). pick (suffices false x) (period_from f n form) (Err NeitherForm)) (form_told true n (day_text g) (week_text g) form (good_told true g f n form e).told).is

good_by : (neither : Bool) (p : Result Period Fault) (f n : ℕ) (form : Form) → unasked neither p ≡ period_from f n form → p ≡ period_from f n form
good_by true (Ok v) f n form q = let z : ◌≡◌ {A = ℕ} 0 1 = cc in absurd (omega arith)
good_by false (Ok v) f n form q = q
good_by neither (Err x) f n form q =
    choose (both (ltb 5 (fault_number x)) neither)
    (λ p. let r : Err NeitherForm ≡ period_from f n form = rw p at q in let z : ◌≡◌ {A = ℕ} 0 1 = cc in absurd (omega arith))
    (λ p. let r : Err x ≡ period_from f n form = rw p at q in let z : ◌≡◌ {A = ℕ} 0 1 = cc in absurd (omega arith))

-- what any caller is told of a good period is what the old reading tells
pub good_old : (wish : Bool) (g : List ℕ) (f n : ℕ) (form : Form) → period_of wish g ≡ period_from f n form → period_of true g ≡ period_from f n form
good_old true g f n form e = e
good_old false g f n form e = good_by (gives_neither g) (period_of true g) f n form (sym (unasked_is g) ∙ e)

-- so what is good to any caller is good to one who asks
asked_on : (wish : Bool) (g : List ℕ) (p : Result Period Fault) → period_of wish g ≡ p → is_good p ≡ true → is_good (period_of true g) ≡ true
asked_on wish g (Ok v) q e = ap is_good (good_old wish g v.days.first v.days.count v.form q)
asked_on wish g (Err x) q e = absurd (false≢true e)

pub good_asked : (wish : Bool) (g : List ℕ) → is_good (period_of wish g) ≡ true → is_good (period_of true g) ≡ true
good_asked wish g e = asked_on wish g (period_of wish g) refl e

-- the same of the POP at an offset
module _ (wish : Bool) (s : List ℕ) (at : ℕ) {e f n : ℕ} {form : Form} (w : pop_from e f n form ≡ pop_at true s at) where
  pub wished_pop : suffices wish form ≡ true → pop_from e f n form ≡ pop_at wish s at
  wished_pop p =
      let k = pop_told_lem true s at (sym w) in
      let q : period_of wish (body_at s at) ≡ period_from f n form = wished wish (body_at s at) f n form k.period ∙ rw p in
      sym (pop_is wish s at k.segment q)

  pub unwished_pop : suffices wish form ≡ false → None ≡ pop_at wish s at
  unwished_pop p =
      let k = pop_told_lem true s at (sym w) in
      let q : period_of wish (body_at s at) ≡ Err NeitherForm = wished wish (body_at s at) f n form k.period ∙ rw p in
      sym (pop_is wish s at k.segment q)
