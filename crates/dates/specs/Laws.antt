-- The laws of day numbers and weekdays, which callers use: the next day's number is one more, numbers order dates,
-- every number below 40,177 is that of exactly one date, and weekdays go round by seven.
-- Assumes nothing.
use Rattle.std.specs.Prelude.{◌≡◌, refl, Bool, true, false, ◌⊎◌, ℕ, zero, suc, ◌+◌, ◌-◌, ◌%◌, ◌<◌, ◌≤◌, eqb, Some, None}
use Rattle.std.proofs.Common.{sym, ◌∙◌, inl, inr, arith, lt-ltb, le-ltb, eq-eqb, ne_eqb}
use Rattle.std.proofs.Math.Path.{ap}
use Rattle.std.proofs.Math.Logic.{⊎_elim}
use Rattle.std.proofs.Math.Decide.{dec_lt, ℕ_discrete}
use Rattle.laws.specs.Choice.{pick}
use Rattle.dates.specs.Days.{leap_year, month_length, is_date, month_days, year_days, day_number, weekday_of}
use Rattle.dates.specs.Dates.{date, valid, number, number_of, next_day, date_of, Earlier}
use Rattle.dates.specs.Facts.{IsDate, date_facts, facts_date, month_at_least}
use Rattle.dates.specs.declared.Date.{Date}

-- the sums rise
pub months_rise : (y n k : ℕ) → n ≤ k → month_days y n ≤ month_days y k
unfolding month_days
months_rise y n zero h = let e : n ≡ zero = omega arith in rw e (omega arith)
months_rise y n (suc k) h =
    elim (dec_lt k n) [
      | yes l ↦ let e : n ≡ suc k = omega arith in rw e (omega arith)
      | no l ↦ let r = months_rise y n k (omega arith) in omega arith
    ]

pub years_rise : (n k : ℕ) → n ≤ k → year_days n ≤ year_days k
unfolding year_days
years_rise n zero h = let e : n ≡ zero = omega arith in rw e (omega arith)
years_rise n (suc k) h =
    elim (dec_lt k n) [
      | yes l ↦ let e : n ≡ suc k = omega arith in rw e (omega arith)
      | no l ↦ let r = years_rise n k (omega arith) in omega arith
    ]

-- one month more, one year more
pub month_more : (y m : ℕ) → 1 ≤ m → month_days y m ≡ month_days y (m - 1) + month_length y m
unfolding month_days
month_more y zero h = absurd (omega arith)
month_more y (suc n) h = let e : suc n - 1 ≡ n = omega arith in rw e

pub year_more : (y : ℕ) → 1990 ≤ y → year_days (y - 1990 + 1) ≡ year_days (y - 1990) + month_days y 12
unfolding year_days
year_more y h =
    let e : y - 1990 + 1 ≡ suc (y - 1990) = omega arith in
    let f : 1990 + (y - 1990) ≡ y = omega arith in
    ap year_days e ∙ ap (λ (x : ℕ). year_days (y - 1990) + month_days x 12) f

in_year : {y m d : ℕ} → IsDate y m d → month_days y (m - 1) + (d - 1) < month_days y 12
in_year {y} {m} {d} h = omega (arith, month_more y m h.from_january, months_rise y m 12 h.to_december)

module _ (a b : Date) (ha : valid a ≡ true) (hb : valid b ≡ true) where
  less : Earlier a b → number a < number b
  unfolding day_number
  less =
      let f = date_facts a.year a.month a.day ha in
      let g = date_facts b.year b.month b.day hb in
      ⊎_elim
      (λ h. omega (arith, in_year f, year_more a.year f.from_first, years_rise (a.year - 1990 + 1) (b.year - 1990) (omega arith)))
      (λ p. ⊎_elim
      (λ h.
      let e : year_days (a.year - 1990) ≡ year_days (b.year - 1990) = ap (λ (x : ℕ). year_days (x - 1990)) p.0 in
      let k : month_days a.year (b.month - 1) ≡ month_days b.year (b.month - 1) = ap (λ (x : ℕ). month_days x (b.month - 1)) p.0 in
      omega (arith, month_more a.year a.month f.from_january, months_rise a.year a.month (b.month - 1) (omega arith)))
      (λ q.
      let e : year_days (a.year - 1990) ≡ year_days (b.year - 1990) = ap (λ (x : ℕ). year_days (x - 1990)) p.0 in
      let k : month_days a.year (a.month - 1) ≡ month_days b.year (a.month - 1) = ap (λ (x : ℕ). month_days x (a.month - 1)) p.0 in
      let l : month_days b.year (a.month - 1) ≡ month_days b.year (b.month - 1) = ap (λ (x : ℕ). month_days b.year (x - 1)) q.0 in
      let t = q.1 in
      omega arith)
      p.1)

same_fields : (a b : Date) → a.year ≡ b.year → a.month ≡ b.month → a.day ≡ b.day → a ≡ b
same_fields a b e f g =
    ap (λ (y : ℕ). date y a.month a.day) e
    ∙ ap (λ (m : ℕ). date b.year m a.day) f
    ∙ ap (λ (d : ℕ). date b.year b.month d) g

-- of two dates one is the earlier, or they are the same
which : (a b : Date) → Earlier a b ⊎ ((a ≡ b) ⊎ Earlier b a)
which a b =
    elim (dec_lt a.year b.year) [
      | yes l ↦ inl (inl l)
      | no l ↦ elim (dec_lt b.year a.year) [
        | yes k ↦ inr (inr (inl k))
        | no k ↦ same_year (omega arith)
      ]
    ]
  where
    same_month : a.year ≡ b.year → a.month ≡ b.month → Earlier a b ⊎ ((a ≡ b) ⊎ Earlier b a)
    same_month e f =
        elim (dec_lt a.day b.day) [
          | yes l ↦ inl (inr (e, inr (f, l)))
          | no l ↦ elim (dec_lt b.day a.day) [
            | yes k ↦ inr (inr (inr (sym e, inr (sym f, k))))
            | no k ↦ inr (inl (same_fields a b e f (omega arith)))
          ]
        ]

    same_year : a.year ≡ b.year → Earlier a b ⊎ ((a ≡ b) ⊎ Earlier b a)
    same_year e =
        elim (dec_lt a.month b.month) [
          | yes l ↦ inl (inr (e, inl l))
          | no l ↦ elim (dec_lt b.month a.month) [
            | yes k ↦ inr (inr (inr (sym e, inl k)))
            | no k ↦ same_month e (omega arith)
          ]
        ]

-- numbers order dates, both ways
pub earlier_less : (a b : Date) → valid a ≡ true → valid b ≡ true → Earlier a b → number a < number b
earlier_less = less

pub less_earlier : (a b : Date) → valid a ≡ true → valid b ≡ true → number a < number b → Earlier a b
less_earlier a b ha hb h =
    ⊎_elim (λ e. e)
    (⊎_elim (λ e. let n : number a ≡ number b = ap number e in absurd (omega arith)) (λ e. let l = less b a hb ha e in absurd (omega arith)))
    (which a b)

-- no two dates have one number
pub same_number : (a b : Date) → valid a ≡ true → valid b ≡ true → number a ≡ number b → a ≡ b
same_number a b ha hb h =
    ⊎_elim (λ e. let l = less a b ha hb e in absurd (omega arith)) (⊎_elim (λ e. e) (λ e. let l = less b a hb ha e in absurd (omega arith)))
    (which a b)

no_months : (y : ℕ) → month_days y 0 ≡ 0
unfolding month_days
no_months y = refl

-- the next day's number is one more
pub number_next : (a : Date) → valid a ≡ true → number (next_day a) ≡ number a + 1
unfolding next_day day_number
number_next a h =
    let f = date_facts a.year a.month a.day h in
    elim (dec_lt a.day (month_length a.year a.month)) [
      | yes l ↦ rw (lt-ltb _ _ l) (omega arith)
      | no l ↦ elim (dec_lt a.month 12) [
        | yes k ↦
            let e : a.month + 1 - 1 ≡ a.month = omega arith in
            rw (le-ltb a.day (month_length a.year a.month) (omega arith), lt-ltb _ _ k, e)
            (omega (arith, month_more a.year a.month f.from_january))
        | no k ↦
            let e : a.year + 1 - 1990 ≡ a.year - 1990 + 1 = omega arith in
            let m : a.month ≡ 12 = omega arith in
            rw (le-ltb a.day (month_length a.year a.month) (omega arith), le-ltb a.month 12 (omega arith), e)
            (omega (arith, month_more a.year a.month f.from_january, year_more a.year f.from_first, ap (month_days a.year) m, no_months (a.year + 1)))
      ]
    ]

last_december : month_length 2099 12 ≡ 31
unfolding month_length
last_december = refl

pub all_days : year_days 110 ≡ 40177
unfolding year_days month_days month_length leap_year
all_days = refl

valid_first : valid (date 1990 1 1) ≡ true
unfolding is_date month_length
valid_first = refl

last_number : day_number 2099 12 31 ≡ 40176
unfolding day_number year_days month_days month_length leap_year
last_number = refl

pub valid_next : (a : Date) → valid a ≡ true → number a < 40176 → valid (next_day a) ≡ true
unfolding next_day
valid_next a h n =
    let f = date_facts a.year a.month a.day h in
    elim (dec_lt a.day (month_length a.year a.month)) [
      | yes l ↦ rw (lt-ltb _ _ l) (facts_date (record { from_first = f.from_first; to_last = f.to_last; from_january = f.from_january; to_december = f.to_december; from_day_one = omega arith; in_month = omega arith }))
      | no l ↦ elim (dec_lt a.month 12) [
        | yes k ↦
            rw (le-ltb a.day (month_length a.year a.month) (omega arith), lt-ltb _ _ k)
            (facts_date (record { from_first = f.from_first; to_last = f.to_last; from_january = omega arith; to_december = omega arith; from_day_one = omega arith; in_month = omega (arith, month_at_least a.year (a.month + 1)) }))
        | no k ↦
            rw (le-ltb a.day (month_length a.year a.month) (omega arith), le-ltb a.month 12 (omega arith))
            (facts_date (record { from_first = omega arith; to_last = before_last (omega arith) (omega arith); from_january = omega arith; to_december = omega arith; from_day_one = omega arith; in_month = omega (arith, month_at_least (a.year + 1) 1) }))
      ]
    ]
  where
    before_last : a.month ≡ 12 → a.day ≡ month_length a.year a.month → a.year + 1 ≤ 2099
    before_last m d =
        elim (dec_lt a.year 2099) [
          | yes l ↦ omega arith
          | no l ↦
              let f = date_facts a.year a.month a.day h in
              let e : a.year ≡ 2099 = omega arith in
              let g : a.day ≡ 31 = d ∙ ap (λ (y : ℕ). month_length y a.month) e ∙ ap (month_length 2099) m ∙ last_december in
              let k : number a ≡ 40176 = ap number (same_fields a (date 2099 12 31) e m g) ∙ last_number in
              absurd (omega arith)
        ]

pub number_first : number (date 1990 1 1) ≡ 0
unfolding day_number year_days month_days
number_first = refl

-- every number below 40,177 is the number of a date,
pub numbered : (n : ℕ) → n < 40177 → (valid (date_of n) ≡ true) × (number (date_of n) ≡ n)
unfolding date_of
numbered zero h = (valid_first, number_first)
numbered (suc n) h =
    let r = numbered n (omega arith) in
    let e = r.1 in
    (valid_next (date_of n) r.0 (omega arith), number_next (date_of n) r.0 ∙ omega arith)

-- and every date has one,
pub number_below : (a : Date) → valid a ≡ true → number a < 40177
unfolding day_number
number_below a h =
    let f = date_facts a.year a.month a.day h in
    omega (arith, in_year f, year_more a.year f.from_first, years_rise (a.year - 1990 + 1) 110 (omega arith), all_days)

-- from which the date comes back
pub date_again : (a : Date) → valid a ≡ true → date_of (number a) ≡ a
date_again a h =
    let r = numbered (number a) (number_below a h) in
    same_number (date_of (number a)) a r.0 h r.1

-- 1990-01-01 is a Monday
pub first_weekday : weekday_of (number (date 1990 1 1)) ≡ 1
unfolding weekday_of
first_weekday = rw number_first

-- weekdays go round by seven: after Sunday comes Monday
pub next_weekday : (n : ℕ) → weekday_of (n + 1) ≡ pick (eqb (weekday_of n) 7) 1 (weekday_of n + 1)
unfolding weekday_of
next_weekday n =
    elim (ℕ_discrete (n % 7 + 1) 7) [
      | yes e ↦ rw (eq-eqb (n % 7 + 1) 7 e) (omega arith)
      | no e ↦ rw (ne_eqb (n % 7 + 1) 7 e) (omega arith)
    ]

pub same_weekday : (n : ℕ) → weekday_of (n + 7) ≡ weekday_of n
unfolding weekday_of
same_weekday n = omega arith

pub weekday_range : (n : ℕ) → (1 ≤ weekday_of n) × (weekday_of n ≤ 7)
unfolding weekday_of
weekday_range n = (omega arith, omega arith)

-- what an answer of `day_number` tells
known : (p : Bool) (x : ℕ) {n : ℕ} → pick p (Some x) None ≡ Some n → (p ≡ true) × (x ≡ n)
known true x e = (refl, cc)
known false x e = let z : ◌≡◌ {A = ℕ} 0 1 = cc in absurd (omega arith)

unknown : (p : Bool) (x : ℕ) → pick p (Some x) None ≡ None → p ≡ false
unknown true x e = let z : ◌≡◌ {A = ℕ} 0 1 = cc in absurd (omega arith)
unknown false x e = refl

pub number_known : (a : Date) {n : ℕ} → number_of a ≡ Some n → (valid a ≡ true) × (number a ≡ n)
unfolding number_of
number_known a e = known (valid a) (number a) e

pub number_unknown : (a : Date) → number_of a ≡ None → valid a ≡ false
unfolding number_of
number_unknown a e = unknown (valid a) (number a) e
