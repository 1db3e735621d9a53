-- From a day number back to its date: the whole years, then the whole months, then the day.
-- Assumes nothing.
use Rattle.std.specs.Prelude.{◌≡◌, true, false, ℕ, ◌+◌, ◌-◌, ◌<◌, ◌≤◌, Option, Some, None}
use Rattle.std.proofs.Common.{sym, ap, ◌∙◌, arith, lt-ltb, le-ltb}
use Rattle.std.proofs.Math.Decide.{dec_lt}
use Rattle.dates.specs.Days.{leap_year, month_length, is_date, month_days, year_days, day_number}
use Rattle.dates.specs.Dates.{date, made_of, date_of, dated}
use Rattle.dates.specs.Facts.{facts_date}
use Rattle.dates.specs.Laws.{month_more, year_more, all_days, same_number, numbered}
use Rattle.dates.specs.declared.Date.{Date}

-- day n stands in the year y, after d days of it
pub record InYear (y d n : ℕ) : Type 0 where
  pub from_first : 1990 ≤ y
  pub to_last : y ≤ 2099
  pub counted : year_days (y - 1990) + d ≡ n
  pub before_end : d < month_days y 12

-- day d of the year y stands in the month m, after e days of it
pub record InMonth (y m e d : ℕ) : Type 0 where
  pub from_january : 1 ≤ m
  pub to_december : m ≤ 12
  pub counted : month_days y (m - 1) + e ≡ d
  pub before_end : e < month_length y m

pub year_common : (y : ℕ) → leap_year y ≡ false → 365 ≡ month_days y 12
unfolding month_days month_length
year_common y e = rw e

pub year_leap : (y : ℕ) → leap_year y ≡ true → 366 ≡ month_days y 12
unfolding month_days month_length
year_leap y e = rw e

-- one whole year more
pub next_year : (y d n : ℕ) {r : ℕ} → n < 40177 → 1990 ≤ y → y ≤ 2099 → year_days (y - 1990) + d ≡ n → r ≡ month_days y 12 → r ≤ d
    → (1990 ≤ y + 1) × (y + 1 ≤ 2099) × (year_days (y + 1 - 1990) + (d - r) ≡ n)
next_year y d n h f l e g m =
    let s : y + 1 - 1990 ≡ y - 1990 + 1 = omega arith in
    let t = year_more y f in
    elim (dec_lt y 2099) [
      | yes u ↦ (omega arith, omega arith, rw s (omega arith))
      | no u ↦
          let q : y - 1990 + 1 ≡ 110 = omega arith in
          let r : year_days (y - 1990 + 1) ≡ 40177 = ap year_days q ∙ all_days in
          absurd (omega arith)
    ]

-- one whole month more
pub next_month : (y m e d : ℕ) {r : ℕ} → d < month_days y 12 → 1 ≤ m → m ≤ 12 → month_days y (m - 1) + e ≡ d → r ≡ month_length y m → r ≤ e
    → (1 ≤ m + 1) × (m + 1 ≤ 12) × (month_days y (m + 1 - 1) + (e - r) ≡ d)
next_month y m e d h f l c g k =
    let s : m + 1 - 1 ≡ m = omega arith in
    let t = month_more y m f in
    elim (dec_lt m 12) [
      | yes u ↦ (omega arith, omega arith, rw s (omega arith))
      | no u ↦
          let q : m ≡ 12 = omega arith in
          let r : month_days y m ≡ month_days y 12 = ap (month_days y) q in
          absurd (omega arith)
    ]

-- where the counting starts
pub no_years : (n : ℕ) → year_days 0 + n ≡ n
unfolding year_days
no_years n = omega arith

pub no_months_yet : (y d : ℕ) → month_days y 0 + d ≡ d
unfolding month_days
no_months_yet y d = omega arith

pub past_last : (n : ℕ) → 40177 ≤ n → None ≡ dated n
unfolding dated
past_last n h = rw (le-ltb n 40177 h)

-- the date found is the number's
pub found : (n : ℕ) {y m d e : ℕ} {r : Option Date} → n < 40177 → InYear y d n → InMonth y m e d → r ≡ made_of y m (e + 1) → r ≡ dated n
unfolding dated made_of day_number
found n {y} {m} {d} {e} {r} h a b q =
    let v : is_date y m (e + 1) ≡ true = facts_date (record { from_first = a.from_first; to_last = a.to_last; from_january = b.from_january; to_december = b.to_december; from_day_one = omega arith; in_month = omega (arith, b.before_end) }) in
    let w = numbered n h in
    let k : day_number y m (e + 1) ≡ n = omega (arith, a.counted, b.counted) in
    let s : date y m (e + 1) ≡ date_of n = same_number (date y m (e + 1)) (date_of n) v w.0 (k ∙ sym w.1) in
    q ∙ rw (v, lt-ltb n 40177 h) (ap Some s)
