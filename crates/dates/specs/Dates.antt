-- Dates as values: what three numbers make, the number of a date, the day after, and which of two is the earlier.
-- Assumes nothing.
use Rattle.std.specs.Prelude.{ℕ, zero, suc, ◌+◌, ◌<◌, ◌≡◌, Bool, ◌⊎◌, ltb, Option, Some, None}
use Rattle.laws.specs.Choice.{pick}
use Rattle.dates.specs.Days.{month_length, is_date, day_number}
use Rattle.dates.specs.declared.Date.{Date}

abbrev pub date : ℕ → ℕ → ℕ → Date
date y m d = record { year = y; month = m; day = d }

-- the date that three numbers make, where they make one
unfoldable pub made_of : ℕ → ℕ → ℕ → Option Date
made_of y m d = pick (is_date y m d) (Some (date y m d)) None

-- whether a value of the type is a date
abbrev pub valid : Date → Bool
valid a = is_date a.year a.month a.day

-- the number of the day that they make
unfoldable pub day_of : ℕ → ℕ → ℕ → Option ℕ
day_of y m d = pick (is_date y m d) (Some (day_number y m d)) None

-- the day number of a value that is a date
abbrev pub number : Date → ℕ
number a = day_number a.year a.month a.day

unfoldable pub number_of : Date → Option ℕ
number_of a = pick (valid a) (Some (number a)) None

-- the day after: the next in the month, else the first of the next month, else the first of January
unfoldable pub next_day : Date → Date
next_day a =
    pick (ltb a.day (month_length a.year a.month)) (date a.year a.month (a.day + 1))
    (pick (ltb a.month 12) (date a.year (a.month + 1) 1) (date (a.year + 1) 1 1))

-- the date n days after 1990-01-01
unfoldable pub date_of : ℕ → Date
date_of zero = date 1990 1 1
date_of (suc n) = next_day (date_of n)

-- the date that a day number has, where it has one: those of 1990-01-01 to 2099-12-31 are the first 40,177 numbers
unfoldable pub dated : ℕ → Option Date
dated n = pick (ltb n 40177) (Some (date_of n)) None

-- the one stands before the other: by the year, then the month, then the day
abbrev pub Earlier : Date → Date → Type 0
Earlier a b =
    (a.year < b.year) ⊎ ((a.year ≡ b.year) × ((a.month < b.month) ⊎ ((a.month ≡ b.month) × (a.day < b.day))))
