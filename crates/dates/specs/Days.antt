-- Dates: the Gregorian calendar from 1990-01-01 to 2099-12-31, its days counted as a person counts them on paper.
-- Document 01, "Calendars". Assumes nothing.
use Rattle.std.specs.Prelude.{ℕ, zero, suc, ◌+◌, ◌-◌, ◌%◌, Bool, [], ◌∷◌, eqb, leb}
use Rattle.laws.specs.Choice.{pick, both, among}

-- Gregorian: each fourth year is a leap year, and of the years that end a century only each fourth
unfoldable pub leap_year : ℕ → Bool
leap_year y = pick (eqb (y % 100) 0) (eqb (y % 400) 0) (eqb (y % 4) 0)

-- "April, June, September and November have 30 days; February has 29 in leap years."
unfoldable pub month_length : ℕ → ℕ → ℕ
month_length y m =
    pick (eqb m 2) (pick (leap_year y) 29 28)
    (pick (among m (4 ∷ 6 ∷ 9 ∷ 11 ∷ [])) 30 31)

-- "Gregorian, 1990-01-01 to 2099-12-31"
unfoldable pub is_date : ℕ → ℕ → ℕ → Bool
is_date y m d =
    both (leb 1990 y) (both (leb y 2099) (both (leb 1 m) (both (leb m 12) (both (leb 1 d) (leb d (month_length y m))))))

-- the days of the first n months of the year y
unfoldable pub month_days : ℕ → ℕ → ℕ
month_days y zero = 0
month_days y (suc n) = month_days y n + month_length y (suc n)

-- the days of the n whole years from 1990 on
unfoldable pub year_days : ℕ → ℕ
year_days zero = 0
year_days (suc n) = year_days n + month_days (1990 + n) 12

-- the number of a day: the days of the whole years before, of the whole months before in its year, and of the month before it
unfoldable pub day_number : ℕ → ℕ → ℕ → ℕ
day_number y m d = year_days (y - 1990) + month_days y (m - 1) + (d - 1)

-- "Monday 1 to Sunday 7": day 0, 1990-01-01, is a Monday, and the weekdays go round by seven
unfoldable pub weekday_of : ℕ → ℕ
weekday_of n = n % 7 + 1
