-- "Dates are `yyyy-mm-dd`": a date as ten bytes, read and written.
-- Assumes nothing.
use Rattle.std.specs.Prelude.{ℕ, ◌+◌, ◌-◌, ◌*◌, ◌/◌, Bool, List, [], ◌∷◌, eqb, leb, get_or, length, Option, Some, None}
use Rattle.laws.specs.Choice.{pick, both}
use Rattle.laws.specs.Decimal.{digit}
use Rattle.dates.specs.Dates.{made_of}
use Rattle.dates.specs.declared.Date.{Date}

-- the ten bytes; 45 is the hyphen, 48 and 57 are the bytes of 0 and 9
unfoldable pub date_text : Date → List ℕ
date_text a =
    digit (a.year / 1000) ∷ digit (a.year / 100) ∷ digit (a.year / 10) ∷ digit a.year ∷ 45
    ∷ digit (a.month / 10) ∷ digit a.month ∷ 45
    ∷ digit (a.day / 10) ∷ digit a.day ∷ []

abbrev pub is_digit : ℕ → Bool
is_digit b = both (leb 48 b) (leb b 57)

unfoldable pub two_digits : ℕ → ℕ → Option ℕ
two_digits t o = pick (both (is_digit t) (is_digit o)) (Some ((t - 48) * 10 + (o - 48))) None

-- the two digits at an index, and four digits from two and two
unfoldable pub digits_at : List ℕ → ℕ → Option ℕ
digits_at s i = two_digits (get_or s i 0) (get_or s (i + 1) 0)

abbrev pub four_digits : Option ℕ → Option ℕ → Option ℕ
four_digits (Some a) (Some b) = Some (a * 100 + b)
four_digits (Some a) None = None
four_digits None d = None

-- go on with the number that digits give; there is no date where they are no digits
abbrev pub with : Option ℕ → (ℕ → Option Date) → Option Date
with (Some n) f = f n
with None f = None

-- the date at an offset: ten bytes, four digits, a hyphen, two digits, a hyphen, two digits
unfoldable pub date_at : List ℕ → ℕ → Option Date
date_at s at =
    pick (leb (at + 10) (length s))
    (pick (both (eqb (get_or s (at + 4) 0) 45) (eqb (get_or s (at + 7) 0) 45))
    (with (four_digits (digits_at s at) (digits_at s (at + 2))) (λ year.
    with (digits_at s (at + 5)) (λ month.
    with (digits_at s (at + 8)) (λ day.
    made_of year month day))))
    None)
    None
