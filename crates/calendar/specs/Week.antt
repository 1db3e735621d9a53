-- The weekdays of selected days as the bits of a byte.
-- Assumes nothing.
use Rattle.std.specs.Prelude.{ℕ, zero, suc, ◌+◌, Bool, true, false, List}
use Rattle.dates.specs.Days.{weekday_of}
use Rattle.calendar.specs.Days.{day, with_bit}

-- the byte with bit w set too, where a test holds
unfoldable pub mark : Bool → ℕ → ℕ → ℕ
mark true x w = with_bit x w
mark false x w = x

-- the byte whose bit w is set where one of the first n days is selected and falls on the weekday w
unfoldable pub week_of : List ℕ → ℕ → ℕ → ℕ
week_of c f zero = 0
week_of c f (suc n) = mark (day c n) (week_of c f n) (weekday_of (f + n))
