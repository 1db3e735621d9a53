-- "Bit k of a calendar is the day k days after its first date": bit k is bit k % 8, counted from the lowest, of byte k / 8.
-- Document 01, "Calendars". Assumes nothing.
use Rattle.std.specs.Prelude.{ℕ, ◌/◌, ◌%◌, ◌^◌, Bool, List, eqb, get_or, set}
use Rattle.std.specs.Int.Bits.{bit_or}

-- bit j of a number, and whether it is set
abbrev pub bit : ℕ → ℕ → ℕ
bit x j = x / 2 ^ j % 2

unfoldable pub has_bit : ℕ → ℕ → Bool
has_bit x j = eqb (bit x j) 1

unfoldable pub with_bit : ℕ → ℕ → ℕ
with_bit x j = bit_or x (2 ^ j)

-- whether day k is selected; past the end none is
unfoldable pub day : List ℕ → ℕ → Bool
day c k = has_bit (get_or c (k / 8) 0) (k % 8)

-- the calendar with day k selected too; past the end there is none to select
unfoldable pub with_day : List ℕ → ℕ → List ℕ
with_day c k = set c (k / 8) (with_bit (get_or c (k / 8) 0) (k % 8))
