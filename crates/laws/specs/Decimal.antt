-- A number in decimal digits. Document 01, "Bytes and segments": "counts are decimal with no leading zero".
-- Assumes nothing.
use Rattle.std.specs.Prelude.{ℕ, zero, suc, ◌+◌, ◌/◌, ◌%◌, List, [], ◌∷◌, ◌++◌, ltb}
use Rattle.laws.specs.Choice.{pick}

-- the last digit of a number, as a byte; the bytes of 0 and 9 are 48 and 57
abbrev pub digit : ℕ → ℕ
digit n = 48 + n % 10

-- at most f digits: a number below 10 is its digit; any other is the digits of its tenth, then its last digit
unfoldable pub decimal_on : ℕ → ℕ → List ℕ
decimal_on zero n = []
decimal_on (suc f) n = pick (ltb n 10) (digit n ∷ []) (decimal_on f (n / 10) ++ (digit n ∷ []))

-- a number of 64 bits has at most 20 digits
abbrev pub decimal_of : ℕ → List ℕ
decimal_of n = decimal_on 20 n
