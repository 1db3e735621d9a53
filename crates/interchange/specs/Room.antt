-- The room that each call of the reader gathers rows in. Assumes nothing.
use Rattle.std.specs.Prelude.{ℕ}

-- 128 rows, three numbers each
abbrev pub room_size : ℕ
room_size = 384

abbrev pub room_rows : ℕ
room_rows = 128

-- from so many numbers on there is no place for a row more
abbrev pub full_from : ℕ
full_from = 382

-- a full room has the rows of so many bytes at least: a segment has four, and a row three numbers
abbrev pub least_bytes : ℕ
least_bytes = 500
