-- "What each number means" (document 01): what a function answers, and one definition for each row of the table.
-- A refusal's position is 0 where the table says so; else it is the offset that the definition takes.
-- Assumes nothing.
use Rattle.std.specs.Prelude.{ℕ}
use Rattle.answers.specs.declared.Refusal.{Refusal}

-- "Every refusal returns number and position": done, number 0, with its value; or refused, with number, position and part
pub data Answer (A : Type 0) : Type 0 where
  done : A → Answer A
  refused : Refusal → Answer A

-- a number at a position. Document 02, A2: the part is "0 for other numbers" than 10
abbrev pub naming : ℕ → ℕ → Refusal
naming number at = record { number = number; position = at; part = 0 }

-- the same at another position
abbrev pub moved_to : ℕ → Refusal → Refusal
moved_to at x = record { number = x.number; position = at; part = x.part }

-- 1: "buffer is not a register (for opening: wrong length)", 0
abbrev pub not_register : {A : Type 0} → Answer A
not_register = refused (naming 1 0)

-- 2: "account not 1 to 8", 0
abbrev pub bad_account : {A : Type 0} → Answer A
bad_account = refused (naming 2 0)

-- 3: "interchange empty or over 60,000 bytes", 0
abbrev pub bad_size : {A : Type 0} → Answer A
bad_size = refused (naming 3 0)

-- 4: "byte not permitted", "that byte"
abbrev pub byte_not_permitted : {A : Type 0} → ℕ → Answer A
byte_not_permitted at = refused (naming 4 at)

-- 5: "input ends inside a segment", "its first byte"
abbrev pub input_ends : {A : Type 0} → ℕ → Answer A
input_ends at = refused (naming 5 at)

-- 6: "tag or a segment limit", "segment"
abbrev pub wrong_segment : {A : Type 0} → ℕ → Answer A
wrong_segment at = refused (naming 6 at)

-- 7: "envelope order, contents, counts, bytes after UIZ", "segment, or the first byte after"
abbrev pub wrong_envelope : {A : Type 0} → ℕ → Answer A
wrong_envelope at = refused (naming 7 at)

-- 8: "type or directory not known", "UIH"
abbrev pub unknown_type : {A : Type 0} → ℕ → Answer A
unknown_type at = refused (naming 8 at)

-- 9: "out of place", "segment"
abbrev pub out_of_place : {A : Type 0} → ℕ → Answer A
out_of_place at = refused (naming 9 at)

-- 10: "POP contents", "segment"; document 02, A2: "A refusal 10 is to say which part was wrong"
abbrev pub wrong_period : {A : Type 0} → ℕ → ℕ → Answer A
wrong_period at part = refused (record { number = 10; position = at; part = part })

-- 11: "number, or POP missing or present wrongly", "its PRD"
abbrev pub wrong_service : {A : Type 0} → ℕ → Answer A
wrong_service prd = refused (naming 11 prd)

-- 12: "service number twice in the interchange", "second PRD"
abbrev pub number_twice : {A : Type 0} → ℕ → Answer A
number_twice prd = refused (naming 12 prd)

-- 13: "period not wholly in the window", "POP"
abbrev pub outside_window : {A : Type 0} → ℕ → Answer A
outside_window at = refused (naming 13 at)

-- 14: "removal of an unknown service", "PRD"
abbrev pub unknown_service : {A : Type 0} → ℕ → Answer A
unknown_service prd = refused (naming 14 prd)

-- 15: "more records than the quota at the end", "interchange length"
abbrev pub over_quota : {A : Type 0} → ℕ → Answer A
over_quota length = refused (naming 15 length)

-- 16: "nothing pending to withdraw; no k-th record", 0
abbrev pub nothing_pending : {A : Type 0} → Answer A
nothing_pending = refused (naming 16 0)

abbrev pub no_record : {A : Type 0} → Answer A
no_record = refused (naming 16 0)

-- 17: "lent output too short", 0
abbrev pub output_too_short : {A : Type 0} → Answer A
output_too_short = refused (naming 17 0)

-- 18: "quotas sum over 256, first date invalid, or window outside the dates", 0
abbrev pub bad_opening : {A : Type 0} → Answer A
bad_opening = refused (naming 18 0)

-- 19: "calendar to write has bad dates, bad length or a bit past its last day", 0
abbrev pub bad_calendar : {A : Type 0} → Answer A
bad_calendar = refused (naming 19 0)

-- 20: "no weekday form", 0
abbrev pub no_weekday_form : {A : Type 0} → Answer A
no_weekday_form = refused (naming 20 0)

-- 21 (document 02, A1): "segment over 4,096 bytes with its terminator", "at its first byte"
abbrev pub segment_too_long : {A : Type 0} → ℕ → Answer A
segment_too_long at = refused (naming 21 at)

-- the two columns of the table: 0 is done, and has no position
abbrev pub number : {A : Type 0} → Answer A → ℕ
number (done a) = 0
number (refused x) = x.number

abbrev pub position : {A : Type 0} → Answer A → ℕ
position (done a) = 0
position (refused x) = x.position

-- and the part: dates 1, day string 2, weekdays 3, both forms 4, neither form 5, anything else 6; 0 beside every number but 10
abbrev pub part : {A : Type 0} → Answer A → ℕ
part (done a) = 0
part (refused x) = x.part
