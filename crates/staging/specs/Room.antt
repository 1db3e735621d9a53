-- Staging in a room, on any bytes: the tests, 15, then all removals and all puts.
-- Assumes nothing.
use Rattle.std.specs.Prelude.{ℕ, ◌+◌, ◌/◌, Bool, List, leb, length, Result, Ok, Err}
use Rattle.laws.specs.Choice.{pick}
use Rattle.answers.specs.Answers.{Answer, done, refused, not_register, bad_account, over_quota}
use Rattle.slots.specs.Slots.{slots_of}
use Rattle.slots.specs.Rising.{leading}
use Rattle.services.specs.Services.{services_of}
use Rattle.service_entries.specs.Room.{look_at, removes_in, puts_in}
use Rattle.service_tests.specs.declared.Totals.{Totals}
use Rattle.service_tests.specs.Tests.{test_all, no_totals}
use Rattle.staging.specs.declared.StageError.{StageError}
use Rattle.staging.specs.declared.StageError.TheVariants.{NotRegister, NoAccount, Refused}

-- "What each number means"
abbrev pub staged_answer : Result ℕ StageError → Answer ℕ
staged_answer (Ok n) = done n
staged_answer (Err NotRegister) = not_register
staged_answer (Err NoAccount) = bad_account
staged_answer (Err (Refused x)) = refused x

abbrev pub room_tests : List ℕ → ℕ → List ℕ → List ℕ → ℕ → Answer Totals
room_tests room first s rows n = test_all first s rows (look_at room) (services_of s rows n) no_totals

-- 15: the used slots and what is added, against all slots and what is dropped
abbrev pub room_fits : List ℕ → Totals → Bool
room_fits room u = leb (leading (slots_of room) + u.added) (length room / 140 + u.dropped)

abbrev pub room_answer : List ℕ → List ℕ → Answer Totals → Answer ℕ
room_answer room s (refused refusal) = refused refusal
room_answer room s (done u) = pick (room_fits room u) (done u.services) (over_quota (length s))

abbrev pub room_after : List ℕ → ℕ → List ℕ → List ℕ → ℕ → Answer Totals → List ℕ
room_after room first s rows n (refused refusal) = room
room_after room first s rows n (done u) = pick (room_fits room u) (puts_in first s rows (services_of s rows n) (removes_in s (services_of s rows n) room)) room
