-- The services of an accepted interchange (document 01, "The register", Stage; "What each number means", 11 and 12).
-- s is the interchange, rows the buffer with the rows of its reading.
-- Assumes nothing.
use Rattle.std.specs.Prelude.{ℕ, ◌+◌, Bool, not, List, [], ◌∷◌, ltb, leb, length, Option, Some, None, Result, Ok, Err}
use Rattle.laws.specs.Choice.{pick, both}
use Rattle.laws.specs.Text.{bytes}
use Rattle.answers.specs.declared.Refusal.{Refusal}
use Rattle.answers.specs.Answers.{Answer, done, refused, wrong_service, number_twice}
use Rattle.syntax.specs.Bytes.{plain}
use Rattle.syntax.specs.Segment.{body_at}
use Rattle.syntax.specs.Pieces.{part_of}
use Rattle.parts.specs.declared.Part.{Part}
use Rattle.parts.specs.Places.{bytes_of, part_at, segment_of}
use Rattle.values.specs.Values.{same_text}
use Rattle.messages.specs.Tags.{PRD, MSD, POP, UIT}
use Rattle.services.specs.declared.Service.{Service}
use Rattle.services.specs.declared.PopRow.{PopRow}
use Rattle.services.specs.Rows.{offset_at, is_row, row_count, first_from, some_from, list_from}

-- "the groups 2 of its SKDUPD messages are services": each begins with its PRD, and no PRD of a TSDUPD stands in group 2
abbrev pub is_service : List ℕ → ℕ → Bool
is_service rows = is_row rows 2 PRD

-- "POP in group 4 of SKDUPD": no POP of a TSDUPD stands in group 4
abbrev pub is_period_row : List ℕ → ℕ → Bool
is_period_row rows = is_row rows 4 POP

-- "The number .. and 1225-1 stand where the PRD and MSD tables of 000 place them": in the first occurrence of the first
-- element, the number as first component of the PRD, 1225-1 as second of the MSD
unfoldable pub service_number : List ℕ → ℕ → Part
service_number s at = part_at s (segment_of s at) 1 1 1

unfoldable pub says_removal : List ℕ → ℕ → Bool
says_removal s at = same_text (plain (part_of (body_at s at) 1 1 2)) (bytes "56")

-- a service's rows go on to the next service, or to the UIT of its message
abbrev pub service_end : List ℕ → ℕ → ℕ → ℕ
service_end rows n k = first_from (is_row rows 0 UIT) (k + 1) (first_from (is_service rows) (k + 1) n)

-- "Where 1225-1 in the group's MSD is 56 it is a removal": k is the row of the MSD, or there is none before row `to`
abbrev pub removes_at : List ℕ → List ℕ → ℕ → ℕ → Bool
removes_at s rows to k = both (ltb k to) (says_removal s (offset_at rows k))

unfoldable pub removes : List ℕ → List ℕ → ℕ → ℕ → Bool
removes s rows from to = removes_at s rows to (first_from (is_row rows 2 MSD) from to)

-- the service whose PRD has the row k, of n rows
unfoldable pub service_at : List ℕ → List ℕ → ℕ → ℕ → Service
service_at s rows n k =
    record {
      prd = offset_at rows k;
      number = service_number s (offset_at rows k);
      removal = removes s rows (k + 1) (service_end rows n k);
      from = k;
      to = service_end rows n k;
    }

-- the first service from row i on, of n rows
abbrev pub service_found : List ℕ → List ℕ → ℕ → ℕ → Option Service
service_found s rows n k = pick (ltb k n) (Some (service_at s rows n k)) None

unfoldable pub next_service : List ℕ → List ℕ → ℕ → ℕ → Option Service
next_service s rows n i = service_found s rows (row_count rows n) (first_from (is_service rows) i (row_count rows n))

-- the first period from row i on, before row `to`: its row and its offset
abbrev pub period_at : List ℕ → ℕ → ℕ → Option PopRow
period_at rows n k = pick (ltb k n) (Some (record { row = k; offset = offset_at rows k })) None

unfoldable pub next_period : List ℕ → ℕ → ℕ → Option PopRow
next_period rows i to = period_at rows (row_count rows to) (first_from (is_period_row rows) i (row_count rows to))

-- the offsets of the periods from row i on, before row `to`: those of a service are from its first row on
abbrev pub periods_from : List ℕ → ℕ → ℕ → List ℕ
periods_from rows i to = list_from (is_period_row rows) (offset_at rows) i (row_count rows to)

abbrev pub periods_of : List ℕ → Service → List ℕ
periods_of rows v = periods_from rows v.from v.to

-- whether there is any
unfoldable pub has_period : List ℕ → ℕ → ℕ → Bool
has_period rows from to = some_from (is_period_row rows) from (row_count rows to)

-- "The number, 1 to 10 characters after release"
abbrev pub number_fits : ℕ → Bool
number_fits n = both (leb 1 n) (leb n 10)

-- "it is a removal and carries no POP; any other code, or none, is a put and carries at least one POP"
abbrev pub periods_fit : Bool → Bool → Bool
periods_fit removal carries = pick removal (not carries) carries

-- 11: "number, or POP missing or present wrongly"
unfoldable pub is_wrong : List ℕ → List ℕ → Service → Bool
is_wrong s rows v =
    not (both (number_fits (length (plain (bytes_of s v.number)))) (periods_fit v.removal (has_period rows v.from v.to)))

-- whether the PRD at an offset has a number, both read after release
unfoldable pub says_number : List ℕ → ℕ → List ℕ → Bool
says_number s at number = same_text (plain (bytes_of s (service_number s at))) (plain number)

-- whether row k begins a service of a number
unfoldable pub is_same_service : List ℕ → List ℕ → List ℕ → ℕ → Bool
is_same_service s rows number k = both (is_service rows k) (says_number s (offset_at rows k) number)

-- 12: "service number twice in the interchange": a service before this one has it
unfoldable pub is_twice : List ℕ → List ℕ → List ℕ → ℕ → Bool
is_twice s rows number before = some_from (is_same_service s rows number) 0 (row_count rows before)

-- "services in order, each 11, 12", at its PRD
unfoldable pub tested_of : List ℕ → List ℕ → Service → Answer (Unit {0})
tested_of s rows v =
    pick (is_wrong s rows v) (wrong_service v.prd)
    (pick (is_twice s rows (bytes_of s v.number) v.from) (number_twice v.prd) (done tt))

-- the services from row i on, of n rows, and those of an interchange, in order
abbrev pub services_from : List ℕ → List ℕ → ℕ → ℕ → List Service
services_from s rows n i = list_from (is_service rows) (service_at s rows n) i n

abbrev pub services_of : List ℕ → List ℕ → ℕ → List Service
services_of s rows n = services_from s rows (row_count rows n) 0

-- `more` counts on from the number of services so far
abbrev pub after_test : (ℕ → Answer ℕ) → ℕ → Answer (Unit {0}) → Answer ℕ
after_test more count (done _) = more (count + 1)
after_test more count (refused refusal) = refused refusal

-- the first refusal, or the number of services
unfoldable pub count_on : List ℕ → List ℕ → List Service → ℕ → Answer ℕ
count_on s rows [] count = done count
count_on s rows (v ∷ l) count = after_test (count_on s rows l) count (tested_of s rows v)

unfoldable pub counted_of : List ℕ → List ℕ → ℕ → Answer ℕ
counted_of s rows n = count_on s rows (services_of s rows n) 0

-- what each case answers: nothing, or the number of services, where all is good; else the refusal
abbrev pub tested_answer : Result (Unit {0}) Refusal → Answer (Unit {0})
tested_answer (Ok _) = done tt
tested_answer (Err x) = refused x

abbrev pub counted_answer : Result ℕ Refusal → Answer ℕ
counted_answer (Ok k) = done k
counted_answer (Err x) = refused x
