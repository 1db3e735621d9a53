-- A POP in group 4 of SKDUPD: the days on which a service runs. Document 01, "Calendars"; number 10.
-- g is the segment without its terminator. "Element repetition in these is wrong; 2379, 4405 and further parts are not read."
-- Assumes nothing.
use Rattle.std.specs.Prelude.{ℕ, ◌+◌, Bool, true, false, not, List, [], ◌∷◌, eqb, leb, ltb, length, get_or, Option, Some, None, Result, Ok, Err}
use Rattle.laws.specs.Choice.{pick, both, either, all, among}
use Rattle.laws.specs.Text.{bytes}
use Rattle.answers.specs.Answers.{Answer, done, wrong_period}
use Rattle.syntax.specs.Bytes.{plain}
use Rattle.syntax.specs.Pieces.{part_of}
use Rattle.syntax.specs.Segment.{body_at, segment_at}
use Rattle.syntax.specs.declared.segment.ScanError.{ScanError}
use Rattle.syntax.specs.declared.segment.ScanError.TheVariants.{NotPermitted, Unended, Malformed}
use Rattle.parts.specs.Places.{repeats, present}
use Rattle.values.specs.Values.{same_text}
use Rattle.dates.specs.Days.{weekday_of}
use Rattle.dates.specs.Text.{date_at}
use Rattle.calendar.specs.Written.{days_span, span_of}
use Rattle.period.specs.declared.Form.{Form}
use Rattle.period.specs.declared.Form.TheVariants.{Every, ByString, ByWeekdays}
use Rattle.period.specs.declared.Fault.{Fault}
use Rattle.period.specs.declared.Fault.TheVariants.{BadDates, BadDayString, BadWeekdays, BothForms, NeitherForm, BadRest}
use Rattle.dates.specs.declared.Date.{Date}
use Rattle.calendar.specs.declared.Span.{Span}
use Rattle.period.specs.declared.Period.{Period}
use Rattle.period.specs.declared.Pop.{Pop}

-- The parts that are read, each the first occurrence and after release: the qualifier, `first/last`, 4440 and 2160.
abbrev pub qualifier : List ℕ → List ℕ
qualifier g = plain (part_of g 1 1 1)

abbrev pub first_last : List ℕ → List ℕ
first_last g = plain (part_of g 1 1 2)

abbrev pub day_text : List ℕ → List ℕ
day_text g = plain (part_of g 1 1 4)

abbrev pub week_text : List ℕ → List ℕ
week_text g = plain (part_of g 2 1 1)

-- "`first/last`, both counted, 1 to 512 days"
abbrev pub made_span : Option Date → Option Date → Option Span
made_span (Some first) (Some last) = days_span first last
made_span (Some first) None = None
made_span None last = None

-- ten bytes, a `/`, ten bytes
unfoldable pub span_in : List ℕ → Option Span
span_in t = pick (both (eqb (length t) 21) (eqb (get_or t 10 0) 47)) (made_span (date_at t 0) (date_at t 11)) None

-- "a string of `0` and `1`", and at most one character for each day. Document 02, A3: "A shorter string, of at least one character, means not
-- running on the days left. A longer one stays wrong."
abbrev pub zero_or_one : ℕ → Bool
zero_or_one b = either (eqb b 48) (eqb b 49)

unfoldable pub day_string : ℕ → List ℕ → Bool
day_string n t = both (leb (length t) n) (all zero_or_one t)

abbrev pub fits_days : ℕ → List ℕ → Bool
fits_days n t = either (not (present t)) (day_string n t)

-- "a string of weekdays, Monday 1 to Sunday 7, strictly rising": each after the one before it, the first after `0`
unfoldable pub rising_days : ℕ → List ℕ → Bool
rising_days before [] = true
rising_days before (b ∷ l) = both (both (ltb before b) (leb b 55)) (rising_days b l)

-- "Giving neither means every day."
abbrev pub form_of : List ℕ → List ℕ → Form
form_of days weekdays = pick (present days) ByString (pick (present weekdays) ByWeekdays Every)

-- Document 02, A2: "From now on a POP with neither form is refused unless the caller asks for the old reading." The wish is true where he asks.
abbrev pub lacks_form : Bool → List ℕ → List ℕ → Bool
lacks_form wish days weekdays = both (not wish) (both (not (present days)) (not (present weekdays)))

-- so a form tells the days: one that is given always, none at all where the caller asks
abbrev pub suffices : Bool → Form → Bool
suffices wish Every = wish
suffices wish ByString = true
suffices wish ByWeekdays = true

-- each part by itself, then "Giving both is wrong", then neither
unfoldable pub formed_of : Bool → ℕ → List ℕ → List ℕ → Result Form Fault
formed_of wish n days weekdays =
    pick (fits_days n days)
    (pick (rising_days 48 weekdays)
    (pick (both (present days) (present weekdays)) (Err BothForms)
    (pick (lacks_form wish days weekdays) (Err NeitherForm) (Ok (form_of days weekdays))))
    (Err BadWeekdays))
    (Err BadDayString)

-- "qualifier 273", and no element repetition in the two elements
unfoldable pub rest_good : List ℕ → Bool
rest_good g = both (same_text (qualifier g) (bytes "273")) (both (not (repeats g 1)) (not (repeats g 2)))

-- a period by the number of its first day, how many days it has, and what tells those that run; and the POP that ends at an offset and says it
abbrev pub period_from : ℕ → ℕ → Form → Result Period Fault
period_from f n form = Ok (record { days = span_of f n; form = form })

abbrev pub pop_from : ℕ → ℕ → ℕ → Form → Option Pop
pop_from e f n form = Some (record { end = e; period = record { days = span_of f n; form = form } })

-- each part is judged by itself, and the lowest fault named
abbrev pub period_by : Result Form Fault → Bool → ℕ → ℕ → Result Period Fault
period_by (Err x) rest f n = Err x
period_by (Ok form) rest f n = pick rest (period_from f n form) (Err BadRest)

abbrev pub period_on : Bool → Option Span → List ℕ → Result Period Fault
period_on wish None g = Err BadDates
period_on wish (Some s) g = period_by (formed_of wish s.count (day_text g) (week_text g)) (rest_good g) s.first s.count

unfoldable pub period_of : Bool → List ℕ → Result Period Fault
period_of wish g = period_on wish (span_in (first_last g)) g

-- whether a POP says a period, so that it is no 10
abbrev pub is_good : Result Period Fault → Bool
is_good (Ok v) = true
is_good (Err x) = false

-- the part's number: "dates 1, day string 2, weekdays 3, both forms 4, neither form 5, anything else 6"
unfoldable pub fault_number : Fault → ℕ
fault_number BadDates = 1
fault_number BadDayString = 2
fault_number BadWeekdays = 3
fault_number BothForms = 4
fault_number NeitherForm = 5
fault_number BadRest = 6

-- the days that a POP gives: the number of the first, how many there are, and what tells which of them run
pub record Given : Type 0 where
  pub first : ℕ
  pub count : ℕ
  pub form : Form

-- what each case answers, of a POP at an offset
abbrev pub period_answer : ℕ → Result Period Fault → Answer Given
period_answer at (Ok v) = done (record { first = v.days.first; count = v.days.count; form = v.form })
period_answer at (Err x) = wrong_period at (fault_number x)

-- 10, "POP contents", at the POP, with "the lowest that applies" of its parts; else its days
abbrev pub pop_by : ℕ → Result Form Fault → Bool → ℕ → ℕ → Answer Given
pop_by at (Err x) rest f n = wrong_period at (fault_number x)
pop_by at (Ok form) rest f n = pick rest (done (record { first = f; count = n; form = form })) (wrong_period at 6)

abbrev pub pop_on : Bool → ℕ → Option Span → List ℕ → Answer Given
pop_on wish at None g = wrong_period at 1
pop_on wish at (Some s) g = pop_by at (formed_of wish s.count (day_text g) (week_text g)) (rest_good g) s.first s.count

unfoldable pub pop_answer : Bool → ℕ → List ℕ → Answer Given
pop_answer wish at g = pop_on wish at (span_in (first_last g)) g

-- whether the day k days after the first runs, f the number of the first; a string that has no character for it reads as 0 there, which is no `1`
unfoldable pub runs_by : List ℕ → Form → ℕ → ℕ → Bool
runs_by g Every f k = true
runs_by g ByString f k = eqb (get_or (day_text g) k 0) 49
runs_by g ByWeekdays f k = among (48 + weekday_of (f + k)) (week_text g)

-- past the last day none runs, nor does any day of a wrong period
unfoldable pub runs_in : List ℕ → Result Period Fault → ℕ → Bool
runs_in g (Ok v) k = both (ltb k v.days.count) (runs_by g v.form v.days.first k)
runs_in g (Err x) k = false

abbrev pub runs : Bool → List ℕ → ℕ → Bool
runs wish g k = runs_in g (period_of wish g) k

-- A segment at an offset of an input that is whole and says a good period: where its terminator stands, and the period. Whatever else stands there is no
-- such POP: "4, 5, 6" are the segment's, 10 is the period's.
abbrev pub pop_of : Result ℕ ScanError → Result Period Fault → Option Pop
pop_of (Ok e) (Ok v) = Some (record { end = e; period = v })
pop_of (Ok e) (Err x) = None
pop_of (Err error) p = None

unfoldable pub pop_at : Bool → List ℕ → ℕ → Option Pop
pop_at wish s at = pop_of (segment_at s at) (period_of wish (body_at s at))
