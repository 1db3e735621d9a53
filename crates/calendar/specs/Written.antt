-- The written forms of a calendar: each is a whole POP segment with its terminator. Document 01, "Calendars", "What each number means".
-- Assumes nothing.
use Rattle.std.specs.Prelude.{ℕ, zero, suc, ◌+◌, ◌-◌, Bool, true, false, not, List, [], ◌∷◌, ◌++◌, eqb, leb, length, Option, Some, None, Result, Ok, Err}
use Rattle.laws.specs.Choice.{pick, both, either}
use Rattle.laws.specs.Text.{bytes}
use Rattle.answers.specs.Answers.{Answer, done, output_too_short, bad_calendar, no_weekday_form}
use Rattle.dates.specs.Days.{weekday_of}
use Rattle.dates.specs.Dates.{valid, number}
use Rattle.laws.specs.Put.{put_at}
use Rattle.dates.specs.Text.{date_text}
use Rattle.dates.specs.declared.Date.{Date}
use Rattle.calendar.specs.Days.{day}
use Rattle.calendar.specs.declared.Span.{Span}
use Rattle.calendar.specs.declared.WriteError.{WriteError}
use Rattle.calendar.specs.declared.WriteError.TheVariants.{BadCalendar, NoWeekdayForm, NoRoom}

-- what each case answers: "the writer returns the bytes written", or number and position
abbrev pub written_answer : Result ℕ WriteError → Answer ℕ
written_answer (Ok n) = done n
written_answer (Err BadCalendar) = bad_calendar
written_answer (Err NoWeekdayForm) = no_weekday_form
written_answer (Err NoRoom) = output_too_short

-- whether one of the n days from day k on is selected
unfoldable pub any_day : List ℕ → ℕ → ℕ → Bool
any_day c k zero = false
any_day c k (suc n) = either (day c k) (any_day c (k + 1) n)

-- "`first/last`, both counted"
abbrev pub day_count : Date → Date → ℕ
day_count first last = number last - number first + 1

-- two dates, the last not before the first, "1 to 512 days"
unfoldable pub good_period : Date → Date → Bool
good_period first last =
    both (valid first) (both (valid last) (both (leb (number first) (number last)) (leb (day_count first last) 512)))

abbrev pub span_of : ℕ → ℕ → Span
span_of f n = record { first = f; count = n }

-- the same by the numbers of the first and the last day
unfoldable pub numbers_span : ℕ → ℕ → Option Span
numbers_span f t = pick (both (leb f t) (leb (t - f + 1) 512)) (Some (span_of f (t - f + 1))) None

-- the number of the first day and how many days there are, where the period is good
unfoldable pub days_span : Date → Date → Option Span
days_span first last = pick (good_period first last) (Some (span_of (number first) (day_count first last))) None

-- what can be written: 64 bytes, a good period, no day past the last. Anything else is 19, "calendar to write has bad dates, bad length
-- or a bit past its last day"
unfoldable pub good_calendar : List ℕ → Date → Date → Bool
good_calendar c first last =
    both (eqb (length c) 64)
    (both (good_period first last) (not (any_day c (day_count first last) (512 - day_count first last))))

-- its period, where it can
unfoldable pub checked_of : List ℕ → Date → Date → Option Span
checked_of c first last = pick (good_calendar c first last) (Some (span_of (number first) (day_count first last))) None

-- POP+273:first/last, which both forms begin with
unfoldable pub start : Date → Date → List ℕ
start first last =
    bytes "POP+273:" ++ date_text first ++ bytes "/" ++ date_text last

-- "a string of `0` and `1`", one character for each day: that of day k, and those of the n days from day k on
unfoldable pub day_character : List ℕ → ℕ → ℕ
day_character c k = pick (day c k) 49 48

unfoldable pub day_characters : List ℕ → ℕ → ℕ → List ℕ
day_characters c k zero = []
day_characters c k (suc n) = day_character c k ∷ day_characters c (k + 1) n

-- Document 02, A3: how many characters the short form has of n days: "up to the last running day, or a single 0 if there is none"
unfoldable pub short_count : List ℕ → ℕ → ℕ
short_count c zero = 1
short_count c (suc n) = pick (day c n) (suc n) (short_count c n)

-- "The writer writes all characters, or on request the short form"
abbrev pub character_count : Bool → List ℕ → ℕ → ℕ
character_count short c n = pick short (short_count c n) n

-- the day string of n characters is component 4440, the fourth of the first element; the third is empty
unfoldable pub day_string_text : List ℕ → Date → Date → ℕ → List ℕ
day_string_text c first last n = start first last ++ bytes "::" ++ day_characters c 0 n ++ bytes "'"

-- 17, "lent output too short", else the bytes written
unfoldable pub text_answer : List ℕ → List ℕ → Answer ℕ
text_answer text out = pick (leb (length text) (length out)) (done (length text)) output_too_short

-- the day string of a calendar, in full or short
abbrev pub string_text : Bool → List ℕ → Date → Date → List ℕ
string_text short c first last = day_string_text c first last (character_count short c (day_count first last))

-- "the day string always exists": 19, then 17, then the bytes
unfoldable pub day_string_answer : Bool → List ℕ → Date → Date → List ℕ → Answer ℕ
day_string_answer short c first last out =
    pick (good_calendar c first last) (text_answer (string_text short c first last) out) bad_calendar

-- on a refusal the lent bytes stay, and so do those past the text
unfoldable pub day_string_bytes : Bool → List ℕ → Date → Date → List ℕ → List ℕ
day_string_bytes short c first last out =
    pick (good_calendar c first last) (put_at out 0 (string_text short c first last)) out

-- whether one of the first n days is selected and falls on the weekday w; f is the number of the first date
unfoldable pub named : List ℕ → ℕ → ℕ → ℕ → Bool
named c f zero w = false
named c f (suc n) w = either (both (day c n) (eqb (weekday_of (f + n)) w)) (named c f n w)

-- whether each of the m days from day k on is selected whose weekday passes a test; f is the number of the first date
unfoldable pub all_on : (ℕ → Bool) → List ℕ → ℕ → ℕ → ℕ → Bool
all_on t c f k zero = true
all_on t c f k (suc m) = both (either (not (t (weekday_of (f + k)))) (day c k)) (all_on t c f (k + 1) m)

-- "The weekday form exists when at least one day is selected and every day of the period that shares its weekday with a selected
-- day is selected too"
unfoldable pub weekday_form : List ℕ → ℕ → ℕ → Bool
weekday_form c f n = both (any_day c 0 n) (all_on (named c f n) c f 0 n)

-- the digits of those of the m weekdays from w on of which a test holds
unfoldable pub digits_from : (ℕ → Bool) → ℕ → ℕ → List ℕ
digits_from t w zero = []
digits_from t w (suc m) = pick (t w) ((48 + w) ∷ []) [] ++ digits_from t (w + 1) m

-- a weekday string is element 2160, the second
unfoldable pub named_text : Date → Date → List ℕ → List ℕ
named_text first last digits = start first last ++ bytes "+" ++ digits ++ bytes "'"

-- "it names those weekdays"
abbrev pub weekday_text : List ℕ → Date → Date → List ℕ
weekday_text c first last = named_text first last (digits_from (named c (number first) (day_count first last)) 1 7)

-- 19, then 20, then 17, then the bytes
unfoldable pub weekday_answer : List ℕ → Date → Date → List ℕ → Answer ℕ
weekday_answer c first last out =
    pick (good_calendar c first last)
    (pick (weekday_form c (number first) (day_count first last)) (text_answer (weekday_text c first last) out) no_weekday_form)
    bad_calendar

unfoldable pub weekday_bytes : List ℕ → Date → Date → List ℕ → List ℕ
weekday_bytes c first last out =
    pick (both (good_calendar c first last) (weekday_form c (number first) (day_count first last)))
    (put_at out 0 (weekday_text c first last)) out

-- "All three forms of a calendar": which of them there are, and the text of each
pub data WrittenForm : Type 0 where
  all_characters : WrittenForm
  short_form : WrittenForm
  weekdays : WrittenForm

abbrev pub form_exists : WrittenForm → List ℕ → Date → Date → Bool
form_exists all_characters c first last = true
form_exists short_form c first last = true
form_exists weekdays c first last = weekday_form c (number first) (day_count first last)

abbrev pub form_text : WrittenForm → List ℕ → Date → Date → List ℕ
form_text all_characters c first last = string_text false c first last
form_text short_form c first last = string_text true c first last
form_text weekdays c first last = weekday_text c first last
