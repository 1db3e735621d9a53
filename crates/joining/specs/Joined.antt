-- The union of periods over a window of days. "A service's days are those selected by at least one of its periods."
-- Document 01, "Calendars", "What each number means": 10 and 13.
-- Assumes nothing.
use Rattle.std.specs.Prelude.{ℕ, zero, suc, ◌+◌, ◌-◌, ◌*◌, ◌%◌, Bool, false, List, [], ◌∷◌, leb, length, Result, Ok, Err}
use Rattle.laws.specs.Choice.{pick, both, either}
use Rattle.answers.specs.Answers.{Answer, done, refused, wrong_period, outside_window}
use Rattle.calendar.specs.Days.{with_bit, with_day}
use Rattle.period.specs.Period.{Given, period_of, fault_number, pop_answer, runs_by, runs_in}
use Rattle.period.specs.declared.Form.{Form}
use Rattle.period.specs.declared.Period.{Period}
use Rattle.period.specs.declared.Fault.{Fault}
use Rattle.joining.specs.declared.JoinError.{JoinError}
use Rattle.joining.specs.declared.JoinError.TheVariants.{WrongPeriod, Outside}

-- the calendar with those of the m days from day k on selected too of which a test holds; day 0 is at an index of the calendar
unfoldable pub marked : (ℕ → Bool) → List ℕ → ℕ → ℕ → ℕ → List ℕ
marked t c at k zero = c
marked t c at k (suc m) = marked t (pick (t k) (with_day c (at + k)) c) at (k + 1) m

-- 13, "period not wholly in the window": n days from the day f on, in a window of so many days from the day o on
abbrev pub in_window : ℕ → ℕ → ℕ → ℕ → Bool
in_window days o f n = both (leb o f) (leb (f - o + n) days)

abbrev pub joined : Result (Unit {0}) JoinError
joined = Ok tt

unfoldable pub window_answer : ℕ → ℕ → ℕ → ℕ → Result (Unit {0}) JoinError
window_answer bytes o f n = pick (in_window (8 * bytes) o f n) joined (Err Outside)

unfoldable pub window_days : List ℕ → ℕ → List ℕ → ℕ → ℕ → Form → List ℕ
window_days c o g f n form = pick (in_window (8 * length c) o f n) (marked (runs_by g form f) c (f - o) 0 n) c

-- joining what a POP g says to a caller with a wish: 10, then 13
abbrev pub window_answer_by : ℕ → ℕ → Result Period Fault → Result (Unit {0}) JoinError
window_answer_by bytes o (Err x) = Err (WrongPeriod x)
window_answer_by bytes o (Ok v) = window_answer bytes o v.days.first v.days.count

unfoldable pub answered : Bool → ℕ → ℕ → List ℕ → Result (Unit {0}) JoinError
answered wish bytes o g = window_answer_by bytes o (period_of wish g)

-- a refusal leaves the calendar as it was
abbrev pub joined_by : List ℕ → ℕ → List ℕ → Result Period Fault → List ℕ
joined_by c o g (Err x) = c
joined_by c o g (Ok v) = window_days c o g v.days.first v.days.count v.form

unfoldable pub days_joined : Bool → List ℕ → ℕ → List ℕ → List ℕ
days_joined wish c o g = joined_by c o g (period_of wish g)

-- several POPs, one after the other
unfoldable pub join_all : Bool → List ℕ → ℕ → List (List ℕ) → List ℕ
join_all wish c o [] = c
join_all wish c o (g ∷ gs) = join_all wish (days_joined wish c o g) o gs

-- what each case answers, of a POP at an offset
abbrev pub joined_answer : ℕ → Result (Unit {0}) JoinError → Answer (Unit {0})
joined_answer at (Ok x) = done tt
joined_answer at (Err (WrongPeriod x)) = wrong_period at (fault_number x)
joined_answer at (Err Outside) = outside_window at

-- the POP's own answer first, then 13, at the POP
abbrev pub windowed : ℕ → ℕ → ℕ → Answer Given → Answer (Unit {0})
windowed at bytes o (done p) = pick (in_window (8 * bytes) o p.first p.count) (done tt) (outside_window at)
windowed at bytes o (refused refusal) = refused refusal

abbrev pub join_answer : Bool → ℕ → ℕ → ℕ → List ℕ → Answer (Unit {0})
join_answer wish at bytes o g = windowed at bytes o (pop_answer wish at g)

-- whether a POP selects the day with a number
abbrev pub selects_by : List ℕ → Result Period Fault → ℕ → Bool
selects_by g (Err x) d = false
selects_by g (Ok v) d = both (leb v.days.first d) (runs_in g (Ok v) (d - v.days.first))

unfoldable pub selects : Bool → List ℕ → ℕ → Bool
selects wish g d = selects_by g (period_of wish g) d

-- whether at least one of some POPs does
abbrev pub any_selects : Bool → List (List ℕ) → ℕ → Bool
any_selects wish [] d = false
any_selects wish (g ∷ gs) d = either (selects wish g d) (any_selects wish gs d)

-- the weekdays of a text as the bits of a byte
unfoldable pub week_bits : ℕ → List ℕ → ℕ
week_bits x [] = x
week_bits x (b ∷ l) = week_bits (with_bit x (b % 8)) l
