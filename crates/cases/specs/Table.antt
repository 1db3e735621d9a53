-- What a row of the table of cases says, and the test of a row. Document 01, "Cases (P: to be proved)".
-- Assumes nothing.
use Rattle.std.specs.Prelude.{ℕ, suc, ◌+◌, Bool, true, false, List, [], ◌∷◌, eqb, length, Result, Ok, Err}
use Prim.Native.String.{String}
use Rattle.laws.specs.Text.{bytes}
use Rattle.laws.specs.Choice.{both, among}
use Rattle.laws.specs.Sweep.{same, below}
use Rattle.syntax.specs.Segment.{body_at, segment_at}
use Rattle.syntax.specs.declared.segment.ScanError.{ScanError}
use Rattle.syntax.specs.declared.segment.ScanError.TheVariants.{NotPermitted, Unended, Malformed}
use Rattle.dates.specs.Dates.{number}
use Rattle.dates.specs.declared.Date.{Date}
use Rattle.answers.specs.Answers as answers
use Rattle.period.specs.Period.{period_of, period_answer, runs_in}
use Rattle.values.specs.Values.{same_text}
use Rattle.answers.specs.Answers.{Answer}
use Rattle.contents.specs.Contents.{Contents, good}
use Rattle.contents.specs.Written.{rooms_bytes}
use Rattle.shuffle.specs.Register.{Ask, Reply}
use Rattle.shuffle.specs.InContents.{in_contents}
use Rattle.period.specs.declared.Period.{Period}
use Rattle.period.specs.declared.Fault.{Fault}

-- which days of a period run
pub data Days : Type 0 where
  every : Days
  only : List Date → Days

-- what is to come of a case: a refusal with the paper's number and, as document 02, A2, has it, the part; or a period from a first date to a last, with so many days, and those of them that run
pub data Outcome : Type 0 where
  refused : ℕ → ℕ → Outcome
  period : Date → Date → ℕ → Days → Outcome

-- the caller's wish, true where he asks for the old reading, a POP as it is written, with its terminator, and what is to come of it; or a register's contents, a call of an account, and its answer
pub data Case : Type 0 where
  pop : Bool → String → Outcome → Case
  call : Contents → ℕ × Ask → Answer ℕ → Case

abbrev numbers : List Date → List ℕ
numbers [] = []
numbers (d ∷ l) = number d ∷ numbers l

-- whether a day is to run
unfoldable pub expected : Days → ℕ → Bool
expected every n = true
expected (only l) n = among n (numbers l)

-- the text is one whole segment
abbrev whole : ℕ → Result ℕ ScanError → Bool
whole n (Ok e) = eqb (suc e) n
whole n (Err error) = false

unfoldable pub comes_of : List ℕ → Result Period Fault → Outcome → Bool
comes_of g p (refused x part) = both (eqb (answers.number (period_answer 0 p)) x) (eqb (answers.part (period_answer 0 p)) part)
comes_of g (Err x) (period first last n days) = false
comes_of g (Ok v) (period first last n days) =
    both (eqb v.days.first (number first))
    (both (eqb (v.days.first + v.days.count) (suc (number last)))
    (both (eqb v.days.count n) (below (λ k. same (runs_in g (Ok v) k) (expected days (v.days.first + k))) v.days.count)))

-- the same number, position and part, or the same value
unfoldable pub same_answer : Answer ℕ → Answer ℕ → Bool
same_answer (answers.done x) (answers.done y) = eqb x y
same_answer (answers.done x) (answers.refused y) = false
same_answer (answers.refused x) (answers.done y) = false
same_answer (answers.refused x) (answers.refused y) = both (eqb x.number y.number) (both (eqb x.position y.position) (eqb x.part y.part))

-- a call that is refused leaves the bytes of all rooms as they were
unfoldable pub keeps : Contents → Contents → Answer ℕ → Bool
keeps c d (answers.done x) = true
keeps c d (answers.refused refusal) = same_text (rooms_bytes c.quotas c.accounts) (rooms_bytes d.quotas d.accounts)

unfoldable pub call_holds : Contents → Contents × Reply → Answer ℕ → Bool
call_holds c w a = both (good c) (both (same_answer w.1.answer a) (keeps c w.0 a))

unfoldable pub case_holds : Case → Bool
case_holds (call c d a) = call_holds c (in_contents c d) a
case_holds (pop wish text outcome) =
    both (whole (length (bytes text)) (segment_at (bytes text) 0))
    (comes_of (body_at (bytes text) 0) (period_of wish (body_at (bytes text) 0)) outcome)
