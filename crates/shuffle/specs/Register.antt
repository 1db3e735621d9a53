-- "Take calls by different accounts on one register: stage, release, withdraw and show. However the accounts' lists of calls are shuffled
-- together, each account keeping its own order, every call gets the same answer and output, and the register ends with the same bytes.
-- Refused calls count as calls, and each call lends its own output."
-- Here: what a call is, and what comes of it, by the definitions that the functions' contracts cite. specs/Theorems.antt has the demand.
-- Assumes nothing.
use Rattle.std.specs.Prelude.{ℕ, Bool, List, []}
use Rattle.answers.specs.Answers.{Answer}
use Rattle.contents.specs.Contents.{Record}
use Rattle.contents.specs.Calls.{View, release_of, withdraw_of, show_answer, show_bytes, answer_on, bytes_after, output_after}
use Rattle.stages.specs.Stage.{stage_of}

-- which of the four, with its arguments: the wish, true where the account asks for the old reading, and an interchange; a number; the number of a record and the output as it is lent
pub data Ask : Type 0 where
  stage : Bool → List ℕ → Ask
  release : Ask
  withdraw : List ℕ → Ask
  show : ℕ → List ℕ → Ask

-- what a call gets: its answer, and the bytes of its output afterwards (of a call that lends none: none)
pub record Reply : Type 0 where
  pub answer : Answer ℕ
  pub output : List ℕ

-- each on the account's view
abbrev pub asked_answer : Ask → View → Answer ℕ
asked_answer (stage wish s) v = (stage_of wish s v).answer
asked_answer release v = (release_of v).answer
asked_answer (withdraw x) v = (withdraw_of x v).answer
asked_answer (show k out) v = show_answer k out v

abbrev pub records_by : Ask → View → List Record
records_by (stage wish s) v = (stage_of wish s v).records
records_by release v = (release_of v).records
records_by (withdraw x) v = (withdraw_of x v).records
records_by (show k out) v = v.records

abbrev pub lent_by : Ask → List ℕ
lent_by (stage wish s) = []
lent_by release = []
lent_by (withdraw x) = []
lent_by (show k out) = out

abbrev pub output_by : Ask → View → List ℕ
output_by (stage wish s) v = []
output_by release v = []
output_by (withdraw x) v = []
output_by (show k out) v = show_bytes k out v

-- a call, an account and what it asks, on a buffer, any buffer: the buffer afterwards and the reply
unfoldable pub called : List ℕ → ℕ × Ask → List ℕ × Reply
called b c = (
  bytes_after b c.0 (records_by c.1),
  record { answer = answer_on b c.0 (asked_answer c.1); output = output_after b c.0 (lent_by c.1) (output_by c.1) },
)
