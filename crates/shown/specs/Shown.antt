-- Which record a slot of a room is, and what the answers of `show_record` mean. Document 01, "The register", "What each number means".
-- Assumes nothing.
use Rattle.std.specs.Prelude.{ℕ, ◌*◌, ◌/◌, not, List, eqb, ltb, length, get_or, take, drop, Result, Ok, Err}
use Rattle.std.proofs.Math.Option.{Option, none, some}
use Rattle.laws.specs.Choice.{pick, both}
use Rattle.answers.specs.Answers.{Answer, done, no_record, output_too_short}
use Rattle.contents.specs.Contents.{Record}
use Rattle.contents.specs.Written.{record_in}
use Rattle.shown.specs.declared.LinesError.{LinesError}
use Rattle.shown.specs.declared.LinesError.TheVariants.{NoRecord, TooShort}

-- the record in the k-th slot of a room, if there is such a slot and it is used
unfoldable pub record_of : List ℕ → ℕ → Option Record
record_of s k =
    pick (both (ltb k (length s / 140)) (not (eqb (get_or s (k * 140) 0) 0))) (some (record_in (take 140 (drop (k * 140) s)))) none

unfoldable pub lines_answer : Result ℕ LinesError → Answer ℕ
lines_answer (Ok n) = done n
lines_answer (Err NoRecord) = no_record
lines_answer (Err TooShort) = output_too_short
