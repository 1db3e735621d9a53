-- Where the whole reader accepts, rows and answer of what arrived equal its own; where it refuses, so does this one, same number and position, after the rows of the
-- segments before the fault (document 02, A1). `reading_of` is what `read` answers by; Fits.antt says which interchanges this is about.
-- Assumes nothing.
use Rattle.std.specs.Prelude.{◌≡◌, refl, Bool, true, List, [], ◌∷◌, ℕ, ◌+◌, ◌*◌, ◌≤◌, length}
use Rattle.std.proofs.Common.{sym, ap, ◌∙◌, arith, zero-add, ne_eqb, le-ltb}
use Rattle.answers.specs.Answers.{done, refused}
use Rattle.steps.specs.declared.state.Row.{Row}
use Rattle.steps.specs.State.{opening_state}
use Rattle.interchange.specs.Reader.{Outcome, Verdict, verdict_answer, outcome_answer, read_on, reading_of}
use Rattle.arrival.specs.Arrived.{arrived_on, arrived, awaited_end, end_of}
use Rattle.arrival.specs.Fits.{segments_fit, verdict_of, whole_answer}
use Rattle.arrival.specs.Agreeing.{reading_agreed}

-- a text that is not empty is read from the opening on
read_some : (wish : Bool) (b : ℕ) (l : List ℕ) → length (b ∷ l) ≤ 60000 → reading_of wish (b ∷ l) ≡ read_on (length (b ∷ l) + 1) (b ∷ l) (opening_state wish) 0
unfolding reading_of
read_some wish b l h = rw (ne_eqb (length (b ∷ l)) 0 (omega arith), le-ltb 60000 (length (b ∷ l)) h)

none_before : (o : Outcome) → verdict_of (0 + length o.rows) o.verdict ≡ whole_answer o
none_before o = ap (λ (k : ℕ). verdict_of k o.verdict) (zero-add (length o.rows))

pub agrees : (wish : Bool) (s : List ℕ) → length s ≤ 60000 → segments_fit s ≡ true → ((arrived wish s).rows ≡ (reading_of wish s).rows) × (end_of (arrived wish s).stand ≡ whole_answer (reading_of wish s))
unfolding arrived_on awaited_end reading_of
agrees wish [] small fits = (refl, refl)
agrees wish (b ∷ l) small fits =
    let e = read_some wish b l small in
    let w = reading_agreed (length (b ∷ l) + 1) (b ∷ l) (omega arith) small (opening_state wish) 0 0 (omega arith) (omega arith) (omega arith) fits in
    (w.rows ∙ ap (λ (o : Outcome). o.rows) (sym e), w.end ∙ none_before (read_on (length (b ∷ l) + 1) (b ∷ l) (opening_state wish) 0) ∙ ap whole_answer (sym e))

-- so the final answer is what `read` answers into a buffer with room for the rows
room_enough : (rows : List Row) (room : ℕ) (v : Verdict) → 3 * length rows ≤ room → verdict_of (length rows) v ≡ verdict_answer rows room v
room_enough rows room (done _) h = rw (le-ltb room (3 * length rows) h)
room_enough rows room (refused refusal) h = refl

pub agrees_read : (wish : Bool) (s : List ℕ) → length s ≤ 60000 → segments_fit s ≡ true → (room : ℕ) → 3 * length (reading_of wish s).rows ≤ room
    → end_of (arrived wish s).stand ≡ outcome_answer (reading_of wish s) room
unfolding outcome_answer
agrees_read wish s small fits room h = (agrees wish s small fits).1 ∙ room_enough (reading_of wish s).rows room (reading_of wish s).verdict h
