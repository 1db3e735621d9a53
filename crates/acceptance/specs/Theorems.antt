-- An interchange is accepted exactly when document 01's rules hold, by the caller's wish. Interchange.antt says what an interchange is; `reading_of` is what `read` answers by.
-- Assumes nothing.
use Rattle.std.specs.Prelude.{◌≡◌, refl, Bool, true, List, ◌++◌, ◌↔◌, ℕ, ◌+◌, ◌-◌, ◌*◌, ◌≤◌, ◌<◌, drop}
use Rattle.std.proofs.Math.Path.{ap}
use Rattle.std.proofs.Common.{◌∙◌, arith, le-ltb}
use Rattle.std.proofs.Math.ListN.{length}
use Rattle.laws.specs.Put.{put_front}
use Rattle.answers.specs.Answers.{done, refused}
use Rattle.answers.specs.Laws.{refused≢done}
use Rattle.steps.specs.declared.state.State.{State}
use Rattle.steps.specs.declared.state.Row.{Row}
use Rattle.interchange.specs.Reader.{Outcome, Verdict, accepted, read_on, reading_of, numbers, verdict_answer, outcome_answer, rows_after}
use Rattle.interchange.specs.Laws.{length_numbers}
use Rattle.acceptance.specs.Interchange.{segments_written, Interchange, segments_of, rules_hold, IsInterchange, rows_of}
use Rattle.acceptance.specs.Onward.{Goes, precede, reading_goes_on}
use Rattle.acceptance.specs.When.{reads_all}
use Rattle.acceptance.specs.Only.{accepted_is}
use Rattle.acceptance.specs.Same.{same_parts}

-- after some whole segments, each good and each stepping on, the reading goes on from the state and the offset reached, their rows before its own
pub goes_on : (f : ℕ) (s : List ℕ) {st last : State} {at end : ℕ} {gs : List (List ℕ)} {rs : List Row} (rest : List ℕ) → Goes s st at gs rs last end
    → drop at s ≡ segments_written gs ++ rest → length s < at + f → read_on f s st at ≡ precede rs (read_on (f - length gs) s last end)
goes_on f s rest go e h = reading_goes_on f s rest go e h

-- every interchange is accepted, and its rows are those of its segments
pub accepted_when : (wish : Bool) (x : Interchange) → rules_hold wish x ≡ true → length (segments_written (segments_of x)) ≤ 60000
    → reading_of wish (segments_written (segments_of x)) ≡ record { rows = rows_of x; verdict = accepted }
accepted_when wish x h small = reads_all wish (segments_written (segments_of x)) x refl h small

-- and nothing else is
pub only_when : (wish : Bool) (s : List ℕ) → (reading_of wish s).verdict ≡ accepted → IsInterchange wish s
only_when wish s q = accepted_is wish s q

pub rows_when : (wish : Bool) (s : List ℕ) (i : IsInterchange wish s) → reading_of wish s ≡ record { rows = rows_of i.parts; verdict = accepted }
rows_when wish s i = reads_all wish s i.parts i.text i.rules i.fits

-- a text is an interchange in one way at most
pub one_way : (wish : Bool) (x y : Interchange) → rules_hold wish x ≡ true → rules_hold wish y ≡ true → segments_written (segments_of x) ≡ segments_written (segments_of y) → x ≡ y
one_way wish x y h k e = same_parts wish x y h k e

-- so `read`, which answers by `reading_of`, tells of rows for an interchange alone, and writes them, where the lent buffer has room for them
answer_accepted : (rows : List Row) (room n : ℕ) (v : Verdict) → verdict_answer rows room v ≡ done n → v ≡ accepted
answer_accepted rows room n (done _) q = refl
answer_accepted rows room n (refused refusal) q = absurd (refused≢done q)

pub answered_only : (wish : Bool) (s : List ℕ) (room n : ℕ) → outcome_answer (reading_of wish s) room ≡ done n → IsInterchange wish s
unfolding outcome_answer
answered_only wish s room n q = only_when wish s (answer_accepted (reading_of wish s).rows room n (reading_of wish s).verdict q)

module _ (wish : Bool) (s : List ℕ) (i : IsInterchange wish s) where
  pub answered_when : (room : ℕ) → 3 * length (rows_of i.parts) ≤ room → outcome_answer (reading_of wish s) room ≡ done (length (rows_of i.parts))
  unfolding outcome_answer
  answered_when room h = ap (λ (o : Outcome). outcome_answer o room) (rows_when wish s i) ∙ rw (le-ltb room (3 * length (rows_of i.parts)) h)

  pub written_when : (lent : List ℕ) → 3 * length (rows_of i.parts) ≤ length lent → rows_after (reading_of wish s) lent ≡ numbers (rows_of i.parts) ++ drop (length (numbers (rows_of i.parts))) lent
  unfolding rows_after
  written_when lent h =
      let e = length_numbers (rows_of i.parts) in
      ap (λ (o : Outcome). rows_after o lent) (rows_when wish s i) ∙ put_front lent (numbers (rows_of i.parts)) (omega arith)

pub accepted_exactly : (wish : Bool) (s : List ℕ) → ((reading_of wish s).verdict ≡ accepted) ↔ IsInterchange wish s
accepted_exactly wish s = (only_when wish s, λ i. ap (λ (o : Outcome). o.verdict) (rows_when wish s i))
