-- "8 narrows" (document 02, A8): what is read is what was read while D.04A alone was taken, but where that was 8 and a TSDUPD of D.12B stands among the segments.
-- Assumes nothing.
use Rattle.answers.specs.declared.Refusal.{Refusal}
use Rattle.std.specs.Prelude.{◌≡◌, Bool, true, false, not, List, ◌⊎◌, ◌↔◌, ℕ, zero, suc, ◌+◌, eqb, ltb, length, Result, Ok, Err}
use Rattle.std.proofs.Math.Path.{refl}
use Rattle.std.proofs.Common.{sym, ap, ◌∙◌, inl, inr, ⊎_elim}
use Rattle.laws.specs.Choice.{both, all, both_false, choose, false≢true}
use Rattle.answers.specs.Answers.{naming, unknown_type}
use Rattle.answers.specs.Laws.{refused≢done}
use Rattle.syntax.specs.declared.segment.ScanError.{ScanError}
use Rattle.syntax.specs.declared.segment.ScanError.TheVariants.{NotPermitted, Unended, Malformed}
use Rattle.syntax.specs.Segment.{tag_number, body_at, segment_at}
use Rattle.messages.specs.Tags.{UIH}
use Rattle.messages.specs.Types.{is_12b}
use Rattle.placing.specs.Tables.{tables}
use Rattle.envelope.specs.Envelope.{says, TSDUPD, complete, directory, directory_12b, type_of, version_of, release_number_of, sub_function_of, agency_of, reference_of, uih_of}
use Rattle.steps.specs.declared.state.Phase.{Phase}
use Rattle.steps.specs.declared.state.Phase.TheVariants.{Opening, Between, Inside, Closed}
use Rattle.steps.specs.declared.state.State.{State}
use Rattle.steps.specs.declared.state.Row.{Row}
use Rattle.steps.specs.State.{opening_state}
use Rattle.steps.specs.Step.{row_of, headed, between_messages, step_by}
use Rattle.interchange.specs.declared.turn.Turn.{Turn}
use Rattle.interchange.specs.Reader.{Outcome, accepted, before, is_closed, dialogue_of, headed_reference, turn_step, turn_scan, turn_at, after_turn, read_on, wrong_size, reading_of, goes_on}
use Rattle.acceptance.specs.Interchange.{IsInterchange}
use Rattle.acceptance.specs.Theorems.{accepted_exactly}
use Rattle.acceptance.specs.Before.{uih_before, between_over, step_over, turn_over, read_on_over, reading_over, reading_before}
use Rattle.envelope.specs.declared.Head.{Head}
use Rattle.envelope.specs.declared.HeadError.{HeadError}
use Rattle.envelope.specs.declared.HeadError.TheVariants.{Missing, Unknown}

-- The step and the reader of Before.antt, over what a UIH says now, are those of Step.antt and Reader.antt

step_now : (st : State) (at : ℕ) (g dialogue reference : List ℕ) (phase : Phase) → step_over uih_of phase st at g dialogue reference ≡ step_by tables phase st at g dialogue reference
unfolding between_over between_messages step_by
step_now st at g dialogue reference Opening = refl
step_now st at g dialogue reference Between = refl
step_now st at g dialogue reference Inside = refl
step_now st at g dialogue reference Closed = refl

turn_now : (s : List ℕ) (st : State) (at : ℕ) (x : Result ℕ ScanError) → turn_over uih_of s st at x ≡ turn_scan tables s st at x
turn_now s st at (Ok e) = ap (turn_step (e + 1)) (step_now st at (body_at s at) (dialogue_of s st) (headed_reference s st) st.phase)
turn_now s st at (Err error) = refl

after_now : (over more : State → ℕ → Outcome) → ((st : State) (next : ℕ) → over st next ≡ more st next) → (x : Result Turn Refusal) → after_turn over x ≡ after_turn more x
after_now over more f (Ok t) = ap (before t.row) (f t.state t.then)
after_now over more f (Err refusal) = refl

on_now : (f : ℕ) (s : List ℕ) (st : State) (at : ℕ) → read_on_over uih_of f s st at ≡ read_on f s st at
unfolding read_on read_on_over turn_at
on_now zero s st at = refl
on_now (suc f) s st at =
    choose (ltb at (length s))
    (λ l. choose (is_closed st.phase) (λ c. rw (l, c))
    (λ c. rw (l, c, turn_now s st at (segment_at s at)) (after_now (read_on_over uih_of f s) (read_on f s) (on_now f s) (turn_scan tables s st at (segment_at s at)))))
    (λ l. rw l)

pub reading_now : (wish : Bool) (s : List ℕ) → reading_over uih_of wish s ≡ reading_of wish s
unfolding reading_of reading_over
reading_now wish s = choose (wrong_size s) (λ q. rw q) (λ q. rw q (on_now (length s + 1) s (opening_state wish) 0))

-- whether a UIH is that of a message of D.12B
abbrev pub heads_12b : Result Head HeadError → Bool
heads_12b (Ok h) = is_12b h.message
heads_12b (Err Missing) = false
heads_12b (Err Unknown) = false

-- what a UIH says is what it said; or it was 8, and it is one of D.12B
pub head_narrowed : (g : List ℕ) → (uih_of g ≡ uih_before g) ⊎ ((heads_12b (uih_of g) ≡ true) × (uih_before g ≡ Err Unknown))
unfolding uih_of uih_before
head_narrowed g =
    choose (complete (type_of g) (version_of g) (release_number_of g) (agency_of g) (reference_of g))
    (λ k.
    choose (directory (version_of g) (release_number_of g) (sub_function_of g) (agency_of g)) (λ d. inl (rw (k, d)))
    (λ d.
    choose (directory_12b (version_of g) (release_number_of g) (sub_function_of g) (agency_of g))
    (λ e. choose (says (type_of g) TSDUPD) (λ t. inr (rw (k, d, e, t), rw (k, d))) (λ t. inl (rw (k, d, e, t))))
    (λ e. inl (rw (k, d, e)))))
    (λ k. inl (rw k))

-- whether a row is such a UIH
abbrev pub of_12b : List ℕ → Row → Bool
of_12b s r = both (eqb r.tag UIH) (heads_12b (uih_of (body_at s r.offset)))

-- one turn: the same; or on over a UIH of D.12B, at which it was 8
data Turned (s : List ℕ) (at : ℕ) : Result Turn Refusal → Result Turn Refusal → Type 0 where
  as_it_was : {x : Result Turn Refusal} → Turned s at x x
  taken_now : {st : State} {r : Row} {next : ℕ} → of_12b s r ≡ true → Turned s at (goes_on st r next) (Err (naming 8 at))

module _ (s : List ℕ) (st : State) (at e : ℕ) where
  abbrev g : List ℕ
  g = body_at s at

  -- a UIH of D.12B is taken, which was 8
  head_taken : (x : Result Head HeadError) → uih_of g ≡ x → heads_12b x ≡ true → eqb (tag_number g) UIH ≡ true → Turned s at (turn_step e (headed st at g x)) (Err (naming 8 at))
  head_taken (Ok h) q k t = taken_now {r = row_of at g 0} (rw (t, q, k))
  head_taken (Err Missing) q k t = absurd (false≢true k)
  head_taken (Err Unknown) q k t = absurd (false≢true k)

  between_turned : (dialogue : List ℕ) → Turned s at (turn_step e (between_messages st at g dialogue)) (turn_step e (between_over uih_before st at g dialogue))
  unfolding between_messages between_over
  between_turned dialogue =
      choose (eqb (tag_number g) UIH)
      (λ t. rw t (⊎_elim (λ q. rw q as_it_was) (λ w. rw w.1 (head_taken (uih_of g) refl w.0 t)) (head_narrowed g)))
      (λ t. rw t as_it_was)

  step_turned : (phase : Phase) (dialogue reference : List ℕ) → Turned s at (turn_step e (step_by tables phase st at g dialogue reference)) (turn_step e (step_over uih_before phase st at g dialogue reference))
  unfolding step_by
  step_turned Opening dialogue reference = as_it_was
  step_turned Between dialogue reference = between_turned dialogue
  step_turned Inside dialogue reference = as_it_was
  step_turned Closed dialogue reference = as_it_was

scan_turned : (s : List ℕ) (st : State) (at : ℕ) (x : Result ℕ ScanError) → Turned s at (turn_scan tables s st at x) (turn_over uih_before s st at x)
scan_turned s st at (Ok e) = step_turned s st at (e + 1) st.phase (dialogue_of s st) (headed_reference s st)
scan_turned s st at (Err error) = as_it_was

-- a whole reading: the same; or it was 8, and among the rows is the UIH of a message of D.12B
abbrev pub all_04a : List ℕ → List Row → Bool
all_04a s rows = all (λ r. not (of_12b s r)) rows

pub data Narrowed (s : List ℕ) : Outcome → Outcome → Type 0 where
  same : {o : Outcome} → Narrowed s o o
  was_unknown : {now was : Outcome} (at : ℕ) → all_04a s now.rows ≡ false → was.verdict ≡ unknown_type at → Narrowed s now was

narrowed_behind : (s : List ℕ) (r : Row) {now was : Outcome} → Narrowed s now was → Narrowed s (before r now) (before r was)
narrowed_behind s r same = same
narrowed_behind s r (was_unknown {now = now} at h q) = was_unknown {now = before r now} at (rw h (both_false (not (of_12b s r)))) q

after_narrowed : (s : List ℕ) (at : ℕ) (more was : State → ℕ → Outcome) → ((st : State) (next : ℕ) → Narrowed s (more st next) (was st next))
    → {x y : Result Turn Refusal} → Turned s at x y → Narrowed s (after_turn more x) (after_turn was y)
after_narrowed s at more was f (as_it_was {x = Ok t}) = narrowed_behind s t.row (f t.state t.then)
after_narrowed s at more was f (as_it_was {x = Err refusal}) = same
after_narrowed s at more was f (taken_now {st = st} {r = r} {next = next} h) = was_unknown {now = before r (more st next)} at (rw h) refl

on_narrowed : (f : ℕ) (s : List ℕ) (st : State) (at : ℕ) → Narrowed s (read_on f s st at) (read_on_over uih_before f s st at)
unfolding read_on read_on_over turn_at
on_narrowed zero s st at = same
on_narrowed (suc f) s st at =
    choose (ltb at (length s))
    (λ l. choose (is_closed st.phase) (λ c. rw (l, c) same)
    (λ c. rw (l, c) (after_narrowed s at (read_on f s) (read_on_over uih_before f s) (on_narrowed f s) (scan_turned s st at (segment_at s at)))))
    (λ l. rw l same)

pub narrowed : (wish : Bool) (s : List ℕ) → Narrowed s (reading_of wish s) (reading_before wish s)
unfolding reading_of reading_over
narrowed wish s = choose (wrong_size s) (λ q. rw q same) (λ q. rw q (on_narrowed (length s + 1) s (opening_state wish) 0))

-- so an interchange in which no message is of D.12B is read exactly as it was, its rows or its first fault with its place
as_before : (s : List ℕ) {now was : Outcome} → Narrowed s now was → all_04a s now.rows ≡ true → now ≡ was
as_before s same h = refl
as_before s (was_unknown at k q) h = absurd (false≢true (sym k ∙ h))

pub read_as_before : (wish : Bool) (s : List ℕ) → all_04a s (reading_of wish s).rows ≡ true → reading_of wish s ≡ reading_before wish s
read_as_before wish s h = as_before s (narrowed wish s) h

-- and whatever was accepted is accepted with the same rows
as_accepted : (s : List ℕ) {now was : Outcome} → Narrowed s now was → was.verdict ≡ accepted → now ≡ was
as_accepted s same q = refl
as_accepted s (was_unknown at k w) q = absurd (refused≢done (sym w ∙ q))

pub accepted_as_before : (wish : Bool) (s : List ℕ) → (reading_before wish s).verdict ≡ accepted → reading_of wish s ≡ reading_before wish s
accepted_as_before wish s q = as_accepted s (narrowed wish s) q

-- by document 01's rules, apart from how it is read
pub interchange_as_before : (wish : Bool) (s : List ℕ) → all_04a s (reading_of wish s).rows ≡ true → ((reading_before wish s).verdict ≡ accepted) ↔ IsInterchange wish s
interchange_as_before wish s h =
    let e = ap (λ (o : Outcome). o.verdict) (read_as_before wish s h) in
    (λ q. (accepted_exactly wish s).0 (e ∙ q), λ i. sym e ∙ (accepted_exactly wish s).1 i)
