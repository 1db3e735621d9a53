-- A reading has few rows, since each segment takes four bytes: 45,000 numbers hold the rows of any interchange, and 17 cannot come.
-- Assumes nothing.
use Prim.Native.Nat.{ℕ, zero, suc, ◌+◌, ◌*◌, ◌≤◌}
use Rattle.std.specs.Prelude.{◌≡◌, List, Bool, eqb, ltb, length, take, Result, Ok, Err}
use Rattle.std.proofs.Math.Path.{refl}
use Rattle.std.proofs.Common.{sym, ap, ◌∙◌}
use Rattle.answers.specs.declared.Refusal.{Refusal}
use native.Mathlib.Omega.{arith}
use borrow.Author.Tests.{ltb-false, le-ltb}
use Rattle.laws.specs.Choice.{choose, either_parts}
use Rattle.laws.specs.Put.{put_at, take_put}
use Rattle.answers.specs.Answers.{Answer, done, refused}
use Rattle.answers.specs.Laws.{refused≢done, done≢refused, done_is}
use Rattle.syntax.specs.declared.segment.ScanError.{ScanError}
use Rattle.syntax.specs.declared.segment.ScanError.TheVariants.{NotPermitted, Unended, Malformed}
use Rattle.syntax.specs.Segment.{body_at, segment_at}
use Rattle.placing.specs.Tables.{tables}
use Rattle.steps.specs.declared.state.State.{State}
use Rattle.steps.specs.declared.state.Row.{Row}
use Rattle.steps.specs.State.{opening_state}
use Rattle.steps.specs.Step.{Taken, taken, segment_step}
use Rattle.interchange.specs.Reader.{Outcome, Verdict, accepted, is_closed, dialogue_of, headed_reference, turn_step, turn_scan, turn_at, after_turn, read_on, wrong_size, reading_of, numbers, verdict_answer, outcome_answer, rows_by, rows_after}
use Rattle.interchange.specs.Offsets.{turn_on}
use Rattle.interchange.specs.Turns.{turn_is}
use Rattle.interchange.specs.Laws.{length_numbers}
use Rattle.service_tests.specs.Passed.{refused_again}

module _ (s : List ℕ) where
  -- the rows from an offset on, at four bytes each
  abbrev Few : ℕ → Outcome → Type 0
  Few at o = 4 * length o.rows + at ≤ length s

  module _ (f : ℕ) (ih : (st : State) (at : ℕ) → at ≤ length s → Few at (read_on f s st at)) (from : State) (at : ℕ) (h : at ≤ length s) where
    abbrev step : Answer Taken
    step = segment_step tables from at (body_at s at) (dialogue_of s from) (headed_reference s from)

    stepped : (e : ℕ) → segment_at s at ≡ Ok e → (y : Answer Taken) → step ≡ y → Few at (after_turn (read_on f s) (turn_step (e + 1) y))
    stepped e k (done (taken st r)) q =
        let w = turn_on tables s from at st r (e + 1) (sym (turn_is tables s from at (Ok e) k) ∙ ap (turn_step (e + 1)) q) in
        let m = ih st (e + 1) w.2 in
        let n = w.1 in
        omega arith
    stepped e k (refused refusal) q = omega arith

    scanned : (x : Result ℕ ScanError) → segment_at s at ≡ x → Few at (after_turn (read_on f s) (turn_scan tables s from at x))
    scanned (Ok e) k = stepped e k step refl
    scanned (Err error) k = omega arith

    turned : Few at (after_turn (read_on f s) (turn_at tables s from at))
    unfolding turn_at
    turned = scanned (segment_at s at) refl

  few_on : (f : ℕ) (st : State) (at : ℕ) → at ≤ length s → Few at (read_on f s st at)
  unfolding read_on
  few_on zero st at h = omega arith
  few_on (suc f) st at h =
      choose (ltb at (length s))
      (λ p.
      choose (is_closed st.phase) (λ q. rw (p, q) (omega arith))
      (λ q. rw (p, q) (turned f (few_on f) st at h)))
      (λ p. choose (is_closed st.phase) (λ q. rw (p, q) (omega arith)) (λ q. rw (p, q) (omega arith)))

  pub few_rows : (wish : Bool) → 3 * length (reading_of wish s).rows ≤ 45000
  unfolding reading_of
  few_rows wish =
      choose (wrong_size s) (λ p. rw p (omega arith))
      (λ p.
      let k = ltb-false 60000 (length s) (either_parts (eqb (length s) 0) (ltb 60000 (length s)) p).1 in
      let w = few_on (length s + 1) (opening_state wish) 0 (omega arith) in
      rw p (omega arith))

-- ---- what the reader answers where it is lent so much

-- the number of rows of an accepted interchange, and its rows at the front of the buffer
pub record Rows (wish : Bool) (s : List ℕ) (n : ℕ) (after : List ℕ) : Type 0 where
  pub accepts : (reading_of wish s).verdict ≡ accepted
  pub count : length (reading_of wish s).rows ≡ n
  pub front : take (3 * n) after ≡ numbers (reading_of wish s).rows

module _ (rows : List Row) (lent : List ℕ) (enough : 3 * length rows ≤ length lent) where
  refused_by : (x : Refusal) (v : Verdict) → verdict_answer rows (length lent) v ≡ refused x → v ≡ refused x
  refused_by x (done u) q = absurd (done≢refused (rw (le-ltb (length lent) (3 * length rows) enough) at q))
  refused_by x (refused y) q = refused_again ℕ (Unit {0}) y x q

  rows_by_lem : (n : ℕ) (v : Verdict) → verdict_answer rows (length lent) v ≡ done n → (v ≡ accepted) × (length rows ≡ n) × (take (3 * n) (rows_by rows lent v) ≡ numbers rows)
  rows_by_lem n (done u) q =
      let c : length rows ≡ n = done_is (rw (le-ltb (length lent) (3 * length rows) enough) at q) in
      let l = length_numbers rows in
      (refl, c, take_put lent (numbers rows) (put_at lent 0 (numbers rows)) (3 * n) refl (omega arith) (omega arith))
  rows_by_lem n (refused y) q = absurd (refused≢done q)

module _ (wish : Bool) (s lent : List ℕ) (room : length lent ≡ 45000) where
  pub read_refused : (x : Refusal) → outcome_answer (reading_of wish s) (length lent) ≡ refused x → (reading_of wish s).verdict ≡ refused x
  unfolding outcome_answer
  read_refused x q =
      let k = few_rows s wish in
      refused_by (reading_of wish s).rows lent (omega arith) x (reading_of wish s).verdict q

  pub read_rows : (n : ℕ) → outcome_answer (reading_of wish s) (length lent) ≡ done n → Rows wish s n (rows_after (reading_of wish s) lent)
  unfolding outcome_answer rows_after
  read_rows n q =
      let k = few_rows s wish in
      let w = rows_by_lem (reading_of wish s).rows lent (omega arith) n (reading_of wish s).verdict q in
      record { accepts = w.0; count = w.1; front = w.2 }
