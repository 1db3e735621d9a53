-- A row bears the offset of its segment, and the next segment stands past it.
-- Assumes nothing.
use Rattle.std.specs.Prelude.{◌≡◌, refl, Bool, true, false, List, ℕ, ◌+◌, ◌≤◌, ◌<◌, eqb, ltb, length, Option, Some, None, Err, Ok, Result}
use Rattle.std.proofs.Common.{sym, ap, ◌∙◌, arith}
use Rattle.laws.specs.Choice.{pick, both, choose}
use Rattle.answers.specs.declared.Refusal.{Refusal}
use Rattle.syntax.specs.declared.segment.ScanError.{ScanError}
use Rattle.syntax.specs.declared.segment.ScanError.TheVariants.{NotPermitted, Unended, Malformed}
use Rattle.syntax.specs.Segment.{tag_number, body_at, segment_at, refusal_of}
use Rattle.syntax.specs.Ends.{end_within}
use Rattle.placing.specs.declared.Place.{Place}
use Rattle.placing.specs.Table.{Table}
use Rattle.placing.specs.Tables.{table_in}
use Rattle.messages.specs.Types.{is_period}
use Rattle.messages.specs.Tags.{UIB, UIH, UIT, UIZ}
use Rattle.placing.specs.Rule.{step_of, group_of}
use Rattle.envelope.specs.Envelope.{uib_of, uih_of, uit_of, uiz_of}
use Rattle.period.specs.Period.{period_of}
use Rattle.steps.specs.declared.state.Phase.{Phase}
use Rattle.steps.specs.declared.state.Phase.TheVariants.{Opening, Between, Inside, Closed}
use Rattle.steps.specs.declared.state.State.{State}
use Rattle.steps.specs.declared.state.Row.{Row}
use Rattle.answers.specs.Answers.{Answer, done, refused}
use Rattle.interchange.specs.declared.turn.Turn.{Turn}
use Rattle.steps.specs.State.{one_more}
use Rattle.steps.specs.Step.{Taken, taken, row_of, opened_step, opening, headed, closing, between_messages, trailing, judged, placed, settled_step, inside_message, step_by, segment_step}
use Rattle.interchange.specs.Reader.{dialogue_of, headed_reference, turn_step, turn_with, turn_at, goes_on}
use Rattle.period.specs.declared.Period.{Period}
use Rattle.period.specs.declared.Fault.{Fault}
use Rattle.parts.specs.declared.Part.{Part}
use Rattle.envelope.specs.declared.Head.{Head}
use Rattle.envelope.specs.declared.HeadError.{HeadError}
use Rattle.envelope.specs.declared.HeadError.TheVariants.{Missing, Unknown}

-- a step's row, if it has one, bears the offset
abbrev RowAt : ℕ → Answer Taken → Type 0
RowAt at (done (taken st r)) = r.offset ≡ at
RowAt at (refused refusal) = Unit {0}

module _ (st : State) (at : ℕ) (g : List ℕ) where
  opened_row : (o : Option Part) → RowAt at (opened_step st at g o)
  opened_row (Some p) = refl
  opened_row None = tt

  opening_row : RowAt at (opening st at g)
  unfolding opening
  opening_row = choose (eqb (tag_number g) UIB) (λ q. rw q (opened_row (uib_of g))) (λ q. rw q tt)

  headed_row : (h : Result Head HeadError) → RowAt at (headed st at g h)
  headed_row (Ok h) = refl
  headed_row (Err Missing) = tt
  headed_row (Err Unknown) = tt

  closing_row : (d : List ℕ) → RowAt at (closing st at g d)
  unfolding closing
  closing_row d = choose (both (ltb 0 st.messages) (uiz_of g d st.messages)) (λ q. rw q refl) (λ q. rw q tt)

  between_row : (d : List ℕ) → RowAt at (between_messages st at g d)
  unfolding between_messages
  between_row d =
      choose (eqb (tag_number g) UIH) (λ q. rw q (headed_row (uih_of g)))
      (λ q. rw q (choose (eqb (tag_number g) UIZ) (λ p. rw p (closing_row d)) (λ p. rw p tt)))

  judged_row : (p : Place) (group : ℕ) (x : Result Period Fault) → RowAt at (judged st at g p group x)
  judged_row p group (Ok v) = refl
  judged_row p group (Err x) = tt

  trailing_row : (r : List ℕ) (p : Place) (group : ℕ) → RowAt at (trailing st at g r p group)
  unfolding trailing
  trailing_row r p group = choose (uit_of g r (one_more st.segments)) (λ q. rw q refl) (λ q. rw q tt)

  placed_row : (r : List ℕ) (group : ℕ) (p : Place) → RowAt at (placed st at g r group p)
  unfolding placed
  placed_row r group p =
      choose (eqb (tag_number g) UIT) (λ q. rw q (trailing_row r p group))
      (λ q. rw q (choose (is_period st.message (tag_number g) group) (λ e. rw e (judged_row p group (period_of st.wish g))) (λ e. rw e refl)))

  settled_row : (t : Table) (r : List ℕ) (x : Option Place) → RowAt at (settled_step t st at g r x)
  settled_row t r (Some p) = placed_row r (group_of t p) p
  settled_row t r None = tt

  step_row : (t : Table) (f : Phase) (d r : List ℕ) → RowAt at (step_by t f st at g d r)
  unfolding step_by inside_message
  step_row t Opening d r = opening_row
  step_row t Between d r = between_row d
  step_row t Inside d r = settled_row (table_in t st.message) r (step_of (table_in t st.message) st.place (tag_number g))
  step_row t Closed d r = tt

stop≢on : (x : Refusal) (y : Turn) → Err x ≡ Ok y → ⊥
stop≢on x y q = let z : ◌≡◌ {A = ℕ} 0 1 = cc in omega arith

same_turn : (x y : Turn) → ◌≡◌ {A = Result Turn Refusal} (Ok x) (Ok y) → x ≡ y
same_turn x y q = cc

module _ (st : State) (r : Row) (n : ℕ) where
  on_is : (y : Answer Taken) (at m : ℕ) → RowAt at y → turn_step m y ≡ goes_on st r n → (r.offset ≡ at) × (n ≡ m)
  on_is (done (taken s q)) at m o e =
      let same = same_turn (record { state = s; row = q; then = m }) (record { state = st; row = r; then = n }) e in
      (ap (λ (x : Turn). x.row.offset) (sym same) ∙ o, ap (λ (x : Turn). x.then) (sym same))
  on_is (refused refusal) at m o e = absurd (stop≢on refusal (record { state = st; row = r; then = n }) e)

  on_from : (t : Table) (s dialogue reference : List ℕ) (from : State) (at : ℕ) (x : Result ℕ ScanError) → segment_at s at ≡ x → turn_with t s dialogue reference from at x ≡ goes_on st r n
      → (r.offset ≡ at) × (at + 4 ≤ n) × (n ≤ length s)
  on_from t s d q from at (Ok e) h k =
      let w = on_is (segment_step t from at (body_at s at) d q) at (e + 1) (step_row from at (body_at s at) t from.phase d q) k in
      let b = end_within s at e h in
      (w.0, omega arith, omega arith)
  on_from t s d q from at (Err error) h k = absurd (stop≢on (refusal_of at error) (record { state = st; row = r; then = n }) k)

  -- the segment is whole
  end_from_lem : (t : Table) (s dialogue reference : List ℕ) (from : State) (at : ℕ) (x : Result ℕ ScanError) → segment_at s at ≡ x → turn_with t s dialogue reference from at x ≡ goes_on st r n
      → (e : ℕ) × (segment_at s at ≡ Ok e)
  end_from_lem t s d q from at (Ok e) h k = (e, h)
  end_from_lem t s d q from at (Err error) h k = absurd (stop≢on (refusal_of at error) (record { state = st; row = r; then = n }) k)

module _ (t : Table) (s dialogue reference : List ℕ) (from : State) (at : ℕ) (st : State) (r : Row) (n : ℕ)
    (q : turn_with t s dialogue reference from at (segment_at s at) ≡ goes_on st r n) where
  pub with_on : (r.offset ≡ at) × (at + 4 ≤ n) × (n ≤ length s)
  with_on = on_from st r n t s dialogue reference from at (segment_at s at) refl q

  pub with_end : (e : ℕ) × (segment_at s at ≡ Ok e)
  with_end = end_from_lem st r n t s dialogue reference from at (segment_at s at) refl q

pub turn_on : (t : Table) (s : List ℕ) (from : State) (at : ℕ) (st : State) (r : Row) (n : ℕ) → turn_at t s from at ≡ goes_on st r n
    → (r.offset ≡ at) × (at + 4 ≤ n) × (n ≤ length s)
unfolding turn_at
turn_on t s from at st r n q = with_on t s (dialogue_of s from) (headed_reference s from) from at st r n q
