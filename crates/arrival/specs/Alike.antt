-- One segment's step does not look at where the references stood, nor at the offset but to hand it on; and what it keeps of both.
-- Assumes nothing.
use Rattle.std.specs.Prelude.{◌≡◌, true, false, List, ℕ, ◌≤◌, eqb, ltb, Option, Some, None, Result, Ok, Err}
use Rattle.std.proofs.Math.Path.{refl}
use Rattle.std.proofs.Common.{sym, ap, subst, ◌∙◌}
use native.Mathlib.Omega.{arith}
use Rattle.laws.specs.Choice.{both, choose, false≢true}
use Rattle.answers.specs.declared.Refusal.{Refusal}
use Rattle.answers.specs.Answers.{Answer, done, refused, moved_to}
use Rattle.syntax.specs.Segment.{tag_number}
use Rattle.messages.specs.Types.{is_period}
use Rattle.messages.specs.Tags.{UIB, UIH, UIT, UIZ}
use Rattle.placing.specs.declared.Place.{Place}
use Rattle.placing.specs.Table.{Table}
use Rattle.placing.specs.Tables.{table_in}
use Rattle.placing.specs.Rule.{step_of, group_of}
use Rattle.envelope.specs.Envelope.{uib_of, uih_of, uit_of, uiz_of, heading}
use Rattle.period.specs.Period.{period_of}
use Rattle.steps.specs.declared.state.Phase.{Phase}
use Rattle.steps.specs.declared.state.Phase.TheVariants.{Opening, Between, Inside, Closed}
use Rattle.steps.specs.declared.state.State.{State}
use Rattle.steps.specs.declared.state.Row.{Row}
use Rattle.steps.specs.State.{one_more, with_state}
use Rattle.steps.specs.Step.{Taken, taken, row_of, opened_step, opening, headed, closing, between_messages, trailing, judged, placed, settled_step, inside_message, step_by, segment_step}
use Rattle.arrival.specs.Arrived.{bare, opens, heads}
use Rattle.period.specs.declared.Period.{Period}
use Rattle.period.specs.declared.Fault.{Fault}
use Rattle.parts.specs.declared.Part.{Part}
use Rattle.envelope.specs.declared.Head.{Head}
use Rattle.envelope.specs.declared.HeadError.{HeadError}
use Rattle.envelope.specs.declared.HeadError.TheVariants.{Missing, Unknown}

-- two good segments are the same but for their offsets, and for the references that came before
pub record SameTaken (f : Phase) (at at₂ : ℕ) (next : State) (row : Row) (next₂ : State) (row₂ : Row) : Type 0 where
  pub offset : row.offset ≡ at
  pub again : row₂ ≡ record { offset = at₂; group = row.group; tag = row.tag }
  pub states : bare next ≡ bare next₂
  pub dialogues : opens f ≡ true → next.dialogue ≡ next₂.dialogue
  pub references : heads f next.phase ≡ true → next.reference ≡ next₂.reference

-- two answers, from a phase on, at two offsets
abbrev pub Alike : Phase → ℕ → ℕ → Answer Taken → Answer Taken → Type 0
Alike f at at₂ (done (taken next row)) (done (taken next₂ row₂)) = SameTaken f at at₂ next row next₂ row₂
Alike f at at₂ (done (taken next row)) (refused refusal) = ⊥
Alike f at at₂ (refused refusal) (done (taken next row)) = ⊥
Alike f at at₂ (refused x) (refused y) = (x.position ≡ at) × (y ≡ moved_to at₂ x) × (7 ≤ x.number) × (x.number ≤ 10)

-- a state whose references stand where those of another do
abbrev elsewhere : State → State → State
elsewhere st o =
    record {
      phase = st.phase;
      message = st.message;
      messages = st.messages;
      segments = st.segments;
      opened_at = o.opened_at;
      dialogue = o.dialogue;
      headed_at = o.headed_at;
      reference = o.reference;
      place = st.place;
      wish = st.wish;
    }

elsewhere_is : (st o : State) → bare st ≡ bare o → elsewhere st o ≡ o
elsewhere_is st o e = ap (λ (x : State). elsewhere x o) e

module _ (st o : State) (at at₂ : ℕ) (g : List ℕ) where
  -- a good segment that is neither UIB nor UIH
  other_alike : (f phase : Phase) (messages segments : ℕ) (p : Place) (group : ℕ) → opens f ≡ false → heads f phase ≡ false
      → SameTaken f at at₂ (with_state st phase messages segments p) (row_of at g group) (with_state (elsewhere st o) phase messages segments p) (row_of at₂ g group)
  other_alike f phase messages segments p group a b =
      record { offset = refl; again = refl; states = refl; dialogues = λ q. absurd (false≢true (sym a ∙ q)); references = λ q. absurd (false≢true (sym b ∙ q)) }

  opened_alike : (x : Option Part) → Alike Opening at at₂ (opened_step st at g x) (opened_step (elsewhere st o) at₂ g x)
  opened_alike (Some p) = record { offset = refl; again = refl; states = refl; dialogues = λ _. refl; references = λ q. absurd (false≢true q) }
  opened_alike None = (refl, refl, omega arith, omega arith)

  opening_alike : Alike Opening at at₂ (opening st at g) (opening (elsewhere st o) at₂ g)
  unfolding opening
  opening_alike = choose (eqb (tag_number g) UIB) (λ q. rw q (opened_alike (uib_of g))) (λ q. rw q (refl, refl, omega arith, omega arith))

  headed_alike : (x : Result Head HeadError) → Alike Between at at₂ (headed st at g x) (headed (elsewhere st o) at₂ g x)
  headed_alike (Ok h) = record { offset = refl; again = refl; states = refl; dialogues = λ q. absurd (false≢true q); references = λ _. refl }
  headed_alike (Err Missing) = (refl, refl, omega arith, omega arith)
  headed_alike (Err Unknown) = (refl, refl, omega arith, omega arith)

  closing_alike : (d : List ℕ) → Alike Between at at₂ (closing st at g d) (closing (elsewhere st o) at₂ g d)
  unfolding closing
  closing_alike d =
      choose (both (ltb 0 st.messages) (uiz_of g d st.messages))
      (λ q. rw q (other_alike Between Closed st.messages st.segments st.place 0 refl refl))
      (λ q. rw q (refl, refl, omega arith, omega arith))

  between_alike : (d : List ℕ) → Alike Between at at₂ (between_messages st at g d) (between_messages (elsewhere st o) at₂ g d)
  unfolding between_messages
  between_alike d =
      choose (eqb (tag_number g) UIH) (λ q. rw q (headed_alike (uih_of g)))
      (λ q. rw q (choose (eqb (tag_number g) UIZ) (λ p. rw p (closing_alike d)) (λ p. rw p (refl, refl, omega arith, omega arith))))

  judged_alike : (p : Place) (group : ℕ) (x : Result Period Fault) → Alike Inside at at₂ (judged st at g p group x) (judged (elsewhere st o) at₂ g p group x)
  judged_alike p group (Ok v) =
      other_alike Inside Inside st.messages (one_more st.segments) p group refl refl
  judged_alike p group (Err x) = (refl, refl, omega arith, omega arith)

  trailing_alike : (r : List ℕ) (p : Place) (group : ℕ) → Alike Inside at at₂ (trailing st at g r p group) (trailing (elsewhere st o) at₂ g r p group)
  unfolding trailing
  trailing_alike r p group =
      choose (uit_of g r (one_more st.segments))
      (λ q. rw q (other_alike Inside Between (one_more st.messages) (one_more st.segments) p group refl refl))
      (λ q. rw q (refl, refl, omega arith, omega arith))

  placed_alike : (r : List ℕ) (group : ℕ) (p : Place) → Alike Inside at at₂ (placed st at g r group p) (placed (elsewhere st o) at₂ g r group p)
  unfolding placed
  placed_alike r group p =
      choose (eqb (tag_number g) UIT) (λ q. rw q (trailing_alike r p group))
      (λ q.
      rw q
      (choose (is_period st.message (tag_number g) group) (λ e. rw e (judged_alike p group (period_of st.wish g)))
      (λ e. rw e (other_alike Inside Inside st.messages (one_more st.segments) p group refl refl))))

  settled_alike : (t : Table) (r : List ℕ) (x : Option Place) → Alike Inside at at₂ (settled_step t st at g r x) (settled_step t (elsewhere st o) at₂ g r x)
  settled_alike t r (Some p) = placed_alike r (group_of t p) p
  settled_alike t r None = (refl, refl, omega arith, omega arith)

  phase_alike : (t : Table) (f : Phase) (d r : List ℕ) → Alike f at at₂ (step_by t f st at g d r) (step_by t f (elsewhere st o) at₂ g d r)
  unfolding step_by inside_message
  phase_alike t Opening d r = opening_alike
  phase_alike t Between d r = between_alike d
  phase_alike t Inside d r = settled_alike (table_in t st.message) r (step_of (table_in t st.message) st.place (tag_number g))
  phase_alike t Closed d r = (refl, refl, omega arith, omega arith)

-- what is known of the second answer, where the first is known
pub record Also (f : Phase) (at at₂ : ℕ) (next : State) (row : Row) (answer : Answer Taken) : Type 0 where
  pub state : State
  pub told : answer ≡ done (taken state (record { offset = at₂; group = row.group; tag = row.tag }))
  pub offset : row.offset ≡ at
  pub states : bare next ≡ bare state
  pub dialogues : opens f ≡ true → next.dialogue ≡ state.dialogue
  pub references : heads f next.phase ≡ true → next.reference ≡ state.reference

module _ (f : Phase) (at at₂ : ℕ) where
  also_done : (next : State) (row : Row) (y : Answer Taken) → Alike f at at₂ (done (taken next row)) y → Also f at at₂ next row y
  also_done next row (done (taken next₂ row₂)) w =
      record {
        state = next₂;
        told = ap (λ (x : Row). done (taken next₂ x)) w.again;
        offset = w.offset;
        states = w.states;
        dialogues = w.dialogues;
        references = w.references;
      }
  also_done next row (refused refusal) w = absurd w

  also_refused : (x : Refusal) (y : Answer Taken) → Alike f at at₂ (refused x) y → (x.position ≡ at) × (y ≡ refused (moved_to at₂ x)) × (7 ≤ x.number) × (x.number ≤ 10)
  also_refused x (done (taken next row)) w = absurd w
  also_refused x (refused y) w = (w.0, ap refused w.1, w.2, w.3)

-- the two steps, by any tables
module _ (t : Table) (st st₂ : State) (same : bare st ≡ bare st₂) (at at₂ : ℕ) (g d r : List ℕ) where
  pub step_alike : Alike st.phase at at₂ (segment_step t st at g d r) (segment_step t st₂ at₂ g d r)
  step_alike =
      subst (λ (x : State). Alike st.phase at at₂ (segment_step t st at g d r) (segment_step t x at₂ g d r)) (elsewhere_is st st₂ same)
      (phase_alike st st₂ at at₂ g t st.phase d r)

  pub alike_done : (next : State) (row : Row) → segment_step t st at g d r ≡ done (taken next row) → Also st.phase at at₂ next row (segment_step t st₂ at₂ g d r)
  alike_done next row e =
      also_done st.phase at at₂ next row (segment_step t st₂ at₂ g d r)
      (subst (λ (x : Answer Taken). Alike st.phase at at₂ x (segment_step t st₂ at₂ g d r)) e step_alike)

  pub alike_refused : (x : Refusal) → segment_step t st at g d r ≡ refused x → (x.position ≡ at) × (segment_step t st₂ at₂ g d r ≡ refused (moved_to at₂ x))
  alike_refused x e =
      let w = also_refused st.phase at at₂ x (segment_step t st₂ at₂ g d r)
      (subst (λ (x : Answer Taken). Alike st.phase at at₂ x (segment_step t st₂ at₂ g d r)) e step_alike) in
      (w.0, w.1)

-- a refusal of a step is 7 to 10
pub step_number : (t : Table) (st : State) (at : ℕ) (g d r : List ℕ) (x : Refusal) → segment_step t st at g d r ≡ refused x → (7 ≤ x.number) × (x.number ≤ 10)
step_number t st at g d r x e =
    let w = also_refused st.phase at at x (segment_step t st at g d r)
    (subst (λ (x : Answer Taken). Alike st.phase at at x (segment_step t st at g d r)) e (step_alike t st st refl at at g d r)) in
    (w.2, w.3)

-- What a good segment g at an offset keeps: the UIB tells where the dialogue reference is, a UIH where 0340 is; every other segment leaves both.
pub record Kept (f : Phase) (st : State) (at : ℕ) (g : List ℕ) (next : State) : Type 0 where
  pub opened : opens f ≡ true → (next.opened_at ≡ at) × (uib_of g ≡ Some next.dialogue)
  pub unopened : opens f ≡ false → (next.opened_at ≡ st.opened_at) × (next.dialogue ≡ st.dialogue)
  pub headed : heads f next.phase ≡ true → (next.headed_at ≡ at) × (uih_of g ≡ heading next.message next.reference)
  pub unheaded : heads f next.phase ≡ false → (next.headed_at ≡ st.headed_at) × (next.reference ≡ st.reference)

abbrev Keeps : Phase → State → ℕ → List ℕ → Answer Taken → Type 0
Keeps f st at g (done (taken next row)) = Kept f st at g next
Keeps f st at g (refused refusal) = Unit {0}

true≢false : true ≡ false → ⊥
true≢false q = false≢true (sym q)

module _ (st : State) (at : ℕ) (g : List ℕ) where
  other_keeps : (f phase : Phase) (messages segments : ℕ) (p : Place) → opens f ≡ false → heads f phase ≡ false → Kept f st at g (with_state st phase messages segments p)
  other_keeps f phase messages segments p a b =
      record {
        opened = λ q. absurd (false≢true (sym a ∙ q));
        unopened = λ _. (refl, refl);
        headed = λ q. absurd (false≢true (sym b ∙ q));
        unheaded = λ _. (refl, refl);
      }

  opened_keeps : (x : Option Part) → uib_of g ≡ x → Keeps Opening st at g (opened_step st at g x)
  opened_keeps (Some p) e =
      record { opened = λ _. (refl, e); unopened = λ q. absurd (true≢false q); headed = λ q. absurd (false≢true q); unheaded = λ _. (refl, refl) }
  opened_keeps None e = tt

  opening_keeps : Keeps Opening st at g (opening st at g)
  unfolding opening
  opening_keeps = choose (eqb (tag_number g) UIB) (λ q. rw q (opened_keeps (uib_of g) refl)) (λ q. rw q tt)

  headed_keeps : (x : Result Head HeadError) → uih_of g ≡ x → Keeps Between st at g (headed st at g x)
  headed_keeps (Ok h) e =
      record { opened = λ q. absurd (false≢true q); unopened = λ _. (refl, refl); headed = λ _. (refl, e); unheaded = λ q. absurd (true≢false q) }
  headed_keeps (Err Missing) e = tt
  headed_keeps (Err Unknown) e = tt

  closing_keeps : (d : List ℕ) → Keeps Between st at g (closing st at g d)
  unfolding closing
  closing_keeps d =
      choose (both (ltb 0 st.messages) (uiz_of g d st.messages))
      (λ q. rw q (other_keeps Between Closed st.messages st.segments st.place refl refl))
      (λ q. rw q tt)

  between_keeps : (d : List ℕ) → Keeps Between st at g (between_messages st at g d)
  unfolding between_messages
  between_keeps d =
      choose (eqb (tag_number g) UIH) (λ q. rw q (headed_keeps (uih_of g) refl))
      (λ q. rw q (choose (eqb (tag_number g) UIZ) (λ p. rw p (closing_keeps d)) (λ p. rw p tt)))

  judged_keeps : (p : Place) (group : ℕ) (x : Result Period Fault) → Keeps Inside st at g (judged st at g p group x)
  judged_keeps p group (Ok v) =
      other_keeps Inside Inside st.messages (one_more st.segments) p refl refl
  judged_keeps p group (Err x) = tt

  trailing_keeps : (r : List ℕ) (p : Place) (group : ℕ) → Keeps Inside st at g (trailing st at g r p group)
  unfolding trailing
  trailing_keeps r p group =
      choose (uit_of g r (one_more st.segments))
      (λ q. rw q (other_keeps Inside Between (one_more st.messages) (one_more st.segments) p refl refl))
      (λ q. rw q tt)

  placed_keeps : (r : List ℕ) (group : ℕ) (p : Place) → Keeps Inside st at g (placed st at g r group p)
  unfolding placed
  placed_keeps r group p =
      choose (eqb (tag_number g) UIT) (λ q. rw q (trailing_keeps r p group))
      (λ q.
      rw q
      (choose (is_period st.message (tag_number g) group) (λ e. rw e (judged_keeps p group (period_of st.wish g)))
      (λ e. rw e (other_keeps Inside Inside st.messages (one_more st.segments) p refl refl))))

  settled_keeps : (t : Table) (r : List ℕ) (x : Option Place) → Keeps Inside st at g (settled_step t st at g r x)
  settled_keeps t r (Some p) = placed_keeps r (group_of t p) p
  settled_keeps t r None = tt

  phase_keeps : (t : Table) (f : Phase) (d r : List ℕ) → Keeps f st at g (step_by t f st at g d r)
  unfolding step_by inside_message
  phase_keeps t Opening d r = opening_keeps
  phase_keeps t Between d r = between_keeps d
  phase_keeps t Inside d r = settled_keeps (table_in t st.message) r (step_of (table_in t st.message) st.place (tag_number g))
  phase_keeps t Closed d r = tt

pub step_keeps : (t : Table) (st : State) (at : ℕ) (g d r : List ℕ) (next : State) (row : Row) → segment_step t st at g d r ≡ done (taken next row)
    → Kept st.phase st at g next
step_keeps t st at g d r next row e = subst (Keeps st.phase st at g) e (phase_keeps st at g t st.phase d r)
