-- The ways through one segment's step.
-- Assumes nothing.
use Rattle.std.specs.Prelude.{◌≡◌, refl, Bool, true, false, List, ℕ, ◌<◌, eqb, ltb, length, Some, None, Result, Ok, Err}
use Rattle.std.proofs.Common.{sym, ap, ◌∙◌, arith}
use borrow.Author.Tests.{eq-eqb, ne_eqb, lt-ltb, le-ltb}
use Rattle.laws.specs.Choice.{both, both_false}
use Rattle.answers.specs.Answers.{Answer, done, refused, wrong_envelope, out_of_place}
use Rattle.answers.specs.Laws.{one_case}
use Rattle.answers.specs.declared.Refusal.{Refusal}
use Rattle.syntax.specs.Segment.{tag_number}
use Rattle.std.proofs.Math.Seq.{take-length}
use Rattle.std.proofs.Math.Nat.{sub-zero}
use Rattle.parts.specs.Places.{bytes_of}
use Rattle.parts.specs.declared.Part.{Part}
use Rattle.placing.specs.declared.Place.{Place}
use Rattle.placing.specs.Table.{Table}
use Rattle.messages.specs.Tags.{UIB, UIH, UIT, UIZ}
use Rattle.messages.specs.Types.{is_period}
use Rattle.placing.specs.Rule.{step_of, group_of}
use Rattle.envelope.specs.Envelope.{uib_of, uih_of, uit_of, uiz_of}
use Rattle.period.specs.Period.{period_of}
use Rattle.steps.specs.declared.state.Phase.{Phase}
use Rattle.steps.specs.declared.state.Phase.TheVariants.{Inside}
use Rattle.steps.specs.declared.state.State.{State}
use Rattle.steps.specs.declared.state.Row.{Row}
use Rattle.steps.specs.declared.state.Step.{Step}
use Rattle.steps.specs.State.{one_more, opened_state, closed_state, onward_state, ended_state}
use Rattle.steps.specs.Step.{Taken, taken, step_answer, row_of, opening, headed, closing, between_messages, trailing, judged, placed, inside_message, step_by, segment_step}

pub next_is : {s t : State} {r q : Row} → s ≡ t → r ≡ q → done (taken s r) ≡ done (taken t q)
next_is e f = cc

module _ (st : State) (at : ℕ) (g : List ℕ) where
  pub opening_other : (tag_number g ≡ UIB → ⊥) → wrong_envelope at ≡ opening st at g
  unfolding opening
  opening_other h = rw (ne_eqb (tag_number g) UIB h)

  pub opening_good : tag_number g ≡ UIB → (p : Part) → uib_of g ≡ Some p → done (taken (opened_state st at p) (row_of at g 0)) ≡ opening st at g
  unfolding opening
  opening_good h p e = rw (eq-eqb (tag_number g) UIB h, e)

  pub opening_wrong : tag_number g ≡ UIB → uib_of g ≡ None → wrong_envelope at ≡ opening st at g
  unfolding opening
  opening_wrong h e = rw (eq-eqb (tag_number g) UIB h, e)

  module _ (dialogue : List ℕ) where
    pub closing_none : st.messages ≡ 0 → wrong_envelope at ≡ closing st at g dialogue
    unfolding closing
    closing_none h = rw (le-ltb 0 st.messages (omega arith))

    pub closing_good : (st.messages ≡ 0 → ⊥) → uiz_of g dialogue st.messages ≡ true → done (taken (closed_state st) (row_of at g 0)) ≡ closing st at g dialogue
    unfolding closing
    closing_good h e = rw (lt-ltb 0 st.messages (omega arith), e)

    pub closing_wrong : uiz_of g dialogue st.messages ≡ false → wrong_envelope at ≡ closing st at g dialogue
    unfolding closing
    closing_wrong e = simp (e, both_false)

    pub between_uih : tag_number g ≡ UIH → headed st at g (uih_of g) ≡ between_messages st at g dialogue
    unfolding between_messages
    between_uih h = rw (eq-eqb (tag_number g) UIH h)

    pub between_uiz : (tag_number g ≡ UIH → ⊥) → tag_number g ≡ UIZ → closing st at g dialogue ≡ between_messages st at g dialogue
    unfolding between_messages
    between_uiz h k = rw (ne_eqb (tag_number g) UIH h, eq-eqb (tag_number g) UIZ k)

    pub between_other : (tag_number g ≡ UIH → ⊥) → (tag_number g ≡ UIZ → ⊥) → wrong_envelope at ≡ between_messages st at g dialogue
    unfolding between_messages
    between_other h k = rw (ne_eqb (tag_number g) UIH h, ne_eqb (tag_number g) UIZ k)

  module _ (reference : List ℕ) (p : Place) (group : ℕ) where
    pub trailing_good : uit_of g reference (one_more st.segments) ≡ true → done (taken (ended_state st p) (row_of at g group)) ≡ trailing st at g reference p group
    unfolding trailing
    trailing_good e = rw e

    pub trailing_wrong : uit_of g reference (one_more st.segments) ≡ false → wrong_envelope at ≡ trailing st at g reference p group
    unfolding trailing
    trailing_wrong e = rw e

    pub placed_uit : tag_number g ≡ UIT → trailing st at g reference p group ≡ placed st at g reference group p
    unfolding placed
    placed_uit h = rw (eq-eqb (tag_number g) UIT h)

    pub placed_period : (tag_number g ≡ UIT → ⊥) → is_period st.message (tag_number g) group ≡ true → judged st at g p group (period_of st.wish g) ≡ placed st at g reference group p
    unfolding placed
    placed_period h e = rw (ne_eqb (tag_number g) UIT h, e)

    pub placed_other : (tag_number g ≡ UIT → ⊥) → is_period st.message (tag_number g) group ≡ false → done (taken (onward_state st p) (row_of at g group)) ≡ placed st at g reference group p
    unfolding placed
    placed_other h e = rw (ne_eqb (tag_number g) UIT h, e)

  module _ (t : Table) (reference : List ℕ) where
    pub inside_placed : (p : Place) → step_of t st.place (tag_number g) ≡ Some p → placed st at g reference (group_of t p) p ≡ inside_message t st at g reference
    unfolding inside_message
    inside_placed p e = rw e

    pub inside_out : step_of t st.place (tag_number g) ≡ None → out_of_place at ≡ inside_message t st at g reference
    unfolding inside_message
    inside_out e = rw e

-- a segment's own bytes are all of its slice
pub whole : (g : List ℕ) → bytes_of g (record { from = 0; to = length g }) ≡ g
whole g = rw sub-zero (take-length g)

-- what a step answers fixes its case
abbrev case : Answer Taken → Result Step Refusal
case (done (taken st r)) = Ok (record { state = st; row = r })
case (refused refusal) = Err refusal

back : (x : Result Step Refusal) → case (step_answer x) ≡ x
back (Ok x) = refl
back (Err x) = refl

pub step_case : (x y : Result Step Refusal) → step_answer x ≡ step_answer y → x ≡ y
step_case = one_case step_answer case back
