-- What lets a segment step on: the rules for it, no more and no less, by what may come next.
-- Assumes nothing.
use Rattle.std.specs.Prelude.{◌≡◌, true, false, List, ℕ, eqb, ltb, Option, Some, None, Result, Ok, Err}
use Rattle.std.proofs.Math.Path.{refl, sym, ap}
use Rattle.std.proofs.Common.{◌∙◌}
use Rattle.laws.specs.Choice.{both, choose, both_parts, false≢true}
use Rattle.answers.specs.Answers.{Answer, done}
use Rattle.answers.specs.Laws.{refused≢done}
use Rattle.syntax.specs.Segment.{tag_number}
use Rattle.parts.specs.declared.Part.{Part}
use Rattle.placing.specs.declared.Place.{Place}
use Rattle.messages.specs.declared.MessageType.{MessageType}
use Rattle.messages.specs.Types.{is_period}
use Rattle.placing.specs.Tables.{tables, table_of}
use Rattle.messages.specs.Tags.{UIB, UIH, UIZ}
use Rattle.placing.specs.Rule.{step_of, group_of}
use Rattle.envelope.specs.Envelope.{uib_of, uih_of, uit_of, uiz_of, heading}
use Rattle.period.specs.Period.{is_good, period_of}
use Rattle.steps.specs.declared.state.Phase.{Phase}
use Rattle.steps.specs.declared.state.Phase.TheVariants.{Opening, Between, Inside}
use Rattle.steps.specs.declared.state.State.{State}
use Rattle.steps.specs.declared.state.Row.{Row}
use Rattle.steps.specs.State.{one_more, opened_state, headed_state, onward_state, ended_state, closed_state}
use Rattle.steps.specs.Step.{Taken, taken, row_of, opened_step, opening, headed, closing, between_messages, trailing, judged, placed, settled_step, inside_message, step_by}
use Rattle.interchange.specs.Reader.{dialogue_of, headed_reference}
use Rattle.acceptance.specs.Interchange.{good_contents, is_trailer}
use Rattle.acceptance.specs.Onward.{step_at}
use Rattle.period.specs.declared.Period.{Period}
use Rattle.period.specs.declared.Fault.{Fault}
use Rattle.envelope.specs.declared.Head.{Head}
use Rattle.envelope.specs.declared.HeadError.{HeadError}
use Rattle.envelope.specs.declared.HeadError.TheVariants.{Missing, Unknown}

next_is : (a b : State) (r q : Row) → done (taken a r) ≡ done (taken b q) → b ≡ a
next_is a b r q e = cc

module _ (s : List ℕ) (st : State) (at : ℕ) (g : List ℕ) where
  abbrev by : Phase → Answer Taken
  by f = step_by tables f st at g (dialogue_of s st) (headed_reference s st)

  -- the UIB
  pub opening_goes : st.phase ≡ Opening → eqb (tag_number g) UIB ≡ true → (p : Part) → uib_of g ≡ Some p
      → step_at s st at g ≡ done (taken (opened_state st at p) (row_of at g 0))
  unfolding step_by opening
  opening_goes f t p e = ap by f ∙ rw (t, e)

  -- a UIH
  pub heading_goes : st.phase ≡ Between → eqb (tag_number g) UIH ≡ true → (k : MessageType) (p : Part) → uih_of g ≡ heading k p
      → step_at s st at g ≡ done (taken (headed_state st at k p) (row_of at g 0))
  unfolding step_by between_messages
  heading_goes f t k p e = ap by f ∙ rw (t, e)

  -- the UIZ
  pub closing_goes : st.phase ≡ Between → eqb (tag_number g) UIH ≡ false → eqb (tag_number g) UIZ ≡ true → ltb 0 st.messages ≡ true
      → uiz_of g (dialogue_of s st) st.messages ≡ true → step_at s st at g ≡ done (taken (closed_state st) (row_of at g 0))
  unfolding step_by between_messages closing
  closing_goes f n t m e = ap by f ∙ rw (n, t, m, e)

  -- in a message
  abbrev fits : Place → Type 0
  fits q = step_of (table_of st.message) st.place (tag_number g) ≡ Some q

  judged_good : (q : Place) (group : ℕ) (x : Result Period Fault) → is_good x ≡ true → judged st at g q group x ≡ done (taken (onward_state st q) (row_of at g group))
  judged_good q group (Ok v) e = refl
  judged_good q group (Err x) e = absurd (false≢true e)

  pub within_goes : st.phase ≡ Inside → (q : Place) → fits q → is_trailer g ≡ false → good_contents st.wish st.message (g, Some q) ≡ true
      → step_at s st at g ≡ done (taken (onward_state st q) (row_of at g (group_of (table_of st.message) q)))
  unfolding step_by inside_message placed
  within_goes f q e t c =
      ap by f
      ∙ ap (settled_step (table_of st.message) st at g (headed_reference s st)) e
      ∙ choose (is_period st.message (tag_number g) (group_of (table_of st.message) q))
      (λ p. rw (t, p) (judged_good q (group_of (table_of st.message) q) (period_of st.wish g) (rw p at c)))
      (λ p. rw (t, p))

  pub trailer_goes : st.phase ≡ Inside → (q : Place) → fits q → is_trailer g ≡ true → uit_of g (headed_reference s st) (one_more st.segments) ≡ true
      → step_at s st at g ≡ done (taken (ended_state st q) (row_of at g (group_of (table_of st.message) q)))
  unfolding step_by inside_message placed trailing
  trailer_goes f q e t c = ap by f ∙ ap (settled_step (table_of st.message) st at g (headed_reference s st)) e ∙ rw (t, c)

  -- and the other way
  module _ (next : State) (r : Row) where
    pub record Opens : Type 0 where
      pub tag : eqb (tag_number g) UIB ≡ true
      pub dialogue : Part
      pub named : uib_of g ≡ Some dialogue
      pub state : next ≡ opened_state st at dialogue

    opens_by : (x : Option Part) → uib_of g ≡ x → eqb (tag_number g) UIB ≡ true → opened_step st at g x ≡ done (taken next r) → Opens
    opens_by (Some p) e t q = record { tag = t; dialogue = p; named = e; state = next_is (opened_state st at p) next (row_of at g 0) r q }
    opens_by None e t q = absurd (refused≢done q)

    pub opens : st.phase ≡ Opening → step_at s st at g ≡ done (taken next r) → Opens
    unfolding step_by opening
    opens f q =
        let w : opening st at g ≡ done (taken next r) = sym (ap by f) ∙ q in
        choose (eqb (tag_number g) UIB) (λ t. opens_by (uib_of g) refl t (rw t at w))
        (λ t. absurd (refused≢done (rw t at w)))

    pub data Follows : Type 0 where
      heads : (k : MessageType) (p : Part) → eqb (tag_number g) UIH ≡ true → uih_of g ≡ heading k p → next ≡ headed_state st at k p → Follows
      closes : eqb (tag_number g) UIZ ≡ true → ltb 0 st.messages ≡ true → uiz_of g (dialogue_of s st) st.messages ≡ true → next ≡ closed_state st → Follows

    heads_by : (x : Result Head HeadError) → uih_of g ≡ x → eqb (tag_number g) UIH ≡ true → headed st at g x ≡ done (taken next r) → Follows
    heads_by (Ok h) e t q = heads h.message h.reference t e (next_is (headed_state st at h.message h.reference) next (row_of at g 0) r q)
    heads_by (Err Missing) e t q = absurd (refused≢done q)
    heads_by (Err Unknown) e t q = absurd (refused≢done q)

    closes_by : eqb (tag_number g) UIZ ≡ true → closing st at g (dialogue_of s st) ≡ done (taken next r) → Follows
    unfolding closing
    closes_by t q =
        choose (both (ltb 0 st.messages) (uiz_of g (dialogue_of s st) st.messages))
        (λ b.
        let u = both_parts (ltb 0 st.messages) (uiz_of g (dialogue_of s st) st.messages) b in
        closes t u.0 u.1 (next_is (closed_state st) next (row_of at g 0) r (rw b at q)))
        (λ b. absurd (refused≢done (rw b at q)))

    pub follows : st.phase ≡ Between → step_at s st at g ≡ done (taken next r) → Follows
    unfolding step_by between_messages
    follows f q =
        let w : between_messages st at g (dialogue_of s st) ≡ done (taken next r) = sym (ap by f) ∙ q in
        choose (eqb (tag_number g) UIH) (λ t. heads_by (uih_of g) refl t (rw t at w))
        (λ n.
        choose (eqb (tag_number g) UIZ) (λ t. closes_by t (rw (n, t) at w))
        (λ t. absurd (refused≢done (rw (n, t) at w))))

    pub data Moves : Type 0 where
      onward : (q : Place) → fits q → is_trailer g ≡ false → good_contents st.wish st.message (g, Some q) ≡ true → next ≡ onward_state st q → Moves
      ends : (q : Place) → fits q → is_trailer g ≡ true → uit_of g (headed_reference s st) (one_more st.segments) ≡ true → next ≡ ended_state st q → Moves

    judged_is : (q : Place) (group : ℕ) (x : Result Period Fault) → judged st at g q group x ≡ done (taken next r) → (is_good x ≡ true) × (next ≡ onward_state st q)
    judged_is q group (Ok v) e = (refl, next_is (onward_state st q) next (row_of at g group) r e)
    judged_is q group (Err x) e = absurd (refused≢done e)

    moves_by : (x : Option Place) → step_of (table_of st.message) st.place (tag_number g) ≡ x
        → settled_step (table_of st.message) st at g (headed_reference s st) x ≡ done (taken next r) → Moves
    unfolding placed trailing
    moves_by None e q = absurd (refused≢done q)
    moves_by (Some p) e q =
        choose (is_trailer g)
        (λ t.
        choose (uit_of g (headed_reference s st) (one_more st.segments))
        (λ u. ends p e t u (next_is (ended_state st p) next (row_of at g (group_of (table_of st.message) p)) r (rw (t, u) at q)))
        (λ u. absurd (refused≢done (rw (t, u) at q))))
        (λ t.
        choose (is_period st.message (tag_number g) (group_of (table_of st.message) p))
        (λ c. let j = judged_is p (group_of (table_of st.message) p) (period_of st.wish g) (rw (t, c) at q) in onward p e t (rw c j.0) j.1)
        (λ c. onward p e t (rw c) (next_is (onward_state st p) next (row_of at g (group_of (table_of st.message) p)) r (rw (t, c) at q))))

    pub moves : st.phase ≡ Inside → step_at s st at g ≡ done (taken next r) → Moves
    unfolding step_by inside_message
    moves f q = moves_by (step_of (table_of st.message) st.place (tag_number g)) refl (sym (ap by f) ∙ q)
