-- Document 02, A2: "A refusal 10 is to say which part was wrong", one of six, and the part is "0 for other numbers".
-- Assumes nothing.
use Rattle.std.specs.Prelude.{◌≡◌, Bool, true, List, ℕ, ◌≤◌, eqb, leb, ltb, Option, Some, None, Result, Ok, Err}
use Rattle.std.proofs.Math.Path.{refl}
use Rattle.std.proofs.Common.{subst, arith, leb-true, eqb-true}
use Rattle.laws.specs.Choice.{pick, both, choose, both_parts}
use Rattle.answers.specs.declared.Refusal.{Refusal}
use Rattle.answers.specs.Answers.{Answer, done, refused}
use Rattle.syntax.specs.Segment.{tag_number}
use Rattle.placing.specs.declared.Place.{Place}
use Rattle.placing.specs.Table.{Table}
use Rattle.placing.specs.Tables.{table_in}
use Rattle.messages.specs.Tags.{UIB, UIH, UIT, UIZ}
use Rattle.messages.specs.Types.{is_period}
use Rattle.placing.specs.Rule.{step_of, group_of}
use Rattle.envelope.specs.Envelope.{uib_of, uih_of, uit_of, uiz_of}
use Rattle.period.specs.declared.Fault.{Fault}
use Rattle.period.specs.declared.Fault.TheVariants.{BadDates, BadDayString, BadWeekdays, BothForms, NeitherForm, BadRest}
use Rattle.period.specs.Period.{period_of, fault_number}
use Rattle.steps.specs.declared.state.Phase.{Phase}
use Rattle.steps.specs.declared.state.Phase.TheVariants.{Opening, Between, Inside, Closed}
use Rattle.steps.specs.declared.state.State.{State}
use Rattle.steps.specs.State.{one_more}
use Rattle.steps.specs.Step.{Taken, opened_step, opening, headed, closing, between_messages, trailing, judged, placed, settled_step, inside_message, step_by, segment_step}
use Rattle.period.specs.declared.Period.{Period}
use Rattle.parts.specs.declared.Part.{Part}
use Rattle.envelope.specs.declared.Head.{Head}
use Rattle.envelope.specs.declared.HeadError.{HeadError}
use Rattle.envelope.specs.declared.HeadError.TheVariants.{Missing, Unknown}

abbrev pub is_part : ℕ → ℕ → Bool
is_part number part = pick (eqb number 10) (both (leb 1 part) (leb part 6)) (eqb part 0)

abbrev pub part_fits : Refusal → Bool
part_fits x = is_part x.number x.part

abbrev pub Parted : {A : Type 0} → Answer A → Type 0
Parted (done a) = Unit {0}
Parted (refused x) = part_fits x ≡ true

pub part_few : (number part : ℕ) → is_part number part ≡ true → part ≤ 6
part_few number part e =
    choose (eqb number 10)
    (λ q. leb-true part 6 (both_parts (leb 1 part) (leb part 6) (rw q at e)).1)
    (λ q. let z = eqb-true part 0 (rw q at e) in omega arith)

fault_fits : (x : Fault) → both (leb 1 (fault_number x)) (leb (fault_number x) 6) ≡ true
unfolding fault_number
fault_fits BadDates = refl
fault_fits BadDayString = refl
fault_fits BadWeekdays = refl
fault_fits BothForms = refl
fault_fits NeitherForm = refl
fault_fits BadRest = refl

module _ (st : State) (at : ℕ) (g : List ℕ) where
  opened_parted : (x : Option Part) → Parted (opened_step st at g x)
  opened_parted (Some p) = tt
  opened_parted None = refl

  opening_parted : Parted (opening st at g)
  unfolding opening
  opening_parted = choose (eqb (tag_number g) UIB) (λ q. rw q (opened_parted (uib_of g))) (λ q. rw q refl)

  headed_parted : (x : Result Head HeadError) → Parted (headed st at g x)
  headed_parted (Ok h) = tt
  headed_parted (Err Missing) = refl
  headed_parted (Err Unknown) = refl

  closing_parted : (d : List ℕ) → Parted (closing st at g d)
  unfolding closing
  closing_parted d = choose (both (ltb 0 st.messages) (uiz_of g d st.messages)) (λ q. rw q tt) (λ q. rw q refl)

  between_parted : (d : List ℕ) → Parted (between_messages st at g d)
  unfolding between_messages
  between_parted d =
      choose (eqb (tag_number g) UIH) (λ q. rw q (headed_parted (uih_of g)))
      (λ q. rw q (choose (eqb (tag_number g) UIZ) (λ p. rw p (closing_parted d)) (λ p. rw p refl)))

  judged_parted : (p : Place) (group : ℕ) (x : Result Period Fault) → Parted (judged st at g p group x)
  judged_parted p group (Ok v) = tt
  judged_parted p group (Err x) = fault_fits x

  trailing_parted : (r : List ℕ) (p : Place) (group : ℕ) → Parted (trailing st at g r p group)
  unfolding trailing
  trailing_parted r p group = choose (uit_of g r (one_more st.segments)) (λ q. rw q tt) (λ q. rw q refl)

  placed_parted : (r : List ℕ) (group : ℕ) (p : Place) → Parted (placed st at g r group p)
  unfolding placed
  placed_parted r group p =
      choose (eqb (tag_number g) UIT) (λ q. rw q (trailing_parted r p group))
      (λ q. rw q (choose (is_period st.message (tag_number g) group) (λ e. rw e (judged_parted p group (period_of st.wish g))) (λ e. rw e tt)))

  settled_parted : (t : Table) (r : List ℕ) (x : Option Place) → Parted (settled_step t st at g r x)
  settled_parted t r (Some p) = placed_parted r (group_of t p) p
  settled_parted t r None = refl

  phase_parted : (t : Table) (f : Phase) (d r : List ℕ) → Parted (step_by t f st at g d r)
  unfolding step_by inside_message
  phase_parted t Opening d r = opening_parted
  phase_parted t Between d r = between_parted d
  phase_parted t Inside d r = settled_parted (table_in t st.message) r (step_of (table_in t st.message) st.place (tag_number g))
  phase_parted t Closed d r = refl

-- what a step answers, and its refusal
pub step_parted : (t : Table) (st : State) (at : ℕ) (g d r : List ℕ) → Parted (segment_step t st at g d r)
step_parted t st at g d r = phase_parted st at g t st.phase d r

pub step_part : (t : Table) (st : State) (at : ℕ) (g d r : List ℕ) (x : Refusal) → segment_step t st at g d r ≡ refused x → part_fits x ≡ true
step_part t st at g d r x e = subst Parted e (step_parted t st at g d r)
