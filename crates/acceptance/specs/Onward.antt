-- After some whole segments the reading goes on from the state that is reached.
-- Assumes nothing.
use Rattle.std.specs.Prelude.{◌≡◌, refl, true, false, List, [], ◌∷◌, ◌++◌, ℕ, suc, ◌+◌, ◌-◌, ◌<◌, length, drop, Ok}
use Rattle.std.proofs.Common.{sym, ap, ◌∙◌, append_assoc, arith}
use Rattle.answers.specs.Answers.{Answer, done}
use Rattle.answers.specs.Laws.{refused≢done}
use Rattle.placing.specs.Tables.{tables}
use Rattle.steps.specs.declared.state.Phase.{Phase}
use Rattle.steps.specs.declared.state.Phase.TheVariants.{Opening, Between, Inside, Closed}
use Rattle.steps.specs.declared.state.State.{State}
use Rattle.steps.specs.declared.state.Row.{Row}
use Rattle.steps.specs.Step.{Taken, taken, step_by, segment_step}
use Rattle.interchange.specs.Reader.{Outcome, before, is_closed, dialogue_of, headed_reference, turn_step, turn_at, after_turn, read_on}
use Rattle.interchange.specs.Laws.{read_on_lem}
use Rattle.interchange.specs.Turns.{turn_is}
use Rattle.acceptance.specs.Interchange.{segments_written, is_segment}
use Rattle.acceptance.specs.Segments.{segment_fits, after_segment, body_is, segment_is}

-- the step of a segment g at an offset of the text s
abbrev pub step_at : List ℕ → State → ℕ → List ℕ → Answer Taken
step_at s st at g = segment_step tables st at g (dialogue_of s st) (headed_reference s st)

-- no segment follows the UIZ
pub next_open : (s : List ℕ) (st : State) (at : ℕ) (g : List ℕ) (next : State) (r : Row) → step_at s st at g ≡ done (taken next r) → is_closed st.phase ≡ false
unfolding step_by
next_open s st at g next r q = by_phase st.phase q
  where
    by_phase : (f : Phase) → step_by tables f st at g (dialogue_of s st) (headed_reference s st) ≡ done (taken next r) → is_closed f ≡ false
    by_phase Opening e = refl
    by_phase Between e = refl
    by_phase Inside e = refl
    by_phase Closed e = absurd (refused≢done e)

-- one segment
module _ (s : List ℕ) (st : State) (at : ℕ) (g rest : List ℕ) (e : drop at s ≡ g ++ (39 ∷ rest)) (ok : is_segment g ≡ true) (next : State) (r : Row)
    (q : step_at s st at g ≡ done (taken next r)) where
  turn_one : turn_at tables s st at ≡ turn_step (at + length g + 1) (done (taken next r))
  turn_one =
      sym (turn_is tables s st at (Ok (at + length g)) (segment_is s at g rest e ok))
      ∙ ap (λ (x : List ℕ). turn_step (at + length g + 1) (step_at s st at x)) (body_is s at g rest e ok)
      ∙ ap (turn_step (at + length g + 1)) q

  pub read_one : (f : ℕ) → length s < at + f → read_on f s st at ≡ before r (read_on (f - 1) s next (at + length g + 1))
  read_one f h =
      let n = segment_fits s at g rest e in
      read_on_lem f s st at (omega arith) h (next_open s st at g next r q) ∙ ap (after_turn (read_on (f - 1) s)) turn_one

-- some segments, each good and each stepping on, from a state and an offset to another state and offset, and their rows
pub data Goes (s : List ℕ) : State → ℕ → List (List ℕ) → List Row → State → ℕ → Type 0 where
  none : {st : State} {at : ℕ} → Goes s st at [] [] st at
  more : {st next last : State} {at end : ℕ} {g : List ℕ} {gs : List (List ℕ)} {r : Row} {rs : List Row} → is_segment g ≡ true → step_at s st at g ≡ done (taken next r)
      → Goes s next (at + length g + 1) gs rs last end → Goes s st at (g ∷ gs) (r ∷ rs) last end

-- some rows before what follows
abbrev pub precede : List Row → Outcome → Outcome
precede [] o = o
precede (r ∷ rs) o = before r (precede rs o)

-- the text that the segments end before
pub goes_past : (s : List ℕ) {st last : State} {at end : ℕ} {gs : List (List ℕ)} {rs : List Row} (rest : List ℕ) → Goes s st at gs rs last end
    → drop at s ≡ segments_written gs ++ rest → drop end s ≡ rest
unfolding segments_written
goes_past s rest none e = e
goes_past s rest (more {at = at} {g = g} {gs = gs} ok q go) e =
    goes_past s rest go (after_segment s at g (segments_written gs ++ rest) (e ∙ append_assoc g (39 ∷ segments_written gs) rest))

goes_from : (s : List ℕ) (f : ℕ) {st last : State} {at end : ℕ} {gs : List (List ℕ)} {rs : List Row} (rest : List ℕ) → Goes s st at gs rs last end
    → drop at s ≡ segments_written gs ++ rest → length s < at + f → read_on f s st at ≡ precede rs (read_on (f - length gs) s last end)
unfolding segments_written
goes_from s f rest (none {st = st} {at = at}) e h =
    let z : f ≡ f - 0 = omega arith in
    ap (λ (x : ℕ). read_on x s st at) z
goes_from s f rest (more {st = st} {next = next} {last = last} {at = at} {end = end} {g = g} {gs = gs} {r = r} {rs = rs} ok q go) e h =
    let w = e ∙ append_assoc g (39 ∷ segments_written gs) rest in
    let n = segment_fits s at g (segments_written gs ++ rest) w in
    let z : f - 1 - length gs ≡ f - suc (length gs) = omega arith in
    read_one s st at g (segments_written gs ++ rest) w ok next r q f h
    ∙ ap (before r)
    (goes_from s (f - 1) rest go (after_segment s at g (segments_written gs ++ rest) w) (omega arith)
    ∙ ap (λ (x : ℕ). precede rs (read_on x s last end)) z)

pub reading_goes_on : (f : ℕ) (s : List ℕ) {st last : State} {at end : ℕ} {gs : List (List ℕ)} {rs : List Row} (rest : List ℕ) → Goes s st at gs rs last end
    → drop at s ≡ segments_written gs ++ rest → length s < at + f → read_on f s st at ≡ precede rs (read_on (f - length gs) s last end)
reading_goes_on f s rest go e h = goes_from s f rest go e h
