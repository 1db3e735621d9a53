-- However many bytes arrive, the reading has room in a store, and a reference that did not come is as it was.
-- Assumes nothing.
use Rattle.std.specs.Prelude.{◌≡◌, Bool, true, false, List, [], ◌∷◌, ◌++◌, ℕ, ◌+◌, ◌-◌, ◌<◌, ◌≤◌, eqb, ltb, leb, length, drop, Option, Some, None, Result, Ok, Err}
use Rattle.std.proofs.Math.Path.{refl}
use Rattle.std.proofs.Common.{sym, ap, subst, ◌∙◌, arith, ltb-true, leb-false, length-append, length-take, length-drop}
use Rattle.laws.specs.Choice.{pick, both, all, choose, either_parts}
use Rattle.laws.specs.Lists.{between}
use Rattle.answers.specs.declared.Refusal.{Refusal}
use Rattle.answers.specs.Answers.{Answer, done, refused, naming, bad_size, wrong_envelope, segment_too_long}
use Rattle.syntax.specs.Bytes.{terminator, permitted_of, stands}
use Rattle.syntax.specs.Segment.{tag_number, well_formed, permitted_run, body_answer}
use Rattle.syntax.specs.Firsts.{first_length}
use Rattle.parts.specs.Places.{bytes_of}
use Rattle.messages.specs.Types.{is_period}
use Rattle.messages.specs.Tags.{UIB, UIH, UIT, UIZ}
use Rattle.placing.specs.declared.Place.{Place}
use Rattle.placing.specs.Tables.{tables, table_in}
use Rattle.placing.specs.Rule.{step_of, group_of}
use Rattle.envelope.specs.Envelope.{uib_of, uih_of, uit_of, uiz_of}
use Rattle.period.specs.Period.{period_of}
use Rattle.steps.specs.declared.state.Phase.{Phase}
use Rattle.steps.specs.declared.state.Phase.TheVariants.{Opening, Between, Inside, Closed}
use Rattle.steps.specs.declared.state.State.{State}
use Rattle.steps.specs.State.{one_more, onward_state, ended_state}
use Rattle.steps.specs.Parts.{part_fits, step_part}
use Rattle.steps.specs.Step.{Taken, taken, opened_step, opening, headed, closing, between_messages, trailing, judged, placed, settled_step, inside_message, step_by, segment_step}
use Rattle.interchange.specs.Reader.{is_closed}
use Rattle.arrival.specs.Arrived.{Final, Stand, Brought, awaited, given, beginning, only, arrived_bytes, answered, longer, opens, heads, passed, arrived_step, arrived_scan, ending, awaited_byte, byte_by, byte_of, arrived_on}
use Rattle.arrival.specs.Alike.{alike_refused, step_number}
use Rattle.parcel_store.specs.Store.{store_size, part_size, held_in, keep}
use Rattle.parcel_store.specs.Bounds.{Counted, FinalFits, Fits}
use Rattle.parcel_store.specs.Places.{step_counted, step_row}
use Rattle.parcel_store.specs.Laws.{held_kept}
use Rattle.period.specs.declared.Period.{Period}
use Rattle.period.specs.declared.Fault.{Fault}
use Rattle.parts.specs.declared.Part.{Part}
use Rattle.envelope.specs.declared.Head.{Head}
use Rattle.envelope.specs.declared.HeadError.{HeadError}
use Rattle.envelope.specs.declared.HeadError.TheVariants.{Missing, Unknown}

-- One segment's step

counted_more : (n m : ℕ) → n ≤ m → (p : Place) → Counted n p → Counted m p
counted_more n m h p c =
    let a = c.0 in
    let b = c.1 in
    let d = c.2 in
    let e = c.3 in
    let f = c.4 in
    (omega arith, omega arith, omega arith, omega arith, omega arith)

more_small : (n : ℕ) → n < 65536 → one_more n < 65536
more_small n h = choose (ltb n 65535) (λ q. let l = ltb-true n 65535 q in rw q (omega arith)) (λ q. rw q h)

-- a state whose counts are k at most
record Led (k : ℕ) (st : State) : Type 0 where
  messages : st.messages < 65536
  segments : st.segments < 65536
  row : st.place.row < 65536
  counts : Counted k st.place

abbrev LedBy : ℕ → Answer Taken → Type 0
LedBy k (done (taken st r)) = Led k st
LedBy k (refused refusal) = Unit {0}

module _ (k : ℕ) (st : State) (from : Led k st) (at : ℕ) (g : List ℕ) where
  kept_counts : Counted (k + 1) st.place
  kept_counts = counted_more k (k + 1) (omega arith) st.place from.counts

  opened_led : (o : Option Part) → LedBy (k + 1) (opened_step st at g o)
  opened_led (Some p) = record { messages = from.messages; segments = from.segments; row = from.row; counts = kept_counts }
  opened_led None = tt

  opening_led : LedBy (k + 1) (opening st at g)
  unfolding opening
  opening_led = choose (eqb (tag_number g) UIB) (λ q. rw q (opened_led (uib_of g))) (λ q. rw q tt)

  headed_led : (h : Result Head HeadError) → LedBy (k + 1) (headed st at g h)
  headed_led (Ok h) =
      record { messages = from.messages; segments = omega arith; row = omega arith; counts = (omega arith, omega arith, omega arith, omega arith, omega arith) }
  headed_led (Err Missing) = tt
  headed_led (Err Unknown) = tt

  closing_led : (d : List ℕ) → LedBy (k + 1) (closing st at g d)
  unfolding closing
  closing_led d =
      choose (both (ltb 0 st.messages) (uiz_of g d st.messages))
      (λ q. rw q (record { messages = from.messages; segments = from.segments; row = from.row; counts = kept_counts })) (λ q. rw q tt)

  between_led : (d : List ℕ) → LedBy (k + 1) (between_messages st at g d)
  unfolding between_messages
  between_led d =
      choose (eqb (tag_number g) UIH) (λ q. rw q (headed_led (uih_of g)))
      (λ q. rw q (choose (eqb (tag_number g) UIZ) (λ p. rw p (closing_led d)) (λ p. rw p tt)))

  module _ (p : Place) (row : p.row < 65536) (counts : Counted (k + 1) p) where
    onward_led : Led (k + 1) (onward_state st p)
    onward_led = record { messages = from.messages; segments = more_small st.segments from.segments; row = row; counts = counts }

    ended_led : Led (k + 1) (ended_state st p)
    ended_led =
        record { messages = more_small st.messages from.messages; segments = more_small st.segments from.segments; row = row; counts = counts }

    judged_led : (group : ℕ) (x : Result Period Fault) → LedBy (k + 1) (judged st at g p group x)
    judged_led group (Ok v) = onward_led
    judged_led group (Err x) = tt

    trailing_led : (r : List ℕ) (group : ℕ) → LedBy (k + 1) (trailing st at g r p group)
    unfolding trailing
    trailing_led r group =
        choose (uit_of g r (one_more st.segments)) (λ q. rw q ended_led) (λ q. rw q tt)

    placed_led : (r : List ℕ) (group : ℕ) → LedBy (k + 1) (placed st at g r group p)
    unfolding placed
    placed_led r group =
        choose (eqb (tag_number g) UIT) (λ q. rw q (trailing_led r group))
        (λ q.
        rw q
        (choose (is_period st.message (tag_number g) group) (λ e. rw e (judged_led group (period_of st.wish g)))
        (λ e. rw e onward_led)))

  settled_led : (r : List ℕ) (x : Option Place) → step_of (table_in tables st.message) st.place (tag_number g) ≡ x
      → LedBy (k + 1) (settled_step (table_in tables st.message) st at g r x)
  settled_led r (Some p) e =
      placed_led p (step_row st.message st.place (tag_number g) p e)
      (step_counted (table_in tables st.message) k st.place from.counts (tag_number g) p e) r (group_of (table_in tables st.message) p)
  settled_led r None e = tt

  step_led : (f : Phase) (d r : List ℕ) → LedBy (k + 1) (step_by tables f st at g d r)
  unfolding step_by inside_message
  step_led Opening d r = opening_led
  step_led Between d r = between_led d
  step_led Inside d r = settled_led r (step_of (table_in tables st.message) st.place (tag_number g)) refl
  step_led Closed d r = tt

-- One segment

run_within : (g : List ℕ) → permitted_run g ≤ length g
unfolding permitted_run
run_within [] = omega arith
run_within (b ∷ l) = choose (permitted_of b) (λ q. rw q (let h = run_within l in omega arith)) (λ q. rw q (omega arith))

-- a refusal of a segment that has come is 4, 5 or 6, at one of its bytes
abbrev ScanTold : ℕ → ℕ → Answer ℕ → Type 0
ScanTold at n (done end) = Unit {0}
ScanTold at n (refused x) = (2 ≤ x.number) × (x.number ≤ 21) × (x.position ≤ at + n) × (part_fits x ≡ true)

scan_told : (n at : ℕ) (g : List ℕ) → ScanTold at (length g) (body_answer n at g)
unfolding body_answer
scan_told n at g =
    let r = run_within g in
    choose (all permitted_of g)
    (λ a.
    rw a
    (choose (ltb (at + length g) n)
    (λ b. rw b (choose (well_formed g) (λ c. rw c tt) (λ c. rw c (omega arith, omega arith, omega arith, refl))))
    (λ b. rw b (omega arith, omega arith, omega arith, refl))))
    (λ a. rw a (omega arith, omega arith, omega arith, refl))

part_within : (g : List ℕ) (from to : ℕ) → length (between g from to) ≤ length g
part_within g from to =
    let a = length-take (to - from) (drop from g) in
    let b = length-drop from g in
    omega arith

ending_within : (x : Stand) → length (ending x) ≤ length x.body + 1
ending_within x =
    let a = first_length terminator false (x.body ++ (terminator ∷ [])) in
    let b = length-append x.body (terminator ∷ []) in
    omega arith

module _ (x : Stand) (fits : Fits x) where
  pub answered_fits : (a : Answer ℕ) → FinalFits x.count (given a) → Fits (answered x a)
  answered_fits a h =
      record {
        state = fits.state;
        counted = fits.counted;
        bared = fits.bared;
        offset = fits.offset;
        body = omega arith;
        dialogue = fits.dialogue;
        reference = fits.reference;
        count = fits.count;
        final = h;
      }

  longer_fits : (b : ℕ) → length x.body < part_size → Fits (longer x b)
  longer_fits b h =
      let l = length-append x.body (b ∷ []) in
      record {
        state = fits.state;
        counted = fits.counted;
        bared = fits.bared;
        offset = fits.offset;
        body = omega arith;
        dialogue = fits.dialogue;
        reference = fits.reference;
        count = fits.count;
        final = fits.final;
      }

  module _ (none : x.final ≡ awaited) (early : arrived_bytes x < 60000) (g : List ℕ) (within : length g ≤ length x.body + 1) (short : length g ≤ part_size) where
    chosen_short : (p : Bool) (from to : ℕ) (old : List ℕ) → length old ≤ part_size → length (pick p (between g from to) old) ≤ part_size
    chosen_short true from to old h = let l = part_within g from to in omega arith
    chosen_short false from to old h = h

    passed_fits : (st : State) → Led (x.offset + 1 + 1) st → Fits (passed x g st)
    passed_fits st led =
        record {
          state =
              record {
                messages = led.messages;
                segments = led.segments;
                row = led.row;
                counts = counted_more (x.offset + 1 + 1) 65535 (omega arith) st.place led.counts;
              };
          counted = counted_more (x.offset + 1 + 1) (arrived_bytes x + 1 + 1) (omega arith) st.place led.counts;
          bared = refl;
          offset = omega arith;
          body = omega arith;
          dialogue = chosen_short (opens x.state.phase) st.dialogue.from st.dialogue.to x.dialogue fits.dialogue;
          reference = chosen_short (heads x.state.phase st.phase) st.reference.from st.reference.to x.reference fits.reference;
          count = more_small x.count fits.count;
          final = subst (FinalFits (one_more x.count)) (sym none) tt;
        }

    step_fits : (a : Answer Taken) → LedBy (x.offset + 1 + 1) a
        → ((z : Refusal) → a ≡ refused z → (2 ≤ z.number) × (z.number ≤ 21) × (z.position < 65536) × (part_fits z ≡ true)) → Fits (arrived_step x g a).stand
    step_fits (done (taken st r)) led told = passed_fits st led
    step_fits (refused refusal) led told = answered_fits (refused refusal) (told refusal refl)

    scan_fits : (a : Answer ℕ) → ScanTold x.offset (length g) a → Fits (arrived_scan x g a).stand
    scan_fits (done end) told =
        let answer = segment_step tables x.state x.offset g x.dialogue x.reference in
        let from : Led (x.offset + 1) x.state =
        record { messages = fits.state.messages; segments = fits.state.segments; row = fits.state.row; counts = fits.counted } in
        step_fits answer (step_led (x.offset + 1) x.state from x.offset g x.state.phase x.dialogue x.reference)
        (λ z e.
        let n = step_number tables x.state x.offset g x.dialogue x.reference z e in
        let p = alike_refused tables x.state x.state refl x.offset x.offset g x.dialogue x.reference z e in
        let a = n.0 in
        let b = n.1 in
        let c = p.0 in
        (omega arith, omega arith, omega arith, step_part tables x.state x.offset g x.dialogue x.reference z e))
    scan_fits (refused refusal) told =
        let p = told.2 in
        answered_fits (refused refusal) (told.0, told.1, omega arith, told.3)

-- One byte, and any bytes

awaited_fits : (x : Stand) → Fits x → x.final ≡ awaited → (b : ℕ) → Fits (awaited_byte x b).stand
unfolding awaited_byte
awaited_fits x fits none b =
    let o = fits.offset in
    choose (leb 60000 (arrived_bytes x)) (λ p. rw p (answered_fits x fits bad_size (omega arith, omega arith, omega arith, refl)))
    (λ p.
    let early = leb-false 60000 (arrived_bytes x) p in
    rw p
    (choose (is_closed x.state.phase) (λ q. rw q (answered_fits x fits (wrong_envelope x.offset) (omega arith, omega arith, o, refl)))
    (λ q.
    rw q
    (choose (leb 4096 (length x.body)) (λ r. rw r (answered_fits x fits (segment_too_long x.offset) (omega arith, omega arith, o, refl)))
    (λ r.
    let short = leb-false 4096 (length x.body) r in
    let g = ending x in
    let w = ending_within x in
    rw r
    (choose (stands terminator x.released b)
    (λ s. rw s (scan_fits x fits none early g w (omega arith) (body_answer (arrived_bytes x + 1) x.offset g) (scan_told (arrived_bytes x + 1) x.offset g)))
    (λ s. rw s (longer_fits x fits b short))))))))

byte_fits : (f : Final) (x : Stand) → x.final ≡ f → Fits x → (b : ℕ) → Fits (byte_by f x b).stand
byte_fits awaited x e fits b = awaited_fits x fits e b
byte_fits (given a) x e fits b = fits

pub fits_on : (x : Stand) (l : List ℕ) → Fits x → Fits (arrived_on x l).stand
unfolding arrived_on
fits_on x [] fits = fits
fits_on x (b ∷ l) fits = fits_on (byte_of x b).stand l (byte_fits x.final x refl fits b)

-- a reading that began at the beginning
pub fits_beginning : (wish : Bool) → Fits (beginning wish)
fits_beginning wish =
    record {
      state = record { messages = omega arith; segments = omega arith; row = omega arith; counts = (omega arith, omega arith, omega arith, omega arith, omega arith) };
      counted = (omega arith, omega arith, omega arith, omega arith, omega arith);
      bared = refl;
      offset = omega arith;
      body = omega arith;
      dialogue = omega arith;
      reference = omega arith;
      count = omega arith;
      final = tt;
    }

-- The references

-- what was not read is as it was
record Stays (x : Stand) (y : Brought) : Type 0 where
  dialogue : y.opened ≡ false → y.stand.dialogue ≡ x.dialogue
  reference : y.headed ≡ false → y.stand.reference ≡ x.reference

only_stays : (x y : Stand) → y.dialogue ≡ x.dialogue → y.reference ≡ x.reference → Stays x (only y)
only_stays x y d r = record { dialogue = λ _. d; reference = λ _. r }

step_stays : (x : Stand) (g : List ℕ) (a : Answer Taken) → Stays x (arrived_step x g a)
step_stays x g (done (taken st r)) =
    record {
      dialogue = λ q. ap (λ (p : Bool). pick p (bytes_of g st.dialogue) x.dialogue) q;
      reference = λ q. ap (λ (p : Bool). pick p (bytes_of g st.reference) x.reference) q;
    }
step_stays x g (refused refusal) = only_stays x (answered x (refused refusal)) refl refl

scan_stays : (x : Stand) (g : List ℕ) (a : Answer ℕ) → Stays x (arrived_scan x g a)
scan_stays x g (done end) = step_stays x g (segment_step tables x.state x.offset g x.dialogue x.reference)
scan_stays x g (refused refusal) = only_stays x (answered x (refused refusal)) refl refl

awaited_stays : (x : Stand) (b : ℕ) → Stays x (awaited_byte x b)
unfolding awaited_byte
awaited_stays x b =
    let g = ending x in
    choose (leb 60000 (arrived_bytes x)) (λ p. rw p (only_stays x (answered x (refused (naming 3 0))) refl refl))
    (λ p.
    rw p
    (choose (is_closed x.state.phase) (λ q. rw q (only_stays x (answered x (refused (naming 7 x.offset))) refl refl))
    (λ q.
    rw q
    (choose (leb 4096 (length x.body)) (λ r. rw r (only_stays x (answered x (refused (naming 21 x.offset))) refl refl))
    (λ r.
    rw r
    (choose (stands terminator x.released b) (λ s. rw s (scan_stays x g (body_answer (arrived_bytes x + 1) x.offset g)))
    (λ s. rw s (only_stays x (longer x b) refl refl))))))))

byte_stays : (f : Final) (x : Stand) (b : ℕ) → Stays x (byte_by f x b)
byte_stays awaited x b = awaited_stays x b
byte_stays (given a) x b = only_stays x x refl refl

pub dialogue_stays : (x : Stand) (l : List ℕ) → (arrived_on x l).opened ≡ false → (arrived_on x l).stand.dialogue ≡ x.dialogue
unfolding arrived_on
dialogue_stays x [] q = refl
dialogue_stays x (b ∷ l) q =
    let y = byte_of x b in
    let w = either_parts y.opened (arrived_on y.stand l).opened q in
    dialogue_stays y.stand l w.1 ∙ (byte_stays x.final x b).dialogue w.0

pub reference_stays : (x : Stand) (l : List ℕ) → (arrived_on x l).headed ≡ false → (arrived_on x l).stand.reference ≡ x.reference
unfolding arrived_on
reference_stays x [] q = refl
reference_stays x (b ∷ l) q =
    let y = byte_of x b in
    let w = either_parts y.headed (arrived_on y.stand l).headed q in
    reference_stays y.stand l w.1 ∙ (byte_stays x.final x b).reference w.0

-- some bytes that come to a store: it holds then where the reading stands after them
pub held_on : (b l : List ℕ) → length b ≡ store_size → Fits (held_in b) → held_in (keep (arrived_on (held_in b) l) b) ≡ (arrived_on (held_in b) l).stand
held_on b l size fits =
    held_kept (arrived_on (held_in b) l) b size (fits_on (held_in b) l fits) (dialogue_stays (held_in b) l) (reference_stays (held_in b) l)
