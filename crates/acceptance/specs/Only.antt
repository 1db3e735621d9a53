-- What is accepted is an interchange: the segments read, put together from the last to the first.
-- Assumes nothing.
use Rattle.std.specs.Prelude.{◌≡◌, Bool, true, false, eqb, ltb, drop, Some, Result, Ok, Err}
use Rattle.std.proofs.Math.Path.{refl, ap, subst}
use Rattle.std.proofs.Common.{sym, ◌∙◌, add-one}
use mathlib.Core.List.{List, [], ◌∷◌, ◌++◌}
use Prim.Native.Nat.{ℕ, zero, suc, ◌+◌, ◌≤◌, ◌<◌}
use native.Mathlib.Omega.{arith}
use Rattle.std.proofs.Math.ListN.{length}
use borrow.Author.Tests.{lt-ltb, ltb-true, ltb-false, eqb-false}
use Rattle.laws.specs.Choice.{all, choose, either_parts}
use Rattle.laws.specs.Lists.{drop_past}
use Rattle.answers.specs.Answers.{Answer, done, refused}
use Rattle.answers.specs.Laws.{refused≢done}
use Rattle.syntax.specs.declared.segment.ScanError.{ScanError}
use Rattle.syntax.specs.declared.segment.ScanError.TheVariants.{NotPermitted, Unended, Malformed}
use Rattle.syntax.specs.Segment.{tag_number, body_at, segment_at}
use Rattle.placing.specs.declared.Place.{Place}
use Rattle.messages.specs.declared.MessageType.{MessageType}
use Rattle.placing.specs.Tables.{tables, table_of}
use Rattle.placing.specs.Place.{start_place}
use Rattle.placing.specs.Rule.{step_of}
use Rattle.messages.specs.Tags.{UIH, UIZ}
use Rattle.parts.specs.declared.Part.{Part}
use Rattle.envelope.specs.Envelope.{uih_of, uit_of, uiz_of, heading}
use Rattle.steps.specs.declared.state.Phase.{Phase}
use Rattle.steps.specs.declared.state.Phase.TheVariants.{Opening, Between, Inside, Closed}
use Rattle.steps.specs.declared.state.State.{State}
use Rattle.steps.specs.declared.state.Row.{Row}
use Rattle.steps.specs.Step.{Taken, taken}
use Rattle.steps.specs.State.{opening_state, opened_state, headed_state, onward_state, ended_state, closed_state}
use Rattle.interchange.specs.Reader.{accepted, is_closed, dialogue_of, headed_reference, turn_step, turn_scan, turn_at, after_turn, read_on, wrong_size, reading_of}
use Rattle.acceptance.specs.Interchange.{segments_written, Message, segments_in, Interchange, each_of, names, known, type_in, reference_in, good_contents, is_trailer, is_message, good_closing, IsInterchange}
use Rattle.acceptance.specs.Segments.{Cut, cut_at}
use Rattle.acceptance.specs.Onward.{step_at}
use Rattle.acceptance.specs.Steps.{Opens, opens, Follows, heads, closes, follows, Moves, onward, ends, moves}
use Rattle.acceptance.specs.Within.{Within, from_last, from_front, from_parts}
use Rattle.acceptance.specs.When.{one_more_lem, reference_is, dialogue_is, regroup, from_rules}

-- the reading accepts from a state and an offset on
abbrev Accepts : ℕ → List ℕ → State → ℕ → Type 0
Accepts f s st at = (read_on f s st at).verdict ≡ accepted

-- then a good segment stands there, and the reading accepts after it
module _ (f : ℕ) (s : List ℕ) (st : State) (at : ℕ) where
  pub record Further : Type 0 where
    pub body : List ℕ
    pub next : State
    pub row : Row
    pub cut : Cut s at body
    pub step : step_at s st at body ≡ done (taken next row)
    pub rest : Accepts f s next (at + length body + 1)

  by_step : (y : Answer Taken) → step_at s st at (body_at s at) ≡ y → (e : ℕ) → e ≡ at + length (body_at s at) → Cut s at (body_at s at)
      → (after_turn (read_on f s) (turn_step (e + 1) y)).verdict ≡ accepted → Further
  by_step (done (taken next r)) h e n c q =
      record { body = body_at s at; next = next; row = r; cut = c; step = h; rest = ap (λ (x : ℕ). (read_on f s next (x + 1)).verdict) (sym n) ∙ q }
  by_step (refused refusal) h e n c q = absurd (refused≢done q)

  by_scan : (x : Result ℕ ScanError) → segment_at s at ≡ x → (after_turn (read_on f s) (turn_scan tables s st at x)).verdict ≡ accepted → Further
  by_scan (Ok e) h q = let c = cut_at s at e h in by_step (step_at s st at (body_at s at)) refl e c.0 c.1 q
  by_scan (Err error) h q = absurd (refused≢done q)

  pub further : is_closed st.phase ≡ false → Accepts (suc f) s st at → Further
  unfolding read_on turn_at
  further c q =
      choose (ltb at (length s)) (λ l. by_scan (segment_at s at) refl (rw (l, c) at q))
      (λ l. absurd (refused≢done (rw (l, c) at q)))

  -- after the UIZ nothing stands
  pub nothing : is_closed st.phase ≡ true → Accepts (suc f) s st at → length s ≤ at
  unfolding read_on
  nothing c q =
      choose (ltb at (length s)) (λ l. absurd (refused≢done (rw (l, c) at q)))
      (λ l. ltb-false at (length s) l)

-- what stands from an offset on: between messages, n having come, in a dialogue d
pub record Ending (wish : Bool) (s : List ℕ) (at : ℕ) (d : List ℕ) (n : ℕ) : Type 0 where
  pub messages : List Message
  pub closing : List ℕ
  pub text : drop at s ≡ segments_written (each_of segments_in messages ++ (closing ∷ []))
  pub good : all (is_message wish) messages ≡ true
  pub some : 0 < n + length messages
  pub closes : good_closing closing d (n + length messages) ≡ true

-- in a message of type k after the place p, c of its segments having come; r is its reference
pub record Going (wish : Bool) (s : List ℕ) (at : ℕ) (d : List ℕ) (n : ℕ) (k : MessageType) (p : Place) (c : ℕ) (r : List ℕ) : Type 0 where
  pub within : List (List ℕ)
  pub trailer : List ℕ
  pub held : Within wish k p c r within trailer
  pub then : ℕ
  pub ending : Ending wish s then d (n + 1)
  pub text : drop at s ≡ segments_written (within ++ (trailer ∷ (each_of segments_in ending.messages ++ (ending.closing ∷ []))))

-- a segment and its terminator before the others; a message before the others
text_front : {a b : List ℕ} (g : List ℕ) (gs : List (List ℕ)) → a ≡ g ++ (39 ∷ b) → b ≡ segments_written gs → a ≡ segments_written (g ∷ gs)
unfolding segments_written
text_front g gs e q = e ∙ ap (λ (x : List ℕ). g ++ (39 ∷ x)) q

message_text : {a b : List ℕ} (g : List ℕ) (gs : List (List ℕ)) (t : List ℕ) (ms : List Message) (c : List ℕ) → a ≡ g ++ (39 ∷ b)
    → b ≡ segments_written (gs ++ (t ∷ (each_of segments_in ms ++ (c ∷ []))))
    → a ≡ segments_written (each_of segments_in (record { heading = g; within = gs; trailer = t } ∷ ms) ++ (c ∷ []))
message_text g gs t ms c e q =
    text_front g (gs ++ (t ∷ (each_of segments_in ms ++ (c ∷ [])))) e q
    ∙ ap (λ (x : List (List ℕ)). segments_written (g ∷ x)) (sym (regroup gs t (each_of segments_in ms) (c ∷ [])))

abbrev Stands : Phase → List ℕ → State → ℕ → Type 0
Stands Opening s st at = Unit {0}
Stands Between s st at = Ending st.wish s at (dialogue_of s st) st.messages
Stands Inside s st at = Going st.wish s at (dialogue_of s st) st.messages st.message st.place st.segments (headed_reference s st)
Stands Closed s st at = length s ≤ at

module _ (s : List ℕ) (small : length s ≤ 60000) where
  abbrev Found : ℕ → Type 0
  Found f = (st : State) (at : ℕ) → st.messages ≤ at → st.segments ≤ at → Accepts f s st at → Stands st.phase s st at

  module _ (f : ℕ) (found : Found f) (st : State) (at : ℕ) (a : st.messages ≤ at) (b : st.segments ≤ at) where
    -- the state that the step gives is the one after it
    after : (x : Further f s st at) (next : State) → x.next ≡ next → Accepts f s next (at + length x.body + 1)
    after x next e = subst (λ (y : State). Accepts f s y (at + length x.body + 1)) e x.rest

    -- a UIH before what follows it
    heads_ending : (x : Further f s st at) (k : MessageType) (p : Part) → eqb (tag_number x.body) UIH ≡ true → uih_of x.body ≡ heading k p
        → Going st.wish s (at + length x.body + 1) (dialogue_of s st) st.messages k start_place 1 (headed_reference s (headed_state st at k p)) → Ending st.wish s at (dialogue_of s st) st.messages
    heads_ending x k p t e w =
        let c = x.cut in
        let r = reference_is s st at x.body (drop (at + length x.body + 1) s) k p c.text e in
        let m : Message = record { heading = x.body; within = w.within; trailer = w.trailer } in
        let n : st.messages + length (m ∷ w.ending.messages) ≡ st.messages + 1 + length w.ending.messages = omega arith in
        let i = w.ending.some in
        let good : is_message st.wish m ≡ true =
        from_parts st.wish m
        (record {
          segment = c.segment;
          tag = t;
          named = ap known e;
          rest = subst (λ (y : MessageType). Within st.wish y start_place 1 (reference_in x.body) w.within w.trailer) (sym (ap type_in e))
              (subst (λ (y : List ℕ). Within st.wish k start_place 1 y w.within w.trailer) r w.held);
        }) in
        record {
          messages = m ∷ w.ending.messages;
          closing = w.ending.closing;
          text = message_text x.body w.within w.trailer w.ending.messages w.ending.closing c.text w.text;
          good = rw good w.ending.good;
          some = omega arith;
          closes = ap (good_closing w.ending.closing (dialogue_of s st)) n ∙ w.ending.closes;
        }

    -- the UIZ with nothing after
    closes_ending : (x : Further f s st at) → eqb (tag_number x.body) UIZ ≡ true → ltb 0 st.messages ≡ true → uiz_of x.body (dialogue_of s st) st.messages ≡ true
        → length s ≤ at + length x.body + 1 → Ending st.wish s at (dialogue_of s st) st.messages
    unfolding segments_written
    closes_ending x t z u w =
        let c = x.cut in
        let n : st.messages + 0 ≡ st.messages = omega arith in
        let i = ltb-true 0 st.messages z in
        record {
          messages = [];
          closing = x.body;
          text = text_front x.body [] c.text (drop_past s (at + length x.body + 1) w);
          good = refl;
          some = omega arith;
          closes = rw (c.segment, t) (ap (uiz_of x.body (dialogue_of s st)) n ∙ u);
        }

    found_between : (x : Further f s st at) → Follows s st at x.body x.next x.row → Ending st.wish s at (dialogue_of s st) st.messages
    found_between x (heads k p t e q) =
        heads_ending x k p t e (found (headed_state st at k p) (at + length x.body + 1) (omega arith) (omega arith) (after x (headed_state st at k p) q))
    found_between x (closes t z u q) = closes_ending x t z u (found (closed_state st) (at + length x.body + 1) (omega arith) (omega arith) (after x (closed_state st) q))

    -- a segment of the message before the others
    abbrev GoingAt : ℕ → Place → ℕ → Type 0
    GoingAt then p c = Going st.wish s then (dialogue_of s st) st.messages st.message p c (headed_reference s st)

    onward_going : (x : Further f s st at) (p : Place) → step_of (table_of st.message) st.place (tag_number x.body) ≡ Some p → is_trailer x.body ≡ false
        → good_contents st.wish st.message (x.body, Some p) ≡ true → GoingAt (at + length x.body + 1) p (st.segments + 1) → GoingAt at st.place st.segments
    onward_going x p e t u w =
        record {
          within = x.body ∷ w.within;
          trailer = w.trailer;
          held = from_front st.wish st.message st.place st.segments (headed_reference s st) w.trailer x.body w.within
              (record { segment = x.cut.segment; place = p; fits = e; inner = t; contents = u; rest = w.held });
          then = w.then;
          ending = w.ending;
          text = text_front x.body (w.within ++ (w.trailer ∷ (each_of segments_in w.ending.messages ++ (w.ending.closing ∷ [])))) x.cut.text w.text;
        }

    -- the UIT before what follows the message
    ends_going : (x : Further f s st at) (p : Place) → step_of (table_of st.message) st.place (tag_number x.body) ≡ Some p → is_trailer x.body ≡ true
        → uit_of x.body (headed_reference s st) (st.segments + 1) ≡ true → Ending st.wish s (at + length x.body + 1) (dialogue_of s st) (st.messages + 1) → GoingAt at st.place st.segments
    ends_going x p e t u w =
        record {
          within = [];
          trailer = x.body;
          held = from_last st.wish st.message st.place st.segments (headed_reference s st) x.body
              (record { segment = x.cut.segment; place = p; fits = e; trailer = t; counted = u });
          then = at + length x.body + 1;
          ending = w;
          text = text_front x.body (each_of segments_in w.messages ++ (w.closing ∷ [])) x.cut.text w.text;
        }

    found_inside : (x : Further f s st at) → Moves s st at x.body x.next x.row → GoingAt at st.place st.segments
    found_inside x (onward p e t u q) =
        let i = x.cut.fits in
        let o = one_more_lem st.segments (omega arith) in
        onward_going x p e t u
        (subst (GoingAt (at + length x.body + 1) p) o
        (found (onward_state st p) (at + length x.body + 1) (omega arith) (subst (λ (y : ℕ). y ≤ at + length x.body + 1) (sym o) (omega arith)) (after x (onward_state st p) q)))
    found_inside x (ends p e t u q) =
        let i = x.cut.fits in
        let o = one_more_lem st.segments (omega arith) in
        let m = one_more_lem st.messages (omega arith) in
        ends_going x p e t (ap (uit_of x.body (headed_reference s st)) (sym o) ∙ u)
        (subst (λ (y : ℕ). Ending st.wish s (at + length x.body + 1) (dialogue_of s st) y) m
        (found (ended_state st p) (at + length x.body + 1) (subst (λ (y : ℕ). y ≤ at + length x.body + 1) (sym m) (omega arith)) (subst (λ (y : ℕ). y ≤ at + length x.body + 1) (sym o) (omega arith)) (after x (ended_state st p) q)))

    found_by : (ph : Phase) → st.phase ≡ ph → Accepts (suc f) s st at → Stands ph s st at
    found_by Opening e q = tt
    found_by Between e q = let x = further f s st at (ap is_closed e) q in found_between x (follows s st at x.body x.next x.row e x.step)
    found_by Inside e q = let x = further f s st at (ap is_closed e) q in found_inside x (moves s st at x.body x.next x.row e x.step)
    found_by Closed e q = nothing f s st at (ap is_closed e) q

  find : (f : ℕ) → Found f
  unfolding read_on
  find zero st at a b q = absurd (refused≢done q)
  find (suc f) st at a b q = found_by f (find f) st at a b st.phase refl q

  -- from the first byte on
  found_whole : (wish : Bool) → 1 ≤ length s → (x : Further (length s) s (opening_state wish) 0) → Opens s (opening_state wish) 0 x.body x.next x.row → IsInterchange wish s
  unfolding segments_written
  found_whole wish some x o =
      let c = x.cut in
      let q = subst (λ (y : State). Accepts (length s) s y (0 + length x.body + 1)) o.state x.rest in
      let w : Ending wish s (0 + length x.body + 1) (dialogue_of s (opened_state (opening_state wish) 0 o.dialogue)) 0 =
      find (length s) (opened_state (opening_state wish) 0 o.dialogue) (0 + length x.body + 1) (omega arith) (omega arith) q in
      let d = dialogue_is s (opening_state wish) 0 x.body (drop (0 + length x.body + 1) s) o.dialogue c.text o.named in
      let n : length w.messages ≡ 0 + length w.messages = omega arith in
      let i = w.some in
      let z : Interchange = record { opening = x.body; messages = w.messages; closing = w.closing } in
      record {
        parts = z;
        text = c.text ∙ ap (λ (y : List ℕ). x.body ++ (39 ∷ y)) w.text;
        rules = from_rules wish z
            (record {
              segment = c.segment;
              tag = o.tag;
              named = ap names o.named;
              some = lt-ltb 0 (length w.messages) (omega arith);
              messages = w.good;
              closing = ap (good_closing w.closing (reference_in x.body)) n ∙ ap (λ (y : List ℕ). good_closing w.closing y (0 + length w.messages)) (sym d) ∙ w.closes;
            });
        some = some;
        fits = small;
      }

  found_all : (wish : Bool) → 1 ≤ length s → Accepts (length s + 1) s (opening_state wish) 0 → IsInterchange wish s
  found_all wish some q =
      let x = further (length s) s (opening_state wish) 0 refl (rw add-one at q) in
      found_whole wish some x (opens s (opening_state wish) 0 x.body x.next x.row refl x.step)

pub accepted_is : (wish : Bool) (s : List ℕ) → (reading_of wish s).verdict ≡ accepted → IsInterchange wish s
unfolding reading_of
accepted_is wish s q =
    choose (wrong_size s) (λ z. absurd (refused≢done (rw z at q)))
    (λ z.
    let u = either_parts (eqb (length s) 0) (ltb 60000 (length s)) z in
    let a = eqb-false (length s) 0 u.0 in
    let b = ltb-false 60000 (length s) u.1 in
    found_all s b wish (omega arith) (rw z at q))
