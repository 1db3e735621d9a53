-- An interchange is read to its end, and its rows are those of its segments.
-- Assumes nothing.
use Rattle.std.specs.Prelude.{◌≡◌, Bool, true, ℕ, ◌+◌, ◌-◌, ◌≤◌, ◌<◌, ltb, drop, Some, Option, None, Result, Ok, Err}
use Rattle.std.proofs.Math.Path.{refl, ap}
use Rattle.std.proofs.Common.{sym, subst, ◌∙◌}
use mathlib.Core.List.{List, [], ◌∷◌, ◌++◌, map, append_assoc}
use native.Mathlib.Omega.{arith}
use Rattle.std.proofs.Math.Dec.{eqb}
use Rattle.std.proofs.Math.ListN.{length}
use borrow.Author.Tests.{lt-ltb, ltb-true, eqb-true}
use Rattle.laws.specs.Choice.{both, all, both_parts, false≢true}
use Rattle.syntax.specs.Segment.{tag_number}
use Rattle.parts.specs.declared.Part.{Part}
use Rattle.parts.specs.Places.{bytes_of}
use Rattle.placing.specs.Place.{start_place}
use Rattle.placing.specs.Rule.{group_of}
use Rattle.messages.specs.declared.MessageType.{MessageType}
use Rattle.placing.specs.Tables.{table_of}
use Rattle.messages.specs.Tags.{UIB, UIH, UIZ}
use Rattle.envelope.specs.Envelope.{uib_of, uih_of, uit_of, uiz_of, heading}
use Rattle.steps.specs.declared.state.Phase.TheVariants.{Between, Inside}
use Rattle.steps.specs.declared.state.State.{State}
use Rattle.answers.specs.Answers.{done}
use Rattle.steps.specs.State.{one_more, opening_state, opened_state, headed_state, onward_state, ended_state, closed_state}
use Rattle.steps.specs.Step.{taken, row_of}
use Rattle.interchange.specs.Reader.{Outcome, accepted, before, dialogue_of, headed_reference, read_on, reading_of}
use Rattle.interchange.specs.Laws.{read_accepted}
use Rattle.interchange.specs.Answers.{sized_read}
use Rattle.acceptance.specs.Interchange.{segments_written, is_segment, Message, segments_in, Interchange, each_of, segments_of, names, known, type_in, message_type_of, reference_in, places_from, is_message, good_opening, good_closing, rules_hold, with_group, groups_in, rows_from, rows_of}
use Rattle.acceptance.specs.Segments.{segment_fits, after_segment}
use Rattle.envelope.specs.Laws.{uih_place}
use Rattle.acceptance.specs.References.{reference_read, dialogue_place_lem}
use Rattle.acceptance.specs.Onward.{step_at, read_one}
use Rattle.acceptance.specs.Steps.{opening_goes, heading_goes, closing_goes, within_goes, trailer_goes}
use Rattle.acceptance.specs.Within.{Within, to_last, to_front, Parts, to_parts}
use Rattle.envelope.specs.declared.Head.{Head}
use Rattle.envelope.specs.declared.HeadError.{HeadError}
use Rattle.envelope.specs.declared.HeadError.TheVariants.{Missing, Unknown}

-- read to the end with a row for each of some segments with their groups
abbrev pub told : ℕ → List (List ℕ × ℕ) → Outcome
told at l = record { rows = rows_from at l; verdict = accepted }

abbrev pub Reads : List ℕ → State → ℕ → List (List ℕ × ℕ) → Type 0
Reads s st at l = (f : ℕ) → length s < at + f → read_on f s st at ≡ told at l

reads_one : (s : List ℕ) (st : State) (at : ℕ) (g rest : List ℕ) → drop at s ≡ g ++ (39 ∷ rest) → is_segment g ≡ true → (next : State) (group : ℕ)
    → step_at s st at g ≡ done (taken next (row_of at g group)) → (l : List (List ℕ × ℕ)) → Reads s next (at + length g + 1) l → Reads s st at ((g, group) ∷ l)
unfolding rows_from
reads_one s st at g rest e ok next group q l reads f h =
    let n = segment_fits s at g rest e in
    read_one s st at g rest e ok next (row_of at g group) q f h ∙ ap (before (row_of at g group)) (reads (f - 1) (omega arith))

-- no count stops
pub one_more_lem : (n : ℕ) → n < 65535 → one_more n ≡ n + 1
one_more_lem n h = rw (lt-ltb n 65535 h)

-- the references that are remembered
pub reference_is : (s : List ℕ) (st : State) (at : ℕ) (g rest : List ℕ) (k : MessageType) (p : Part) → drop at s ≡ g ++ (39 ∷ rest) → uih_of g ≡ heading k p
    → headed_reference s (headed_state st at k p) ≡ reference_in g
reference_is s st at g rest k p e q =
    ap (λ (x : List ℕ). bytes_of x p) e ∙ ap (bytes_of (g ++ (39 ∷ rest))) (uih_place g k p q) ∙ reference_read g (39 ∷ rest)

pub dialogue_is : (s : List ℕ) (st : State) (at : ℕ) (g rest : List ℕ) (p : Part) → drop at s ≡ g ++ (39 ∷ rest) → uib_of g ≡ Some p
    → dialogue_of s (opened_state st at p) ≡ reference_in g
dialogue_is s st at g rest p e q =
    ap (λ (x : List ℕ). bytes_of x p) e ∙ ap (bytes_of (g ++ (39 ∷ rest))) (dialogue_place_lem g p q) ∙ reference_read g (39 ∷ rest)

-- a message's segments before what follows it
pub regroup : {A : Type 0} (a : List A) (b : A) (c d : List A) → a ++ (b ∷ []) ++ c ++ d ≡ a ++ (b ∷ (c ++ d))
regroup a b c d = append_assoc (a ++ (b ∷ [])) c d ∙ append_assoc a (b ∷ []) (c ++ d)

-- between messages, n having come, in a dialogue d, for a caller with a wish
pub record After (wish : Bool) (s : List ℕ) (st : State) (at : ℕ) (d : List ℕ) (n : ℕ) : Type 0 where
  pub wished : st.wish ≡ wish
  pub phase_is : st.phase ≡ Between
  pub dialogue : dialogue_of s st ≡ d
  pub count : st.messages ≡ n
  pub few : n ≤ at

named_is : (x : Option Part) → names x ≡ true → (p : Part) × (x ≡ Some p)
named_is (Some p) e = (p, refl)
named_is None e = absurd (false≢true e)

known_is : (x : Result Head HeadError) → known x ≡ true → (k : MessageType) × (p : Part) × (x ≡ heading k p)
known_is (Ok h) e = (h.message, h.reference, refl)
known_is (Err Missing) e = absurd (false≢true e)
known_is (Err Unknown) e = absurd (false≢true e)

module _ (s : List ℕ) (small : length s ≤ 60000) where
  -- what follows a message is read from wherever the message ends
  abbrev Follows : Bool → List ℕ → ℕ → List (List ℕ) → List (List ℕ × ℕ) → Type 0
  Follows wish d n rest l = (st : State) (at : ℕ) → After wish s st at d n → drop at s ≡ segments_written rest → Reads s st at l

  module _ (rest : List (List ℕ)) (l : List (List ℕ × ℕ)) (last : List ℕ) where
    within_reads : (gs : List (List ℕ)) (st : State) (at : ℕ) → st.phase ≡ Inside → Within st.wish st.message st.place st.segments (headed_reference s st) gs last
        → st.messages ≤ at → st.segments ≤ at → drop at s ≡ segments_written (gs ++ (last ∷ rest)) → Follows st.wish (dialogue_of s st) (st.messages + 1) rest l
        → Reads s st at (map (with_group (table_of st.message)) (places_from (table_of st.message) (Some st.place) (gs ++ (last ∷ []))) ++ l)
    unfolding segments_written places_from
    within_reads [] st at f w a b e follows =
        let x = to_last st.wish st.message st.place st.segments (headed_reference s st) last w in
        let n = segment_fits s at last (segments_written rest) e in
        let o = one_more_lem st.segments (omega arith) in
        let q = trailer_goes s st at last f x.place x.fits x.trailer (ap (uit_of last (headed_reference s st)) o ∙ x.counted) in
        rw x.fits
        (reads_one s st at last (segments_written rest) e x.segment (ended_state st x.place) (group_of (table_of st.message) x.place) q l
        (follows (ended_state st x.place) (at + length last + 1)
        (record { wished = refl; phase_is = refl; dialogue = refl; count = one_more_lem st.messages (omega arith); few = omega arith })
        (after_segment s at last (segments_written rest) e)))
    within_reads (g ∷ gs) st at f w a b e follows =
        let x = to_front st.wish st.message st.place st.segments (headed_reference s st) last g gs w in
        let n = segment_fits s at g (segments_written (gs ++ (last ∷ rest))) e in
        let o = one_more_lem st.segments (omega arith) in
        let q = within_goes s st at g f x.place x.fits x.inner x.contents in
        rw x.fits
        (reads_one s st at g (segments_written (gs ++ (last ∷ rest))) e x.segment (onward_state st x.place) (group_of (table_of st.message) x.place) q
        (map (with_group (table_of st.message)) (places_from (table_of st.message) (Some x.place) (gs ++ (last ∷ []))) ++ l)
        (within_reads gs (onward_state st x.place) (at + length g + 1) refl
        (subst (λ (c : ℕ). Within st.wish st.message x.place c (headed_reference s st) gs last) (sym o) x.rest)
        (omega arith) (subst (λ (c : ℕ). c ≤ at + length g + 1) (sym o) (omega arith))
        (after_segment s at g (segments_written (gs ++ (last ∷ rest))) e) follows))

  -- one message before what follows it
  module _ (wish : Bool) (d : List ℕ) (rest : List (List ℕ)) (l : List (List ℕ × ℕ)) (m : Message) (n : ℕ) (st : State) (at : ℕ) (a : After wish s st at d n) where
    abbrev after : List ℕ
    after = segments_written (m.within ++ (m.trailer ∷ rest))

    abbrev groups_by : MessageType → List (List ℕ × ℕ)
    groups_by message = map (with_group (table_of message)) (places_from (table_of message) (Some start_place) (m.within ++ (m.trailer ∷ [])))

    heading_reads : (k : MessageType) (p : Part) → uih_of m.heading ≡ heading k p → Parts wish m → drop at s ≡ m.heading ++ (39 ∷ after) → Follows wish d (n + 1) rest l
        → Reads s (headed_state st at k p) (at + length m.heading + 1) (groups_by k ++ l)
    heading_reads k p q w e follows =
        let i = segment_fits s at m.heading after e in
        let j = a.few in
        let o = a.count in
        let r = sym (reference_is s st at m.heading after k p e q) in
        within_reads rest l m.trailer m.within (headed_state st at k p) (at + length m.heading + 1) refl
        (subst (λ (y : Bool). Within y k start_place 1 (headed_reference s (headed_state st at k p)) m.within m.trailer) (sym a.wished)
        (subst (λ (y : List ℕ). Within wish k start_place 1 y m.within m.trailer) r
        (subst (λ (y : MessageType). Within wish y start_place 1 (reference_in m.heading) m.within m.trailer) (ap type_in q) w.rest)))
        (omega arith) (omega arith) (after_segment s at m.heading after e)
        (λ st₁ at₁ t y.
        follows st₁ at₁
        (record { wished = t.wished ∙ a.wished; phase_is = t.phase_is; dialogue = t.dialogue ∙ a.dialogue; count = t.count ∙ ap (λ (x : ℕ). x + 1) o; few = subst (λ (x : ℕ). x + 1 ≤ at₁) o t.few })
        y)

    message_reads : is_message wish m ≡ true → drop at s ≡ m.heading ++ (39 ∷ after) → Follows wish d (n + 1) rest l → Reads s st at ((m.heading, 0) ∷ (groups_by (message_type_of m) ++ l))
    message_reads h e follows =
        let w = to_parts wish m h in
        let x = known_is (uih_of m.heading) w.named in
        reads_one s st at m.heading after e w.segment (headed_state st at x.0 x.1) 0
        (heading_goes s st at m.heading a.phase_is w.tag x.0 x.1 x.2)
        (groups_by (message_type_of m) ++ l)
        (subst (λ (y : MessageType). Reads s (headed_state st at x.0 x.1) (at + length m.heading + 1) (groups_by y ++ l)) (sym (ap type_in x.2))
        (heading_reads x.0 x.1 x.2 w e follows))

  module _ (wish : Bool) (d closing : List ℕ) where
    closing_reads : (n : ℕ) (st : State) (at : ℕ) → After wish s st at d n → 0 < n → good_closing closing d n ≡ true → drop at s ≡ closing ++ (39 ∷ [])
        → Reads s st at ((closing, 0) ∷ [])
    unfolding rows_from
    closing_reads n st at a z c e =
        let u = both_parts (is_segment closing) (both (eqb (tag_number closing) UIZ) (uiz_of closing d n)) c in
        let v = both_parts (eqb (tag_number closing) UIZ) (uiz_of closing d n) u.1 in
        let t = eqb-true (tag_number closing) UIZ v.0 in
        let m = a.count in
        let y = ap (uiz_of closing (dialogue_of s st)) m ∙ ap (λ (x : List ℕ). uiz_of closing x n) a.dialogue ∙ v.1 in
        let i = segment_fits s at closing [] e in
        reads_one s st at closing [] e u.0 (closed_state st) 0
        (closing_goes s st at closing a.phase_is (ap (λ (x : ℕ). eqb x UIH) t) v.0 (lt-ltb 0 st.messages (omega arith)) y) []
        (λ f l. read_accepted f s (closed_state st) (at + length closing + 1) (omega arith) (omega arith) l refl)

    messages_read : (ms : List Message) (n : ℕ) (st : State) (at : ℕ) → After wish s st at d n → all (is_message wish) ms ≡ true → 0 < n + length ms
        → good_closing closing d (n + length ms) ≡ true → drop at s ≡ segments_written (each_of segments_in ms ++ (closing ∷ []))
        → Reads s st at (each_of groups_in ms ++ ((closing, 0) ∷ []))
    unfolding segments_written
    messages_read [] n st at a h z c e =
        let k : n + 0 ≡ n = omega arith in
        closing_reads n st at a (omega arith) (ap (good_closing closing d) (sym k) ∙ c) e
    messages_read (m ∷ ms) n st at a h z c e =
        let u = both_parts (is_message wish m) (all (is_message wish) ms) h in
        let rest = each_of segments_in ms ++ (closing ∷ []) in
        let l = each_of groups_in ms ++ ((closing, 0) ∷ []) in
        let b : n + 1 + length ms ≡ n + length (m ∷ ms) = omega arith in
        rw (append_assoc (groups_in m) (each_of groups_in ms) ((closing, 0) ∷ []))
        (message_reads wish d rest l m n st at a u.0
        (e ∙ ap (λ (y : List (List ℕ)). m.heading ++ (39 ∷ segments_written y)) (regroup m.within m.trailer (each_of segments_in ms) (closing ∷ [])))
        (λ st₁ at₁ t q. messages_read ms (n + 1) st₁ at₁ t u.1 (omega arith) (ap (good_closing closing d) b ∙ c) q))

-- the rules one by one
pub record Rules (wish : Bool) (x : Interchange) : Type 0 where
  pub segment : is_segment x.opening ≡ true
  pub tag : eqb (tag_number x.opening) UIB ≡ true
  pub named : names (uib_of x.opening) ≡ true
  pub some : ltb 0 (length x.messages) ≡ true
  pub messages : all (is_message wish) x.messages ≡ true
  pub closing : good_closing x.closing (reference_in x.opening) (length x.messages) ≡ true

pub to_rules : (wish : Bool) (x : Interchange) → rules_hold wish x ≡ true → Rules wish x
unfolding rules_hold
to_rules wish x h =
    let g = x.opening in
    let n = length x.messages in
    let d = reference_in x.opening in
    let a = both_parts (good_opening g) (both (ltb 0 n) (both (all (is_message wish) x.messages) (good_closing x.closing d n))) h in
    let b = both_parts (ltb 0 n) (both (all (is_message wish) x.messages) (good_closing x.closing d n)) a.1 in
    let c = both_parts (all (is_message wish) x.messages) (good_closing x.closing d n) b.1 in
    let o = both_parts (is_segment g) (both (eqb (tag_number g) UIB) (names (uib_of g))) a.0 in
    let t = both_parts (eqb (tag_number g) UIB) (names (uib_of g)) o.1 in
    record { segment = o.0; tag = t.0; named = t.1; some = b.0; messages = c.0; closing = c.1 }

pub from_rules : (wish : Bool) (x : Interchange) → Rules wish x → rules_hold wish x ≡ true
unfolding rules_hold
from_rules wish x r = rw (r.segment, r.tag, r.named, r.some, r.messages) r.closing

-- the whole
module _ (wish : Bool) (s : List ℕ) (x : Interchange) (e : s ≡ segments_written (segments_of x)) where
  opening_reads : length s ≤ 60000 → Rules wish x → Reads s (opening_state wish) 0 ((x.opening, 0) ∷ (each_of groups_in x.messages ++ ((x.closing, 0) ∷ [])))
  unfolding segments_written
  opening_reads small r =
      let rest = segments_written (each_of segments_in x.messages ++ (x.closing ∷ [])) in
      let p = named_is (uib_of x.opening) r.named in
      let n : 0 + length x.messages ≡ length x.messages = omega arith in
      let z = ltb-true 0 (length x.messages) r.some in
      reads_one s (opening_state wish) 0 x.opening rest e r.segment (opened_state (opening_state wish) 0 p.0) 0
      (opening_goes s (opening_state wish) 0 x.opening refl r.tag p.0 p.1)
      (each_of groups_in x.messages ++ ((x.closing, 0) ∷ []))
      (messages_read s small wish (reference_in x.opening) x.closing x.messages 0 (opened_state (opening_state wish) 0 p.0) (0 + length x.opening + 1)
      (record { wished = refl; phase_is = refl; dialogue = dialogue_is s (opening_state wish) 0 x.opening rest p.0 e p.1; count = refl; few = omega arith })
      r.messages (omega arith) (ap (good_closing x.closing (reference_in x.opening)) n ∙ r.closing)
      (after_segment s 0 x.opening rest e))

  pub some_bytes : 1 ≤ length s
  unfolding segments_written
  some_bytes =
      let n = segment_fits s 0 x.opening (segments_written (each_of segments_in x.messages ++ (x.closing ∷ []))) e in
      omega arith

  pub reads_all : rules_hold wish x ≡ true → length s ≤ 60000 → reading_of wish s ≡ record { rows = rows_of x; verdict = accepted }
  reads_all h small =
      let b = some_bytes in
      sym (sized_read wish s (λ z. omega arith) small) ∙ opening_reads small (to_rules wish x h) (length s + 1) (omega arith)
