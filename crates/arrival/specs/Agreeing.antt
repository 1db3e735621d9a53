-- Segment by segment the bytes bring what the whole reader reads.
-- Assumes nothing.
use Rattle.std.specs.Prelude.{◌≡◌, Bool, true, List, [], ◌∷◌, ◌++◌, ℕ, zero, suc, ◌+◌, ◌-◌, ◌≤◌, ◌<◌, take, get_or, Result, Ok, Err}
use Rattle.std.proofs.Math.Path.{refl, sym, ap}
use Rattle.std.proofs.Common.{subst, ◌∙◌, length-append, drop-drop}
use Rattle.std.proofs.Math.Bool.{false}
use native.Mathlib.Omega.{arith}
use Rattle.std.proofs.Math.Decide.{dec_lt}
use Rattle.std.proofs.Math.ListN.{length, drop, length-drop}
use Rattle.std.proofs.lemmas.List.{take-append-le, drop-append-le}
use Rattle.std.proofs.Math.Seq.{drop-append-add}
use borrow.Author.Tests.{lt-ltb, ne_eqb, lt-leb}
use Rattle.laws.specs.Choice.{pick, choose}
use Rattle.laws.specs.Lists.{drop_here, drop_past}
use Rattle.answers.specs.declared.Refusal.{Refusal}
use Rattle.answers.specs.Answers.{Answer, done, refused, wrong_envelope, naming, moved_to}
use Rattle.syntax.specs.declared.segment.ScanError.{ScanError}
use Rattle.syntax.specs.declared.segment.ScanError.TheVariants.{NotPermitted, Unended, Malformed}
use Rattle.syntax.specs.Bytes.{terminator}
use Rattle.syntax.specs.Pieces.{first_piece}
use Rattle.syntax.specs.Segment.{body_at, segment_at, scanned_answer, body_answer}
use Rattle.syntax.specs.Ends.{ended}
use Rattle.syntax.specs.Said.{scan_said}
use Rattle.parts.specs.declared.Part.{Part}
use Rattle.parts.specs.Places.{bytes_of}
use Rattle.placing.specs.Tables.{tables}
use Rattle.envelope.specs.Laws.{Reference, uib_reference, uih_reference}
use Rattle.steps.specs.declared.state.State.{State}
use Rattle.steps.specs.declared.state.Row.{Row}
use Rattle.steps.specs.State.{one_more}
use Rattle.steps.specs.Step.{Taken, taken, segment_step}
use Rattle.interchange.specs.Reader.{Outcome, fault, is_closed, dialogue_of, headed_reference, turn_step, turn_scan, turn_at, after_turn, read_on}
use Rattle.interchange.specs.Laws.{read_past, read_accepted, read_stops}
use Rattle.arrival.specs.Arrived.{awaited, Stand, Brought, only, answered, bare, opens, heads, passed, arrived_step, arrived_scan, arrived_segment, ending, awaited_byte, byte_of, followed, arrived_on, awaited_end, end_of}
use Rattle.arrival.specs.Alike.{Also, alike_done, alike_refused, Kept, step_keeps}
use Rattle.arrival.specs.Folded.{arrived_stays, lengthened, arrived_plain, arrived_ended}
use Rattle.arrival.specs.Fits.{fits_on, verdict_of}
use Rattle.cuts.specs.Laws.{first_unreleased}
use Rattle.arrival.specs.Fitting.{first_first, first_all, first_cut, first_again, fits_within, fits_ended, answer_ended}

-- before a segment's first byte
abbrev pub before_segment : State → ℕ → List ℕ → List ℕ → ℕ → Stand
before_segment st at dialogue reference n =
    record {
      state = st;
      offset = at;
      body = [];
      released = false;
      dialogue = dialogue;
      reference = reference;
      count = n;
      final = awaited;
    }

-- where the reading stands before the segment at an offset of the text s, as the whole reader's state says, after n rows
abbrev pub standing : List ℕ → State → ℕ → ℕ → Stand
standing s st at n = before_segment (bare st) at (dialogue_of s st) (headed_reference s st) n

-- some bytes brought what a reading comes to, after n rows
pub record Agreed (n : ℕ) (o : Outcome) (b : Brought) : Type 0 where
  pub rows : b.rows ≡ o.rows
  pub end : end_of b.stand ≡ verdict_of (n + length o.rows) o.verdict

agreed_by : (n : ℕ) {o p : Outcome} {b c : Brought} → p ≡ o → c ≡ b → Agreed n o b → Agreed n p c
agreed_by n {o} {p} {b} {c} e f w = subst (λ (x : Outcome). Agreed n x c) (sym e) (subst (Agreed n o) (sym f) w)

-- a fault is final
fault_agreed : (n : ℕ) (z : Refusal) (x : Stand) (rest : List ℕ)
    → Agreed n (fault (refused z)) (followed (only (answered x (refused z))) (arrived_on (answered x (refused z)) rest))
fault_agreed n z x rest = agreed_by n refl (arrived_stays (answered x (refused z)) (refused z) refl rest) (record { rows = refl; end = refl })

-- the references: a part that lies in a segment is the same part of the text from there on
part_same : (g t : List ℕ) (p : Part) → Reference g p → bytes_of (g ++ t) p ≡ bytes_of g p
part_same g t p r =
    let a = r.some in
    let b = r.inside in
    let d = length-drop p.from g in
    ap (take (p.to - p.from)) (drop-append-le p.from g t (omega arith)) ∙ take-append-le (p.to - p.from) (drop p.from g) t (omega arith)

picked : {A : Type 0} (b : Bool) (x y z : A) → (b ≡ true → x ≡ z) → (b ≡ false → y ≡ z) → pick b x y ≡ z
picked true x y z f g = f refl
picked false x y z f g = g refl

stand_same : {a b : State} {d e r q : List ℕ} {n m : ℕ} (at : ℕ) → a ≡ b → d ≡ e → r ≡ q → n ≡ m → before_segment a at d r n ≡ before_segment b at e q m
stand_same at e f g h = cc

module _ (s : List ℕ) (st : State) (at : ℕ) (g rest : List ℕ) (e : drop at s ≡ g ++ (terminator ∷ rest)) (next : State) (row : Row)
    (q : segment_step tables st at g (dialogue_of s st) (headed_reference s st) ≡ done (taken next row)) (y : Answer Taken) (a : Also st.phase at at next row y) where
  kept : Kept st.phase st at g next
  kept = step_keeps tables st at g (dialogue_of s st) (headed_reference s st) next row q

  from_here : (p : Part) → Reference g p → bytes_of g p ≡ bytes_of (drop at s) p
  from_here p r = sym (ap (λ (x : List ℕ). bytes_of x p) e ∙ part_same g (terminator ∷ rest) p r)

  dialogue_kept : pick (opens st.phase) (bytes_of g a.state.dialogue) (dialogue_of s st) ≡ dialogue_of s next
  dialogue_kept =
      picked (opens st.phase) (bytes_of g a.state.dialogue) (dialogue_of s st) (dialogue_of s next)
      (λ o.
      let k = kept.opened o in
      ap (bytes_of g) (sym (a.dialogues o))
      ∙ from_here next.dialogue (uib_reference g next.dialogue k.1)
      ∙ ap (λ (x : ℕ). bytes_of (drop x s) next.dialogue) (sym k.0))
      (λ o.
      let k = kept.unopened o in
      ap (λ (x : ℕ). bytes_of (drop x s) st.dialogue) (sym k.0) ∙ ap (bytes_of (drop next.opened_at s)) (sym k.1))

  phases : heads st.phase next.phase ≡ heads st.phase a.state.phase
  phases = ap (λ (x : State). heads st.phase x.phase) a.states

  reference_kept : pick (heads st.phase a.state.phase) (bytes_of g a.state.reference) (headed_reference s st) ≡ headed_reference s next
  reference_kept =
      picked (heads st.phase a.state.phase) (bytes_of g a.state.reference) (headed_reference s st) (headed_reference s next)
      (λ o.
      let k = kept.headed (phases ∙ o) in
      ap (bytes_of g) (sym (a.references (phases ∙ o)))
      ∙ from_here next.reference (uih_reference g next.message next.reference k.1)
      ∙ ap (λ (x : ℕ). bytes_of (drop x s) next.reference) (sym k.0))
      (λ o.
      let k = kept.unheaded (phases ∙ o) in
      ap (λ (x : ℕ). bytes_of (drop x s) st.reference) (sym k.0) ∙ ap (bytes_of (drop next.headed_at s)) (sym k.1))

  -- a good segment leads from one such stand to the next
  passed_on : (n : ℕ) → n < 65535 → passed (lengthened (standing s st at n) g) g a.state ≡ standing s next (at + length g + 1) (n + 1)
  passed_on n h =
      let m : one_more n ≡ n + 1 = rw (lt-ltb n 65535 h) in
      stand_same (at + length g + 1) (sym a.states) dialogue_kept reference_kept m

-- A segment's step, and what follows it. `more` says that what follows agrees, of at most f segments.
module _ (s : List ℕ) (f : ℕ)
    (more : (st : State) (at n : ℕ) → at ≤ length s → length s < at + f → n ≤ at → fits_on 0 false (drop at s) ≡ true
    → Agreed n (read_on f s st at) (arrived_on (standing s st at n) (drop at s)))
    (small : length s ≤ 60000) (st : State) (at n : ℕ) (enough : length s < at + suc f) (few : n ≤ at) where
  module _ (g rest : List ℕ) (e : drop at s ≡ g ++ (terminator ∷ rest)) (fits : fits_on 0 false rest ≡ true) where
    behind : (at + length g + 1 ≤ length s) × (drop (at + length g + 1) s ≡ rest)
    behind =
        let d = length-drop at s in
        let l = ap length e in
        let k = length-append g (terminator ∷ rest) in
        let m : at + length g + 1 ≡ at + (length g + 1) = omega arith in
        (omega arith, ap (λ (x : ℕ). drop x s) m ∙ sym (drop-drop (length g + 1) at s) ∙ ap (drop (length g + 1)) e ∙ drop-append-add g (terminator ∷ rest) 1)

    step_agreed : (y z : Answer Taken) → segment_step tables st at g (dialogue_of s st) (headed_reference s st) ≡ y
        → segment_step tables (bare st) at g (dialogue_of s st) (headed_reference s st) ≡ z
        → Agreed n (after_turn (read_on f s) (turn_step (at + length g + 1) y))
        (followed (arrived_step (lengthened (standing s st at n) g) g z) (arrived_on (arrived_step (lengthened (standing s st at n) g) g z).stand rest))
    step_agreed (done (taken next row)) z q p =
        let b = behind in
        let x = lengthened (standing s st at n) g in
        let a = alike_done tables st (bare st) refl at at g (dialogue_of s st) (headed_reference s st) next row q in
        let t : z ≡ done (taken a.state row) =
        sym p ∙ a.told ∙ ap (λ (k : ℕ). done (taken a.state (record { offset = k; group = row.group; tag = row.tag }))) (sym a.offset) in
        let i = more next (at + length g + 1) (n + 1) b.0 (omega arith) (omega arith) (ap (fits_on 0 false) b.1 ∙ fits) in
        let j = agreed_by (n + 1) refl
        (ap (λ (k : Stand). arrived_on k rest) (passed_on s st at g rest e next row q (segment_step tables (bare st) at g (dialogue_of s st) (headed_reference s st)) a n (omega arith)) ∙ ap (arrived_on (standing s next (at + length g + 1) (n + 1))) (sym b.1))
        i in
        let m : n + 1 + length (read_on f s next (at + length g + 1)).rows ≡ n + suc (length (read_on f s next (at + length g + 1)).rows) = omega arith in
        agreed_by n refl (ap (λ (k : Answer Taken). followed (arrived_step x g k) (arrived_on (arrived_step x g k).stand rest)) t)
        (record {
          rows = ap (λ (l : List Row). row ∷ l) j.rows;
          end = j.end ∙ ap (λ (k : ℕ). verdict_of k (read_on f s next (at + length g + 1)).verdict) m;
        })
    step_agreed (refused refusal) z q r =
        let x = lengthened (standing s st at n) g in
        let a = alike_refused tables st (bare st) refl at at g (dialogue_of s st) (headed_reference s st) refusal q in
        agreed_by n (ap (λ (v : ℕ). fault (refused (moved_to v refusal))) a.0) (ap (λ (v : Answer Taken). followed (arrived_step x g v) (arrived_on (arrived_step x g v).stand rest)) (sym r ∙ a.1))
        (fault_agreed n (moved_to at refusal) x rest)

  -- by what the scan found
  scan_agreed : (rest : List ℕ) → drop at s ≡ body_at s at ++ (terminator ∷ rest) → fits_on 0 false rest ≡ true → (x : Result ℕ ScanError) → segment_at s at ≡ x
      → Agreed n (after_turn (read_on f s) (turn_scan tables s st at x))
      (followed (arrived_scan (lengthened (standing s st at n) (body_at s at)) (body_at s at) (scanned_answer at x)) (arrived_on (arrived_scan (lengthened (standing s st at n) (body_at s at)) (body_at s at) (scanned_answer at x)).stand rest))
  scan_agreed rest e fits (Ok k) q =
      agreed_by n
      (ap (λ (i : ℕ). after_turn (read_on f s) (turn_step (i + 1) (segment_step tables st at (body_at s at) (dialogue_of s st) (headed_reference s st)))) (ended s at k q).place)
      refl
      (step_agreed (body_at s at) rest e fits (segment_step tables st at (body_at s at) (dialogue_of s st) (headed_reference s st)) (segment_step tables (bare st) at (body_at s at) (dialogue_of s st) (headed_reference s st)) refl refl)
  scan_agreed rest e fits (Err (NotPermitted i)) q = fault_agreed n (naming 4 i) (lengthened (standing s st at n) (body_at s at)) rest
  scan_agreed rest e fits (Err Unended) q = fault_agreed n (naming 5 at) (lengthened (standing s st at n) (body_at s at)) rest
  scan_agreed rest e fits (Err Malformed) q = fault_agreed n (naming 6 at) (lengthened (standing s st at n) (body_at s at)) rest

  module _ (unclosed : is_closed st.phase ≡ false) (here : at < length s) (fits : fits_on 0 false (drop at s) ≡ true) where
    turn_taken : read_on (suc f) s st at ≡ after_turn (read_on f s) (turn_scan tables s st at (segment_at s at))
    unfolding read_on turn_at
    turn_taken = rw (lt-ltb at (length s) here, unclosed)

    -- its terminator is there
    ended_agreed : at + length (body_at s at) < length s → Agreed n (read_on (suc f) s st at) (arrived_on (standing s st at n) (drop at s))
    ended_agreed h =
        let g = body_at s at in
        let x = standing s st at n in
        let d = length-drop at s in
        let l : length (first_piece terminator false (drop at s)) < length (drop at s) = omega arith in
        let rest = drop (suc (length (body_at s at))) (drop at s) in
        let e = first_cut false (drop at s) l in
        let w = fits_ended 0 false (drop at s) fits l in
        let i : ending (lengthened x g) ≡ g = first_again false (drop at s) [] l in
        let a : body_answer (at + length g + 1) at g ≡ scanned_answer at (segment_at s at) =
        answer_ended (at + length g + 1) (length s) at g (omega arith) h ∙ sym (scan_said s at refl).1 in
        agreed_by n
        turn_taken
        (ap (arrived_on x) e
        ∙ arrived_ended x g rest refl unclosed (first_first false (drop at s)) (first_unreleased false (drop at s) l) (omega arith) (omega arith)
        ∙ ap (λ (y : List ℕ). followed (arrived_segment (lengthened x g) y) (arrived_on (arrived_segment (lengthened x g) y).stand rest)) i
        ∙ ap (λ (y : Answer ℕ). followed (arrived_scan (lengthened x g) g y) (arrived_on (arrived_scan (lengthened x g) g y).stand rest)) a)
        (scan_agreed rest e w.1 (segment_at s at) refl)

    -- the text ends before it
    cut_scan : (y : Brought) (x : Result ℕ ScanError) → segment_at s at ≡ x → length s ≤ at + length (body_at s at) → y.rows ≡ [] → end_of y.stand ≡ scanned_answer at x
        → Agreed n (after_turn (read_on f s) (turn_scan tables s st at x)) y
    cut_scan y (Ok e) q h p r =
        let w = ended s at e q in
        let k = w.place in
        let i = w.inside in
        absurd (omega arith)
    cut_scan y (Err (NotPermitted i)) q h p r = record { rows = p; end = r }
    cut_scan y (Err Unended) q h p r = record { rows = p; end = r }
    cut_scan y (Err Malformed) q h p r = record { rows = p; end = r }

    unended_agreed : length s ≤ at + length (body_at s at) → Agreed n (read_on (suc f) s st at) (arrived_on (standing s st at n) (drop at s))
    unfolding awaited_end
    unended_agreed h =
        let g = body_at s at in
        let x = standing s st at n in
        let d = length-drop at s in
        let e : g ≡ drop at s = first_all false (drop at s) (omega arith) in
        let l = ap length e in
        let m : at + length g ≡ length s = omega arith in
        let w = fits_within 0 false (drop at s) (omega arith) fits in
        let o : awaited_end (lengthened x g) ≡ body_answer (at + length g) at g =
        rw (ne_eqb (at + length g) 0 (omega arith), ne_eqb (length g) 0 (omega arith)) in
        agreed_by n
        turn_taken
        (ap (arrived_on x) (sym e) ∙ arrived_plain x g refl unclosed (first_first false (drop at s)) (omega arith) (omega arith))
        (cut_scan (only (lengthened x g)) (segment_at s at) refl h refl (o ∙ ap (λ (k : ℕ). body_answer k at g) m ∙ sym (scan_said s at refl).1))

-- "Bytes after a good UIZ are 7 at the first of them"
past_agreed : (s : List ℕ) (st : State) (at n : ℕ) → is_closed st.phase ≡ true → at < length s → at < 60000
    → Agreed n (fault (wrong_envelope at)) (arrived_on (standing s st at n) (drop at s))
unfolding arrived_on awaited_byte
past_agreed s st at n c h k =
    let x = standing s st at n in
    let b : byte_of x (get_or s at 0) ≡ only (answered x (wrong_envelope at)) = rw (lt-leb 60000 (at + 0) (omega arith), c) in
    agreed_by n refl
    (ap (arrived_on x) (drop_here s at h) ∙ ap (λ (y : Brought). followed y (arrived_on y.stand (drop (at + 1) s))) b)
    (fault_agreed n (naming 7 at) x (drop (at + 1) s))

-- the text ends before a segment: it is whole after the UIZ, and 7 at its length else
stop_agreed : (f : ℕ) (s : List ℕ) (st : State) (at n : ℕ) → 1 ≤ length s → length s < at + f → at ≤ length s → length s ≤ at
    → Agreed n (read_on f s st at) (arrived_on (standing s st at n) (drop at s))
unfolding arrived_on awaited_end
stop_agreed f s st at n some enough h k =
    let x = standing s st at n in
    let z : n + 0 ≡ n = omega arith in
    let w : at ≡ length s = omega arith in
    choose (is_closed st.phase)
    (λ c.
    let o : awaited_end x ≡ done n = rw (ne_eqb (at + 0) 0 (omega arith), c) in
    agreed_by n (read_accepted f s st at k h enough c) (ap (arrived_on x) (drop_past s at k)) (record { rows = refl; end = o ∙ ap (λ (m : ℕ). done m) (sym z) }))
    (λ c.
    let o : awaited_end x ≡ wrong_envelope at = rw (ne_eqb (at + 0) 0 (omega arith), c) in
    agreed_by n (read_stops f s st at k h enough c) (ap (arrived_on x) (drop_past s at k)) (record { rows = refl; end = o ∙ ap (λ (m : ℕ). wrong_envelope m) w }))

-- from any segment on
pub reading_agreed : (f : ℕ) (s : List ℕ) → 1 ≤ length s → length s ≤ 60000 → (st : State) (at n : ℕ) → at ≤ length s → length s < at + f → n ≤ at
    → fits_on 0 false (drop at s) ≡ true → Agreed n (read_on f s st at) (arrived_on (standing s st at n) (drop at s))
reading_agreed zero s some small st at n h enough few fits = absurd (omega arith)
reading_agreed (suc f) s some small st at n h enough few fits =
    elim (dec_lt at (length s)) [
      | yes l ↦
          choose (is_closed st.phase)
          (λ c. agreed_by n (read_past (suc f) s st at l enough c) refl (past_agreed s st at n c l (omega arith)))
          (λ c.
          elim (dec_lt (at + length (body_at s at)) (length s)) [
            | yes k ↦ ended_agreed s f (reading_agreed f s some small) small st at n enough few c l fits k
            | no k ↦ unended_agreed s f (reading_agreed f s some small) small st at n enough few c l fits (omega arith)
          ])
      | no l ↦ stop_agreed (suc f) s st at n some enough h (omega arith)
    ]
