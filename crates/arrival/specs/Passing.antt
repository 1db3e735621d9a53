-- One segment that ends, as it arrives and as the reader of whole segments takes it.
-- Assumes nothing.
use Rattle.std.specs.Prelude.{◌≡◌, refl, Bool, true, false, List, [], ◌∷◌, ◌++◌, ℕ, ◌+◌, ◌-◌, ◌≤◌, ◌<◌, ltb, length, take, Result, Ok, Err}
use Rattle.std.proofs.Common.{sym, ap, subst, ◌∙◌, append_assoc, arith, length-append, lt-ltb, le-ltb, ltb-true, ltb-false}
use Rattle.laws.specs.Choice.{pick, all, choose}
use Rattle.answers.specs.Answers.{Answer, done, refused, byte_not_permitted, input_ends, wrong_segment, naming, moved_to}
use Rattle.syntax.specs.Bytes.{terminator, permitted_of}
use Rattle.syntax.specs.Pieces.{first_piece}
use Rattle.syntax.specs.Firsts.{first_take, first_length}
use Rattle.syntax.specs.Ends.{end_within}
use Rattle.syntax.specs.declared.segment.ScanError.{ScanError}
use Rattle.syntax.specs.declared.segment.ScanError.TheVariants.{NotPermitted, Unended, Malformed}
use Rattle.answers.specs.declared.Refusal.{Refusal}
use Rattle.syntax.specs.Segment.{body_at, segment_at, scan_of, well_formed, permitted_run, body_answer}
use Rattle.cuts.specs.Cuts.{released_after}
use Rattle.parts.specs.declared.Part.{Part}
use Rattle.parts.specs.Places.{bytes_of}
use Rattle.placing.specs.Tables.{tables}
use Rattle.steps.specs.declared.state.Phase.{Phase}
use Rattle.steps.specs.declared.state.State.{State}
use Rattle.steps.specs.declared.state.Row.{Row}
use Rattle.steps.specs.State.{one_more}
use Rattle.steps.specs.Step.{Taken, taken, segment_step}
use Rattle.interchange.specs.declared.turn.Turn.{Turn}
use Rattle.interchange.specs.Reader.{is_closed, turn_step, turn_with, goes_on}
use Rattle.arrival.specs.Arrived.{Final, awaited, Stand, Brought, only, answered, bare, opens, heads, passed, arrived_bytes, arrived_step, arrived_scan, arrived_segment, ending, followed, arrived_on}
use Rattle.arrival.specs.Alike.{Alike, step_alike}
use Rattle.arrival.specs.Folded.{lengthened, arrived_ended, arrived_stays}

-- a row whose offset is counted from further ahead
abbrev pub raise : ℕ → Row → Row
raise base r = record { offset = base + r.offset; group = r.group; tag = r.tag }

-- a good segment g of n bytes with its terminator has come
abbrev pub after : Stand → List ℕ → State → ℕ → Stand
after x g next n =
    record {
      state = bare next;
      offset = x.offset + n;
      body = [];
      released = false;
      dialogue = pick (opens x.state.phase) (bytes_of g next.dialogue) x.dialogue;
      reference = pick (heads x.state.phase next.phase) (bytes_of g next.reference) x.reference;
      count = one_more x.count;
      final = awaited;
    }

-- what it brings
abbrev pub taking : ℕ → Stand → List ℕ → State → Row → Brought
taking base z g next r =
    record {
      stand = passed z g next;
      rows = raise base r ∷ [];
      opened = opens z.state.phase;
      headed = heads z.state.phase next.phase;
    }

-- what a turn says of the segment g at an offset, and what the same segment brings where its first byte is `base` further on
abbrev pub Same : ℕ → Stand → ℕ → List ℕ → ℕ → Result Turn Refusal → Brought → Type 0
Same base z at g n (Ok t) y = (y ≡ taking base z g t.state t.row) × (t.row.offset ≡ at) × (t.then ≡ at + length g + 1) × (3 ≤ length g) × (at + length g < n)
Same base z at g n (Err x) y = (y ≡ only (answered z (refused (moved_to (base + x.position) x)))) × (x.position ≤ at + length g)

pick_same : (b : Bool) (g d : List ℕ) (p o : Part) → (b ≡ true → p ≡ o) → pick b (bytes_of g o) d ≡ pick b (bytes_of g p) d
pick_same true g d p o e = ap (bytes_of g) (sym (e refl))
pick_same false g d p o e = refl

-- two states that are the same but for references that came before
module _ (z : Stand) (g : List ℕ) (next other : State) (e : bare next ≡ bare other)
    (d : opens z.state.phase ≡ true → next.dialogue ≡ other.dialogue)
    (h : heads z.state.phase next.phase ≡ true → next.reference ≡ other.reference) where
  abbrev kept : State → List ℕ → List ℕ → Stand
  kept st dialogue reference =
      record {
        state = st;
        offset = arrived_bytes z + 1;
        body = [];
        released = false;
        dialogue = dialogue;
        reference = reference;
        count = one_more z.count;
        final = z.final;
      }

  phases : next.phase ≡ other.phase
  phases = ap (λ (st : State). st.phase) e

  passed_same : passed z g other ≡ passed z g next
  passed_same =
      let f = opens z.state.phase in
      let k = heads z.state.phase in
      ap (λ (st : State). kept st (pick f (bytes_of g other.dialogue) z.dialogue) (pick (k other.phase) (bytes_of g other.reference) z.reference)) (sym e)
      ∙ ap (λ (l : List ℕ). kept (bare next) l (pick (k other.phase) (bytes_of g other.reference) z.reference))
      (pick_same f g z.dialogue next.dialogue other.dialogue d)
      ∙ ap (λ (p : Phase). kept (bare next) (pick f (bytes_of g next.dialogue) z.dialogue) (pick (k p) (bytes_of g other.reference) z.reference)) (sym phases)
      ∙ ap (kept (bare next) (pick f (bytes_of g next.dialogue) z.dialogue))
      (pick_same (k next.phase) g z.reference next.reference other.reference h)

module _ (base : ℕ) (z : Stand) (at : ℕ) (g : List ℕ) (n : ℕ) (place : base + at ≡ z.offset) where
  row_same : (r r₂ : Row) → r.offset ≡ at → r₂ ≡ record { offset = z.offset; group = r.group; tag = r.tag } → r₂ ≡ raise base r
  row_same r r₂ o e = e ∙ ap (λ (n : ℕ). record { offset = n; group = r.group; tag = r.tag }) (sym place ∙ ap (λ (n : ℕ). base + n) (sym o))

  step_same : (a b : Answer Taken) → 3 ≤ length g → at + length g < n → Alike z.state.phase at z.offset a b → Same base z at g n (turn_step (at + length g + 1) a) (arrived_step z g b)
  step_same (done (taken next r)) (done (taken other r₂)) q i w =
      let s = passed_same z g next other w.states w.dialogues w.references in
      let f = ap (λ (st : State). st.phase) w.states in (
        ap (λ (y : Row). record { stand = passed z g other; rows = y ∷ []; opened = opens z.state.phase; headed = heads z.state.phase other.phase })
            (row_same r r₂ w.offset w.again)
            ∙ ap (λ (y : Stand). record { stand = y; rows = raise base r ∷ []; opened = opens z.state.phase; headed = heads z.state.phase other.phase }) s
            ∙ ap (λ (p : Phase). record { stand = passed z g next; rows = raise base r ∷ []; opened = opens z.state.phase; headed = heads z.state.phase p }) (sym f),
        w.offset,
        refl,
        q,
        i,
      )
  step_same (done (taken next r)) (refused refusal) q i w = absurd w
  step_same (refused refusal) (done (taken other r₂)) q i w = absurd w
  step_same (refused refusal) (refused other) q i w = (
    ap (λ (j : Refusal). only (answered z (refused j))) w.1
        ∙ ap (λ (j : ℕ). only (answered z (refused (moved_to j refusal)))) (sym place ∙ ap (λ (j : ℕ). base + j) (sym w.0)),
    let l = w.0 in omega arith,
  )

run_length : (g : List ℕ) → permitted_run g ≤ length g
unfolding permitted_run
run_length [] = omega arith
run_length (b ∷ g) = choose (permitted_of b) (λ q. rw q (let h = run_length g in omega arith)) (λ q. rw q (omega arith))

-- a scan of a body, and the answer of the same body elsewhere
module _ (g : List ℕ) (at n : ℕ) where
  scan_bad : all permitted_of g ≡ false → scan_of n at g ≡ Err (NotPermitted (at + permitted_run g))
  unfolding scan_of
  scan_bad p = rw p

  answer_bad : all permitted_of g ≡ false → body_answer n at g ≡ byte_not_permitted (at + permitted_run g)
  unfolding body_answer
  answer_bad p = rw p

  module _ (p : all permitted_of g ≡ true) where
    scan_unended : ltb (at + length g) n ≡ false → scan_of n at g ≡ Err Unended
    unfolding scan_of
    scan_unended i = rw (p, i)

    answer_unended : ltb (at + length g) n ≡ false → body_answer n at g ≡ input_ends at
    unfolding body_answer
    answer_unended i = rw (p, i)

    module _ (i : ltb (at + length g) n ≡ true) where
      pub scan_end : well_formed g ≡ true → scan_of n at g ≡ Ok (at + length g)
      unfolding scan_of
      scan_end w = rw (p, i, w)

      answer_end : well_formed g ≡ true → body_answer n at g ≡ done (at + length g)
      unfolding body_answer
      answer_end w = rw (p, i, w)

      scan_malformed : well_formed g ≡ false → scan_of n at g ≡ Err Malformed
      unfolding scan_of
      scan_malformed w = rw (p, i, w)

      answer_malformed : well_formed g ≡ false → body_answer n at g ≡ wrong_segment at
      unfolding body_answer
      answer_malformed w = rw (p, i, w)

-- a segment is judged alike, be it read as a whole or as it arrives
module _ (base : ℕ) (z : Stand) (at : ℕ) (place : base + at ≡ z.offset) (st : State) (same : bare st ≡ bare z.state) (s : List ℕ) where
  abbrev Told : Result ℕ ScanError → Answer ℕ → Type 0
  Told x a = Same base z at (body_at s at) (length s) (turn_with tables s z.dialogue z.reference st at x) (arrived_scan z (body_at s at) a)

  told : (x y : Result ℕ ScanError) (a b : Answer ℕ) → x ≡ y → a ≡ b → Told y b → Told x a
  told x y a b e f t = subst (λ (v : Result ℕ ScanError). Told v a) (sym e) (subst (λ (v : Answer ℕ). Told y v) (sym f) t)

  refusing : (number offset position : ℕ) → offset ≡ base + position
      → only (answered z (refused (naming number offset))) ≡ only (answered z (refused (naming number (base + position))))
  refusing number offset position e = ap (λ (k : ℕ). only (answered z (refused (naming number k)))) e

  told_end : (i : ℕ) → 3 ≤ length (body_at s at) → at + length (body_at s at) < length s → Told (Ok (at + length (body_at s at))) (done i)
  told_end i w l =
      step_same base z at (body_at s at) (length s) place
      (segment_step tables st at (body_at s at) z.dialogue z.reference) (segment_step tables z.state z.offset (body_at s at) z.dialogue z.reference) w l
      (subst (λ (p : Phase). Alike p at z.offset (segment_step tables st at (body_at s at) z.dialogue z.reference) (segment_step tables z.state z.offset (body_at s at) z.dialogue z.reference))
      (ap (λ (y : State). y.phase) same)
      (step_alike tables st z.state same at z.offset (body_at s at) z.dialogue z.reference))

  -- where it is ended in both, or in neither
  pub segment_same : ltb (z.offset + length (body_at s at)) (arrived_bytes z + 1) ≡ ltb (at + length (body_at s at)) (length s)
      → Same base z at (body_at s at) (length s) (turn_with tables s z.dialogue z.reference st at (segment_at s at)) (arrived_segment z (body_at s at))
  segment_same i =
      let n = length s in
      let g = body_at s at in
      let m = arrived_bytes z + 1 in
      choose (all permitted_of g)
      (λ p.
      choose (ltb (at + length g) n)
      (λ l.
      choose (well_formed g)
      (λ w.
      let o = (end_within s at (at + length g) (scan_end g at n p l w)).0 in
      told (scan_of n at g) (Ok (at + length g)) (body_answer m z.offset g) (done (z.offset + length g))
      (scan_end g at n p l w) (answer_end g z.offset m p (i ∙ l) w) (told_end (z.offset + length g) (omega arith) (ltb-true (at + length g) n l)))
      (λ w.
      told (scan_of n at g) (Err Malformed) (body_answer m z.offset g) (wrong_segment z.offset)
      (scan_malformed g at n p l w) (answer_malformed g z.offset m p (i ∙ l) w) (refusing 6 z.offset at (sym place), omega arith)))
      (λ l.
      told (scan_of n at g) (Err Unended) (body_answer m z.offset g) (input_ends z.offset)
      (scan_unended g at n p l) (answer_unended g z.offset m p (i ∙ l)) (refusing 5 z.offset at (sym place), omega arith)))
      (λ p.
      let r = run_length g in
      told (scan_of n at g) (Err (NotPermitted (at + permitted_run g))) (body_answer m z.offset g) (byte_not_permitted (z.offset + permitted_run g))
      (scan_bad g at n p) (answer_bad g z.offset m p) (refusing 4 (z.offset + permitted_run g) (at + permitted_run g) (omega (arith, place)), omega arith))

-- One segment that ends. Its bytes s are those that came before, the body, and those that come now, q and the terminator.
module _ (x : Stand) (q s : List ℕ) (st : State) (f : x.final ≡ awaited) (c : is_closed x.state.phase ≡ false) (p : first_piece terminator x.released q ≡ q)
    (u : released_after x.released q ≡ false) (h : arrived_bytes x + length q + 1 ≤ 60000) (k : length x.body + length q + 1 ≤ 4096)
    (same : x.state ≡ bare st) (e : s ≡ x.body ++ (q ++ (terminator ∷ [])))
    (turn : Result Turn Refusal) (took : turn ≡ turn_with tables s x.dialogue x.reference st 0 (segment_at s 0)) where
  abbrev whole : Stand
  whole = lengthened x q

  sized : length s ≡ length (x.body ++ q) + 1
  sized =
      let n = length-append x.body (q ++ (terminator ∷ [])) in
      let m = length-append q (terminator ∷ []) in
      let o = length-append x.body q in
      ap length e ∙ omega arith

  ending_is : ending whole ≡ body_at s 0
  ending_is = ap (λ (l : List ℕ). body_at l 0) (append_assoc x.body q (terminator ∷ []) ∙ sym e)

  fits : ltb (x.offset + length (body_at s 0)) (arrived_bytes whole + 1) ≡ ltb (0 + length (body_at s 0)) (length s)
  fits =
      let n = sized in
      choose (ltb (0 + length (body_at s 0)) (length s))
      (λ t. let l = ltb-true (0 + length (body_at s 0)) (length s) t in lt-ltb (x.offset + length (body_at s 0)) (arrived_bytes whole + 1) (omega arith) ∙ sym t)
      (λ t. let l = ltb-false (0 + length (body_at s 0)) (length s) t in le-ltb (x.offset + length (body_at s 0)) (arrived_bytes whole + 1) (omega arith) ∙ sym t)

  judged : (t : Result Turn Refusal) → turn ≡ t → Same x.offset whole 0 (body_at s 0) (length s) t (arrived_segment whole (body_at s 0))
  judged t o =
      subst (λ (y : Result Turn Refusal). Same x.offset whole 0 (body_at s 0) (length s) y (arrived_segment whole (body_at s 0))) (sym took ∙ o)
      (segment_same x.offset whole 0 (omega arith) st (ap bare (sym same)) s fits)

  came : (rest : List ℕ) (y : Brought) → arrived_segment whole (body_at s 0) ≡ y → arrived_on x (q ++ (terminator ∷ rest)) ≡ followed y (arrived_on y.stand rest)
  came rest y o =
      arrived_ended x q rest f c p u h k
      ∙ ap (λ (g : List ℕ). followed (arrived_segment whole g) (arrived_on (arrived_segment whole g).stand rest)) ending_is
      ∙ ap (λ (b : Brought). followed b (arrived_on b.stand rest)) o

  after_is : (g l : List ℕ) (next : State) → g ≡ l → passed whole g next ≡ after x l next (length s)
  after_is g l next o =
      let n : arrived_bytes whole + 1 ≡ x.offset + length s = omega (arith, sized) in
      ap (λ (y : List ℕ). passed whole y next) o
      ∙ ap (λ (m : ℕ). record { state = bare next; offset = m; body = []; released = false; dialogue = (after x l next 0).dialogue; reference = (after x l next 0).reference; count = one_more x.count; final = x.final }) n
      ∙ ap (λ (y : Final). record { state = bare next; offset = x.offset + length s; body = []; released = false; dialogue = (after x l next 0).dialogue; reference = (after x l next 0).reference; count = one_more x.count; final = y }) f

  -- where it is good
  module _ (next : State) (r : Row) (then : ℕ) (o : turn ≡ goes_on next r then) where
    pub one_within : (1 ≤ then) × (then ≤ length s) × (r.offset ≡ 0)
    one_within =
        let w = judged (goes_on next r then) o in
        let n = w.2 in
        let l = w.4 in
        (omega arith, omega arith, w.1)

    pub one_on : (rest : List ℕ) → arrived_on x (q ++ (terminator ∷ rest))
        ≡ followed (record { stand = after x (take (then - 1) s) next (length s); rows = raise x.offset r ∷ []; opened = opens x.state.phase; headed = heads x.state.phase next.phase })
        (arrived_on (after x (take (then - 1) s) next (length s)) rest)
    one_on rest =
        let w = judged (goes_on next r then) o in
        let n = w.2 in
        let m : length (body_at s 0) ≡ then - 1 = omega arith in
        came rest (taking x.offset whole (body_at s 0) next r) w.0
        ∙ ap (λ (y : Stand). followed (record { stand = y; rows = raise x.offset r ∷ []; opened = opens x.state.phase; headed = heads x.state.phase next.phase }) (arrived_on y rest))
        (after_is (body_at s 0) (take (then - 1) s) next (first_take terminator false s ∙ ap (λ (y : ℕ). take y s) m))

  -- where it is refused
  module _ (z : Refusal) (o : turn ≡ Err z) where
    pub stop_within : z.position ≤ length s
    stop_within =
        let w = judged (Err z) o in
        let n = w.1 in
        let l = first_length terminator false s in
        omega arith

    pub one_stop : (rest : List ℕ) → arrived_on x (q ++ (terminator ∷ rest)) ≡ only (answered x (refused (moved_to (x.offset + z.position) z)))
    one_stop rest =
        let a = refused (moved_to (x.offset + z.position) z) in
        came rest (only (answered x a)) (judged (Err z) o).0 ∙ ap (followed (only (answered x a))) (arrived_stays (answered x a) a refl rest)
