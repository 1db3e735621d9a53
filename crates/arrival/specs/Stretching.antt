-- The whole segments of a message at the front of some bytes, as they arrive and as the reader of a stretch takes them.
-- Assumes nothing.
use Rattle.std.specs.Prelude.{◌≡◌, refl, Bool, true, false, List, [], ◌∷◌, ◌++◌, map, ltb, drop, Result, Ok, Err}
use Rattle.std.proofs.Common.{sym, ap, subst, ◌∙◌, append_assoc, arith, not-suc-le-zero, length-drop, drop-drop}
use Prim.Native.Nat.{ℕ, zero, suc, ◌+◌, ◌*◌, ◌≤◌, ◌<◌}
use Rattle.std.proofs.Math.ListN.{length}
use borrow.Author.Tests.{eqb-true, lt-ltb, ltb-true}
use Rattle.laws.specs.Choice.{pick, both, all, choose, false≢true}
use Rattle.answers.specs.declared.Refusal.{Refusal}
use Rattle.answers.specs.Answers.{Answer, done, refused, moved_to}
use Rattle.answers.specs.Laws.{done≢refused, refused_is}
use Rattle.syntax.specs.Bytes.{terminator, stands, releases}
use Rattle.syntax.specs.Pieces.{first_piece}
use Rattle.syntax.specs.declared.segment.ScanError.{ScanError}
use Rattle.syntax.specs.declared.segment.ScanError.TheVariants.{NotPermitted, Unended, Malformed}
use Rattle.syntax.specs.Segment.{body_at, segment_at}
use Rattle.cuts.specs.Cuts.{released_after}
use Rattle.parts.specs.Places.{bytes_of}
use Rattle.placing.specs.Tables.{tables}
use Rattle.steps.specs.declared.state.Phase.{Phase}
use Rattle.steps.specs.declared.state.Phase.TheVariants.{Opening, Between, Inside, Closed}
use Rattle.steps.specs.declared.state.State.{State}
use Rattle.steps.specs.declared.state.Row.{Row}
use Rattle.steps.specs.State.{one_more}
use Rattle.steps.specs.Step.{step_by, segment_step}
use Rattle.interchange.specs.declared.turn.Turn.{Turn}
use Rattle.interchange.specs.Reader.{Verdict, accepted, is_closed, turn_step, turn_with}
use Rattle.interchange.specs.Runs.{counted_of, counted_none, counted_more}
use Rattle.interchange.specs.Stretch.{Stretched, same_phase, halted, ahead, is_ended, stretch_turn, stretch_on}
use Rattle.arrival.specs.Arrived.{Final, awaited, Stand, Brought, only, answered, bare, opens, heads, arrived_bytes, arrived_segment, followed, arrived_on}
use Rattle.arrival.specs.Folded.{lengthened, arrived_ended, arrived_stays}
use Rattle.arrival.specs.Passing.{raise, taking, Same, segment_same}

-- so many segments of a message have come, in n bytes
abbrev pub beyond : Stand → State → ℕ → ℕ → Stand
beyond x next n k =
    record {
      state = bare next;
      offset = x.offset + n;
      body = [];
      released = false;
      dialogue = x.dialogue;
      reference = x.reference;
      count = counted_of x.count k;
      final = awaited;
    }

-- what a stretch brings, where k segments came before it
abbrev reached_from : Stand → ℕ → Stretched → Brought
reached_from x k y =
    record { stand = beyond x y.state y.at (k + length y.rows); rows = map (raise x.offset) y.rows; opened = false; headed = false }

abbrev pub reached : Stand → Stretched → Brought
reached x y =
    record { stand = beyond x y.state y.at (length y.rows); rows = map (raise x.offset) y.rows; opened = false; headed = false }

-- the stretch ends with a fault
abbrev pub stopped : Brought → Answer ℕ → Brought
stopped b a = record { stand = answered b.stand a; rows = b.rows; opened = b.opened; headed = b.headed }

-- and what the bytes behind it bring
abbrev continued : ℕ → Brought → List ℕ → Verdict → Brought
continued base b l (done u) = followed b (arrived_on b.stand l)
continued base b l (refused refusal) = stopped b (refused (moved_to (base + refusal.position) refusal))

-- a row before
joined : (base : ℕ) (x : Stand) (r : Row) (b : Brought) (l : List ℕ) (v : Verdict)
    → followed (record { stand = x; rows = r ∷ []; opened = false; headed = false }) (continued base b l v)
    ≡ continued base (record { stand = b.stand; rows = r ∷ b.rows; opened = b.opened; headed = b.headed }) l v
joined base x r b l (done u) = refl
joined base x r b l (refused refusal) = refl

-- what holds of both that a test chooses from
picked : (b : Bool) (a c : Stretched) (P : Stretched → Type 0) → (b ≡ true → P a) → (b ≡ false → P c) → P (pick b a c)
picked true a c P t f = t refl
picked false a c P t f = f refl

-- a byte that stands as the terminator is it, and is not released
stands_is : (r : Bool) (b : ℕ) → stands terminator r b ≡ true → (r ≡ false) × (b ≡ terminator)
stands_is true b q = absurd (false≢true q)
stands_is false b q = (refl, eqb-true b terminator q)

-- a piece that is ended: the terminator behind it, which is not released
piece_ended : (r : Bool) (l : List ℕ) → length (first_piece terminator r l) < length l
    → l ≡ first_piece terminator r l ++ (terminator ∷ drop (suc (length (first_piece terminator r l))) l)
unfolding first_piece
piece_ended r [] h = absurd (not-suc-le-zero h)
piece_ended r (b ∷ l) h =
    choose (stands terminator r b) (λ q. rw q (ap (λ (a : ℕ). a ∷ l) (stands_is r b q).1))
    (λ q. let i = rw q at h in rw q (ap (λ (a : List ℕ). b ∷ a) (piece_ended (releases r b) l (omega arith))))

piece_released : (r : Bool) (l : List ℕ) → length (first_piece terminator r l) < length l → released_after r (first_piece terminator r l) ≡ false
unfolding first_piece released_after
piece_released r [] h = absurd (not-suc-le-zero h)
piece_released r (b ∷ l) h =
    choose (stands terminator r b) (λ q. rw q (stands_is r b q).0)
    (λ q. let i = rw q at h in rw q (piece_released (releases r b) l (omega arith)))

piece_plain : (r : Bool) (l : List ℕ) → first_piece terminator r (first_piece terminator r l) ≡ first_piece terminator r l
unfolding first_piece
piece_plain r [] = refl
piece_plain r (b ∷ l) =
    choose (stands terminator r b) (λ q. rw q) (λ q. rw q (rw q (ap (λ (a : List ℕ). b ∷ a) (piece_plain (releases r b) l))))

piece_again : (r : Bool) (l : List ℕ) → length (first_piece terminator r l) < length l
    → first_piece terminator r (first_piece terminator r l ++ (terminator ∷ [])) ≡ first_piece terminator r l
unfolding first_piece
piece_again r [] h = absurd (not-suc-le-zero h)
piece_again r (b ∷ l) h =
    choose (stands terminator r b) (λ q. rw q (rw (stands_is r b q).0))
    (λ q. let i = rw q at h in rw q (rw q (ap (λ (a : List ℕ). b ∷ a) (piece_again (releases r b) l (omega arith)))))

-- inside a message no dialogue reference is looked at
inside_step : (st : State) (at : ℕ) (g d e r : List ℕ) → st.phase ≡ Inside → segment_step tables st at g d r ≡ segment_step tables st at g e r
unfolding step_by
inside_step st at g d e r i =
    ap (λ (f : Phase). step_by tables f st at g d r) i ∙ sym (ap (λ (f : Phase). step_by tables f st at g e r) i)

inside_turn : (s : List ℕ) (st : State) (at : ℕ) (d e r : List ℕ) → st.phase ≡ Inside → (x : Result ℕ ScanError)
    → turn_with tables s d r st at x ≡ turn_with tables s e r st at x
inside_turn s st at d e r i (Ok n) = ap (turn_step (n + 1)) (inside_step st at (body_at s at) d e r i)
inside_turn s st at d e r i (Err error) = refl

same_inside : (f : Phase) → same_phase Inside f ≡ true → f ≡ Inside
same_inside Opening q = absurd (false≢true q)
same_inside Between q = absurd (false≢true q)
same_inside Inside q = refl
same_inside Closed q = absurd (false≢true q)

-- what is known of a stretch y from an offset on
record Went (x : Stand) (w : List ℕ) (st : State) (at k : ℕ) (y : Stretched) : Type 0 where
  pub comes : (rest : List ℕ) → arrived_on (beyond x st at k) (drop at w ++ rest) ≡ continued x.offset (reached_from x k y) (drop y.at w ++ rest) y.verdict
  pub inside : y.at ≤ length w
  pub few : at + 4 * length y.rows ≤ y.at
  pub near : all (λ (r : Row). ltb r.offset 4096) y.rows ≡ true
  pub position : (z : Refusal) → y.verdict ≡ refused z → z.position ≤ length w

module _ (x : Stand) (w : List ℕ) (l : length w ≤ 4096) (h : x.offset + length w ≤ 60000) where
  -- no segment more
  still : (st : State) (at k : ℕ) → at ≤ length w → Went x w st at k (halted st at accepted)
  still st at k i =
      let z : k ≡ k + 0 = omega arith in
      record {
        comes = λ rest. ap (λ (n : ℕ). followed (only (beyond x st at n)) (arrived_on (beyond x st at n) (drop at w ++ rest))) z;
        inside = i;
        few = omega arith;
        near = refl;
        position = λ z q. absurd (done≢refused q);
      }

  -- one row more before what follows
  more_before : (st next : State) (at then k : ℕ) (r : Row) (y : Stretched) → r.offset ≡ at → at + 4 ≤ then → then ≤ length w
      → ((rest : List ℕ) → arrived_on (beyond x st at k) (drop at w ++ rest)
      ≡ followed (record { stand = beyond x next then (k + 1); rows = raise x.offset r ∷ []; opened = false; headed = false }) (arrived_on (beyond x next then (k + 1)) (drop then w ++ rest)))
      → Went x w next then (k + 1) y → Went x w st at k (ahead r y)
  more_before st next at then k r y o a b c v =
      let n = v.few in
      let m : k + 1 + length y.rows ≡ k + suc (length y.rows) = omega arith in
      let i : r.offset < 4096 = omega (arith, o) in
      record {
        comes = λ rest.
            c rest
            ∙ ap (followed (record { stand = beyond x next then (k + 1); rows = raise x.offset r ∷ []; opened = false; headed = false })) (v.comes rest)
            ∙ joined x.offset (beyond x next then (k + 1)) (raise x.offset r) (reached_from x (k + 1) y) (drop y.at w ++ rest) y.verdict
            ∙ ap (λ (j : ℕ). continued x.offset (record { stand = beyond x y.state y.at j; rows = raise x.offset r ∷ map (raise x.offset) y.rows; opened = false; headed = false }) (drop y.at w ++ rest) y.verdict) m;
        inside = v.inside;
        few = omega arith;
        near = ap (λ (j : Bool). both j (all (λ (e : Row). ltb e.offset 4096) y.rows)) (lt-ltb r.offset 4096 i) ∙ v.near;
        position = v.position;
      }

  -- one segment that is ended
  module _ (st : State) (at k : ℕ) (f : st.phase ≡ Inside) (i : at + length (body_at w at) < length w) where
    abbrev here : Stand
    here = beyond x st at k

    abbrev body : List ℕ
    body = body_at w at

    abbrev whole : Stand
    whole = lengthened here body

    open_phase : (p : Phase) → p ≡ Inside → is_closed p ≡ false
    open_phase p q = ap is_closed q

    ended : length (first_piece terminator false (drop at w)) < length (drop at w)
    ended = let n = length-drop at w in omega arith

    laid : (rest : List ℕ) → drop at w ++ rest ≡ body ++ (terminator ∷ (drop (at + length body + 1) w ++ rest))
    laid rest =
        let n : at + suc (length body) ≡ at + length body + 1 = omega arith in
        ap (λ (a : List ℕ). a ++ rest) (piece_ended false (drop at w) ended)
        ∙ append_assoc body (terminator ∷ drop (suc (length body)) (drop at w)) rest
        ∙ ap (λ (a : List ℕ). body ++ (terminator ∷ (a ++ rest))) (drop-drop (suc (length body)) at w ∙ ap (λ (j : ℕ). drop j w) n)

    came : (rest : List ℕ) (y : Brought) → arrived_segment whole body ≡ y
        → arrived_on here (drop at w ++ rest) ≡ followed y (arrived_on y.stand (drop (at + length body + 1) w ++ rest))
    came rest y o =
        ap (arrived_on here) (laid rest)
        ∙ arrived_ended here body (drop (at + length body + 1) w ++ rest) refl (open_phase st.phase f) (piece_plain false (drop at w)) (piece_released false (drop at w) ended)
        (omega arith) (omega arith)
        ∙ ap (λ (g : List ℕ). followed (arrived_segment whole g) (arrived_on (arrived_segment whole g).stand (drop (at + length body + 1) w ++ rest))) (piece_again false (drop at w) ended)
        ∙ ap (λ (b : Brought). followed b (arrived_on b.stand (drop (at + length body + 1) w ++ rest))) o

    fits : ltb (x.offset + at + length body) (arrived_bytes whole + 1) ≡ ltb (at + length body) (length w)
    fits = lt-ltb (x.offset + at + length body) (arrived_bytes whole + 1) (omega arith) ∙ sym (lt-ltb (at + length body) (length w) i)

    judged : (turn : Result Turn Refusal) → turn ≡ turn_with tables w x.reference x.reference st at (segment_at w at) → Same x.offset whole at body (length w) turn (arrived_segment whole body)
    judged turn o =
        subst (λ (t : Result Turn Refusal). Same x.offset whole at body (length w) t (arrived_segment whole body))
        (inside_turn w st at x.dialogue x.reference x.reference f (segment_at w at) ∙ sym o)
        (segment_same x.offset whole at refl st refl w fits)

    -- it leaves both references
    module _ (next : State) (r : Row) where
      abbrev taken_by : Phase → ℕ → ℕ → Brought
      taken_by p offset count =
          record {
            stand = record {
              state = bare next;
              offset = offset;
              body = [];
              released = false;
              dialogue = pick (opens p) (bytes_of body next.dialogue) x.dialogue;
              reference = pick (heads p next.phase) (bytes_of body next.reference) x.reference;
              count = count;
              final = awaited;
            };
            rows = raise x.offset r ∷ [];
            opened = opens p;
            headed = heads p next.phase;
          }

      taking_inside : (then : ℕ) → then ≡ at + length body + 1
          → taking x.offset whole body next r ≡ record { stand = beyond x next then (k + 1); rows = raise x.offset r ∷ []; opened = false; headed = false }
      taking_inside then e =
          let n : arrived_bytes whole + 1 ≡ x.offset + then = omega (arith, e) in
          ap (λ (p : Phase). taken_by p (arrived_bytes whole + 1) (one_more (counted_of x.count k))) f
          ∙ ap (λ (j : ℕ). taken_by Inside j (one_more (counted_of x.count k))) n
          ∙ ap (taken_by Inside (x.offset + then)) (counted_more x.count k)

    turned : (turn : Result Turn Refusal) → Same x.offset whole at body (length w) turn (arrived_segment whole body) → (more : State → ℕ → Stretched)
        → ((next : State) (then : ℕ) → next.phase ≡ Inside → then ≤ length w → Went x w next then (k + 1) (more next then))
        → Went x w st at k (stretch_turn more st at turn)
    turned (Ok t) (o, a, b, c, d) more m =
        let n : t.then ≤ length w = omega arith in
        more_before st t.state at t.then k t.row (pick (same_phase st.phase t.state.phase) (more t.state t.then) (halted t.state t.then accepted)) a (omega arith) n
        (λ rest.
        came rest (record { stand = beyond x t.state t.then (k + 1); rows = raise x.offset t.row ∷ []; opened = false; headed = false }) (o ∙ taking_inside t.state t.row t.then b)
        ∙ ap (λ (j : ℕ). followed (record { stand = beyond x t.state t.then (k + 1); rows = raise x.offset t.row ∷ []; opened = false; headed = false }) (arrived_on (beyond x t.state t.then (k + 1)) (drop j w ++ rest))) (sym b))
        (picked (same_phase st.phase t.state.phase) (more t.state t.then) (halted t.state t.then accepted) (Went x w t.state t.then (k + 1))
        (λ q. m t.state t.then (same_inside t.state.phase (sym (ap (λ (p : Phase). same_phase p t.state.phase) f) ∙ q)) n)
        (λ q. still t.state t.then (k + 1) n))
    turned (Err z) (o, a) more m =
        let e : Answer ℕ = refused (moved_to (x.offset + z.position) z) in
        let n : k ≡ k + 0 = omega arith in
        record {
          comes = λ rest.
              came rest (only (answered here e)) o
              ∙ ap (followed (only (answered here e))) (arrived_stays (answered here e) e refl (drop (at + length body + 1) w ++ rest))
              ∙ ap (λ (j : ℕ). only (answered (beyond x st at j) e)) n;
          inside = omega arith;
          few = omega arith;
          near = refl;
          position = λ u q. let j : z.position ≡ u.position = ap (λ (n : Refusal). n.position) (refused_is q) in omega arith;
        }

  -- all of it
  goes : (n : ℕ) (st : State) (at k : ℕ) → st.phase ≡ Inside → at ≤ length w → Went x w st at k (stretch_on n w x.reference st at)
  unfolding stretch_on
  goes zero st at k f i = still st at k i
  goes (suc n) st at k f i =
      picked (is_ended w at) (stretch_turn (stretch_on n w x.reference) st at (turn_with tables w x.reference x.reference st at (segment_at w at))) (halted st at accepted) (Went x w st at k)
      (λ q.
      let d = ltb-true (at + length (body_at w at)) (length w) q in
      turned st at k f d (turn_with tables w x.reference x.reference st at (segment_at w at))
      (judged st at k f d (turn_with tables w x.reference x.reference st at (segment_at w at)) refl)
      (stretch_on n w x.reference) (λ next then p m. goes n next then (k + 1) p m))
      (λ q. still st at k i)

-- a segment that is ended has a row, or a fault
turn_some : (more : State → ℕ → Stretched) (st : State) (at : ℕ) (turn : Result Turn Refusal) → (stretch_turn more st at turn).verdict ≡ accepted → 0 < length (stretch_turn more st at turn).rows
turn_some more st at (Ok t) v = omega arith
turn_some more st at (Err z) v = absurd (done≢refused (sym v))

stretch_some : (n : ℕ) (w reference : List ℕ) (st : State) (at : ℕ) → 1 ≤ n → is_ended w at ≡ true → (stretch_on n w reference st at).verdict ≡ accepted → 0 < length (stretch_on n w reference st at).rows
unfolding stretch_on
stretch_some zero w reference st at m i v = absurd (not-suc-le-zero m)
stretch_some (suc n) w reference st at m i v =
    let e : stretch_on (suc n) w reference st at ≡ stretch_turn (stretch_on n w reference) st at (turn_with tables w reference reference st at (segment_at w at)) =
    ap (λ (b : Bool). pick b (stretch_turn (stretch_on n w reference) st at (turn_with tables w reference reference st at (segment_at w at))) (halted st at accepted)) i in
    subst (λ (y : Stretched). 0 < length y.rows) (sym e)
    (turn_some (stretch_on n w reference) st at (turn_with tables w reference reference st at (segment_at w at)) (sym (ap (λ (y : Stretched). y.verdict) e) ∙ v))

-- A stretch y of a message, from where no byte of a segment is kept.
module _ (x : Stand) (w : List ℕ) (st : State) (f : x.final ≡ awaited) (b : x.body ≡ []) (u : x.released ≡ false) (same : x.state ≡ bare st)
    (p : st.phase ≡ Inside) (l : length w ≤ 4096) (h : x.offset + length w ≤ 60000) (n : ℕ) (y : Stretched) (e : y ≡ stretch_on n w x.reference st 0) where
  abbrev standing : State → ℕ → List ℕ → Bool → ℕ → Final → Stand
  standing state offset body released count final =
      record {
        state = state;
        offset = offset;
        body = body;
        released = released;
        dialogue = x.dialogue;
        reference = x.reference;
        count = count;
        final = final;
      }

  starts : x ≡ beyond x st 0 0
  starts =
      let o : x.offset ≡ x.offset + 0 = omega arith in
      ap (λ (a : State). standing a x.offset x.body x.released x.count x.final) same
      ∙ ap (λ (a : ℕ). standing (bare st) a x.body x.released x.count x.final) o
      ∙ ap (λ (a : List ℕ). standing (bare st) (x.offset + 0) a x.released x.count x.final) b
      ∙ ap (λ (a : Bool). standing (bare st) (x.offset + 0) [] a x.count x.final) u
      ∙ ap (λ (a : ℕ). standing (bare st) (x.offset + 0) [] false a x.final) (sym (counted_none x.count))
      ∙ ap (standing (bare st) (x.offset + 0) [] false (counted_of x.count 0)) f

  went : Went x w st 0 0 y
  went = subst (Went x w st 0 0) (sym e) (goes x w l h n st 0 0 p (omega arith))

  comes : (rest : List ℕ) → arrived_on x (w ++ rest) ≡ continued x.offset (reached x y) (drop y.at w ++ rest) y.verdict
  comes rest =
      let z : 0 + length y.rows ≡ length y.rows = omega arith in
      ap (λ (a : Stand). arrived_on a (w ++ rest)) starts
      ∙ went.comes rest
      ∙ ap (λ (j : ℕ). continued x.offset (record { stand = beyond x y.state y.at j; rows = map (raise x.offset) y.rows; opened = false; headed = false }) (drop y.at w ++ rest) y.verdict) z

  -- it ends without a fault
  pub gone_on : y.verdict ≡ accepted → (rest : List ℕ) → arrived_on x (w ++ rest) ≡ followed (reached x y) (arrived_on (reached x y).stand (drop y.at w ++ rest))
  gone_on v rest = comes rest ∙ ap (continued x.offset (reached x y) (drop y.at w ++ rest)) v

  -- or with one
  pub gone_stop : (z : Refusal) → y.verdict ≡ refused z → (rest : List ℕ)
      → arrived_on x (w ++ rest) ≡ stopped (reached x y) (refused (moved_to (x.offset + z.position) z))
  gone_stop z v rest = comes rest ∙ ap (continued x.offset (reached x y) (drop y.at w ++ rest)) v

  pub gone_position : (z : Refusal) → y.verdict ≡ refused z → z.position ≤ length w
  gone_position z v = went.position z v

  pub gone_within : y.at ≤ length w
  gone_within = went.inside

  pub gone_few : 4 * length y.rows ≤ y.at
  gone_few = let i = went.few in omega arith

  pub gone_near : all (λ (r : Row). ltb r.offset 4096) y.rows ≡ true
  gone_near = went.near

  -- not without a row, where the first segment is ended
  pub gone_some : is_ended w 0 ≡ true → 1 ≤ n → y.verdict ≡ accepted → 0 < length y.rows
  gone_some i m v =
      subst (λ (a : Stretched). 0 < length a.rows) (sym e) (stretch_some n w x.reference st 0 m i (sym (ap (λ (a : Stretched). a.verdict) e) ∙ v))
