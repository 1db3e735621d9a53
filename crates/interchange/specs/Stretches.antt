-- What is left of a stretch while its rows are gathered.
-- Assumes nothing.
use Rattle.std.specs.Prelude.{◌≡◌, refl, Bool, true, false, List, [], ◌∷◌, ◌++◌, ℕ, suc, ◌+◌, ◌-◌, ◌*◌, ◌≤◌, ◌<◌, eqb, ltb, length, drop, Result, Err, Ok}
use Rattle.std.proofs.Common.{sym, ◌∙◌, subst, append_assoc, append-nil, arith, length-append, length-drop, eq-eqb, ne_eqb, lt-ltb, le-ltb}
use Rattle.std.proofs.Math.Path.{ap}
use Rattle.answers.specs.Answers.{refused}
use Rattle.laws.specs.Choice.{pick, both, both_false, choose}
use Rattle.laws.specs.Put.{put_at, put_none, put_put, length_put}
use Rattle.answers.specs.declared.Refusal.{Refusal}
use Rattle.syntax.specs.Segment.{body_at, segment_at}
use Rattle.syntax.specs.Ends.{ended}
use Rattle.syntax.specs.Pieces.{first_piece}
use Rattle.placing.specs.Tables.{tables}
use Rattle.steps.specs.declared.state.Phase.{Phase}
use Rattle.steps.specs.declared.state.Phase.TheVariants.{Opening, Between, Inside, Closed}
use Rattle.steps.specs.declared.state.State.{State}
use Rattle.steps.specs.declared.state.Row.{Row}
use Rattle.interchange.specs.declared.turn.Turn.{Turn}
use Rattle.interchange.specs.Reader.{Verdict, accepted, turn_step, turn_with, numbers, goes_on}
use Rattle.interchange.specs.Room.{room_size, room_rows, full_from}
use Rattle.interchange.specs.Laws.{put_row, numbers_append, length_numbers}
use Rattle.interchange.specs.Offsets.{with_end}
use Rattle.interchange.specs.Passes.{row_with, Passes, none, more, Passed, put_row_behind}
use Rattle.interchange.specs.Stretch.{same_phase, Stretched, halted, ahead, is_ended, stretch_turn, stretch_on, stretch_of}

same_inside : (a b : Phase) → a ≡ Inside → b ≡ Inside → same_phase a b ≡ true
same_inside a b e f = rw (e, f)

-- some rows before what follows
abbrev pub aheads : List Row → Stretched → Stretched
aheads l x = record { state = x.state; at = x.at; rows = l ++ x.rows; verdict = x.verdict }

aheads_on : (l : List Row) (r : Row) (x : Stretched) → aheads l (ahead r x) ≡ aheads (l ++ (r ∷ [])) x
aheads_on l r x = ap (λ (k : List Row). record { state = x.state; at = x.at; rows = k; verdict = x.verdict }) (sym (append_assoc l (r ∷ []) x.rows))

aheads_both : (k l : List Row) (x : Stretched) → aheads k (aheads l x) ≡ aheads (k ++ l) x
aheads_both k l x = ap (λ (m : List Row). record { state = x.state; at = x.at; rows = m; verdict = x.verdict }) (sym (append_assoc k l x.rows))

-- a terminator stands behind a whole segment
ended_whole : (s : List ℕ) (at e : ℕ) → segment_at s at ≡ Ok e → is_ended s at ≡ true
ended_whole s at e h =
    let w = ended s at e h in
    let p = w.place in
    let i = w.inside in
    lt-ltb (at + length (body_at s at)) (length s) (omega arith)

-- and one is found in the bytes from the segment's start on
pub ended_found : (s rest : List ℕ) (at n : ℕ) → at ≤ length s → rest ≡ drop at s → n ≡ length (first_piece 39 false rest) → n < length rest → is_ended s at ≡ true
ended_found s rest at n h e f l =
    let d = ap length e ∙ length-drop at s in
    let b = f ∙ ap (λ (x : List ℕ). length (first_piece 39 false x)) e in
    lt-ltb (at + length (body_at s at)) (length s) (omega arith)

pub ended_none : (s rest : List ℕ) (at n : ℕ) → at ≤ length s → rest ≡ drop at s → n ≡ length (first_piece 39 false rest) → length rest ≤ n → is_ended s at ≡ false
ended_none s rest at n h e f l =
    let d = ap length e ∙ length-drop at s in
    let b = f ∙ ap (λ (x : List ℕ). length (first_piece 39 false x)) e in
    le-ltb (at + length (body_at s at)) (length s) (omega arith)

module _ (s reference : List ℕ) where
  -- no room for a row
  stretch_none : (k : ℕ) (st : State) (at : ℕ) → k ≡ 0 → stretch_on k s reference st at ≡ halted st at accepted
  unfolding stretch_on
  stretch_none k st at e = rw e

  module _ (k : ℕ) (st : State) (at : ℕ) where
    abbrev turn : Result Turn Refusal
    turn = turn_with tables s reference reference st at (segment_at s at)

    stretch_on_lem : (next : State) (r : Row) (then : ℕ) → turn ≡ goes_on next r then
        → stretch_on (suc k) s reference st at ≡ ahead r (pick (same_phase st.phase next.phase) (stretch_on k s reference next then) (halted next then accepted))
    unfolding stretch_on
    stretch_on_lem next r then q =
        let w = with_end tables s reference reference st at next r then q in
        ap (λ (b : Bool). pick b (stretch_turn (stretch_on k s reference) st at turn) (halted st at accepted)) (ended_whole s at w.0 w.1)
        ∙ ap (stretch_turn (stretch_on k s reference) st at) q

    stretch_same : (next : State) (r : Row) (then : ℕ) → turn ≡ goes_on next r then → same_phase st.phase next.phase ≡ true
        → stretch_on (suc k) s reference st at ≡ ahead r (stretch_on k s reference next then)
    stretch_same next r then q p =
        stretch_on_lem next r then q
        ∙ ap (λ (b : Bool). ahead r (pick b (stretch_on k s reference next then) (halted next then accepted))) p

    stretch_other : (next : State) (r : Row) (then : ℕ) → turn ≡ goes_on next r then → same_phase st.phase next.phase ≡ false
        → stretch_on (suc k) s reference st at ≡ ahead r (halted next then accepted)
    stretch_other next r then q p =
        stretch_on_lem next r then q
        ∙ ap (λ (b : Bool). ahead r (pick b (stretch_on k s reference next then) (halted next then accepted))) p

    stretch_stop : (x : Refusal) → turn ≡ Err x → stretch_on (suc k) s reference st at ≡ halted st at (pick (is_ended s at) (refused x) accepted)
    unfolding stretch_on
    stretch_stop x q =
        ap (λ (y : Result Turn Refusal). pick (is_ended s at) (stretch_turn (stretch_on k s reference) st at y) (halted st at accepted)) q
        ∙ choose (is_ended s at) (λ e. rw e) (λ e. rw e)

  -- the segments of a message
  stretch_passes : (k : ℕ) {st last : State} {at end : ℕ} {rs : List Row} → Passes s st at rs last end
      → stretch_on (k + length rs) s reference st at ≡ aheads rs (stretch_on k s reference last end)
  stretch_passes k (none {st = st} {at = at}) =
      let z : k + 0 ≡ k = omega arith in
      ap (λ (x : ℕ). stretch_on x s reference st at) z
  stretch_passes k (more {st = st} {next = next} {at = at} {e = e} {group = group} {tag = tag} {rs = rs} i p) =
      let z : k + suc (length rs) ≡ suc (k + length rs) = omega arith in
      let q = ap (turn_with tables s reference reference st at) i.whole ∙ ap (turn_step (e + 1)) (i.step at reference reference) in
      ap (λ (x : ℕ). stretch_on x s reference st at) z
      ∙ stretch_same (k + length rs) st at next (row_with at group tag) (e + 1) q (same_inside st.phase next.phase i.from i.to)
      ∙ ap (ahead (row_with at group tag)) (stretch_passes k p)

-- what is told of a stretch, and what the room holds then
abbrev pub Reached : Stretched → List ℕ → State → ℕ → ℕ → Verdict → List ℕ → Type 0
Reached x lent st at n v room = ((st ≡ x.state) × (at ≡ x.at) × (n ≡ 3 * length x.rows) × (v ≡ x.verdict)) × (room ≡ put_at lent 0 (numbers x.rows))

-- the rows gathered so far, and what is left with room for so many more, are the whole
pub record Rest (s reference : List ℕ) (w : Stretched) (lent : List ℕ) (st : State) (at n : ℕ) (room : List ℕ) : Type 0 where
  pub free : ℕ
  pub rows : List Row
  pub enough : 3 * free + n ≡ room_size
  pub count : n ≡ 3 * length rows
  pub whole : aheads rows (stretch_on free s reference st at) ≡ w
  pub put : room ≡ put_at lent 0 (numbers rows)

pub rest_start : (s reference : List ℕ) (st : State) (lent : List ℕ) → Rest s reference (stretch_on room_rows s reference st 0) lent st 0 0 lent
unfolding numbers
rest_start s reference st lent = record { free = room_rows; rows = []; enough = omega arith; count = omega arith; whole = refl; put = sym (put_none lent 0) }

pub rest_as : (s reference : List ℕ) (w : Stretched) (lent : List ℕ) {st st₁ : State} {at n : ℕ} {room : List ℕ} → st₁ ≡ st → Rest s reference w lent st at n room
    → Rest s reference w lent st₁ at n room
rest_as s reference w lent e v = rw e v

-- the end
reached : (w : Stretched) (lent : List ℕ) (rows : List Row) (st : State) (at n : ℕ) (v : Verdict) (room : List ℕ) → aheads rows (halted st at v) ≡ w
    → n ≡ 3 * length rows → room ≡ put_at lent 0 (numbers rows) → Reached w lent st at n v room
reached w lent rows st at n v room e c b =
    let r : rows ≡ w.rows = sym (append-nil rows) ∙ ap (λ (x : Stretched). x.rows) e in (
      (ap (λ (x : Stretched). x.state) e, ap (λ (x : Stretched). x.at) e, c ∙ ap (λ (l : List Row). 3 * length l) r, ap (λ (x : Stretched). x.verdict) e),
      b ∙ ap (λ (l : List Row). put_at lent 0 (numbers l)) r,
    )

pub reached_as : (w : Stretched) (lent : List ℕ) {st st₁ : State} {at at₁ n n₁ : ℕ} {v v₁ : Verdict} {room : List ℕ} → st₁ ≡ st → at₁ ≡ at → n₁ ≡ n → v₁ ≡ v
    → Reached w lent st at n v room → Reached w lent st₁ at₁ n₁ v₁ room
reached_as w lent e f g h r = ((e ∙ r.0.0, f ∙ r.0.1, g ∙ r.0.2, h ∙ r.0.3), r.1)

module _ (s reference : List ℕ) (w : Stretched) (lent : List ℕ) (size : length lent ≡ room_size) (st : State) (at n : ℕ) (room : List ℕ)
    (v : Rest s reference w lent st at n room) where
  pub rest_size : length room ≡ room_size
  rest_size = ap length v.put ∙ length_put lent 0 (numbers v.rows) ∙ size

  pub rest_full : full_from ≤ n → Reached w lent st at n accepted room
  rest_full h =
      let a = v.enough in
      reached w lent v.rows st at n accepted room
      (ap (aheads v.rows) (sym (stretch_none s reference v.free st at (omega arith))) ∙ v.whole) v.count v.put

  -- segments of a message passed
  pub rest_passed : {st₁ : State} {at₁ n₁ : ℕ} {room₁ : List ℕ} → Passed s st at n room st₁ at₁ n₁ room₁ → Rest s reference w lent st₁ at₁ n₁ room₁
  rest_passed {st₁} {at₁} {n₁} {room₁} m =
      let k = v.free - length m.rows in
      let a = v.enough in
      let b = v.count in
      let c = m.count in
      let f = m.fits in
      let g = rest_size in
      let z : v.free ≡ k + length m.rows = omega arith in
      let l = length-append v.rows m.rows in
      let x = length_numbers v.rows in
      let y = length_numbers m.rows in
      record {
        free = k;
        rows = v.rows ++ m.rows;
        enough = omega arith;
        count = omega arith;
        whole =
            sym (aheads_both v.rows m.rows (stretch_on k s reference st₁ at₁))
            ∙ ap (aheads v.rows) (sym (stretch_passes s reference k m.chain) ∙ ap (λ (j : ℕ). stretch_on j s reference st at) (sym z))
            ∙ v.whole;
        put =
            m.put
            ∙ ap (λ (j : List ℕ). put_at j n (numbers m.rows)) v.put
            ∙ put_put lent 0 (numbers v.rows) n (numbers m.rows) (omega arith) (omega arith)
            ∙ ap (put_at lent 0) (sym (numbers_append v.rows m.rows));
      }

  -- one turn
  module _ (h : n < full_from) where
    one_more : v.free ≡ suc (v.free - 1)
    one_more = let a = v.enough in omega arith

    abbrev again : (x : Stretched) → stretch_on (suc (v.free - 1)) s reference st at ≡ x → aheads v.rows x ≡ w
    again x e = ap (aheads v.rows) (sym (ap (λ (j : ℕ). stretch_on j s reference st at) one_more ∙ e)) ∙ v.whole

    pub rest_stop : (x : Refusal) → turn_with tables s reference reference st at (segment_at s at) ≡ Err x → Reached w lent st at n (pick (is_ended s at) (refused x) accepted) room
    rest_stop x q =
        reached w lent v.rows st at n (pick (is_ended s at) (refused x) accepted) room
        (again (halted st at (pick (is_ended s at) (refused x) accepted)) (stretch_stop s reference (v.free - 1) st at x q)) v.count v.put

    module _ (next : State) (r : Row) (then : ℕ) (q : turn_with tables s reference reference st at (segment_at s at) ≡ goes_on next r then) (put : List ℕ) (b : put ≡ put_row room n r) where
      put_behind : put ≡ put_at lent 0 (numbers (v.rows ++ (r ∷ [])))
      put_behind =
          let c = v.count in
          b ∙ ap (λ (x : List ℕ). put_row x n r) v.put ∙ put_row_behind lent 0 n v.rows r (omega arith) (omega arith)

      more_rows : n + 3 ≡ 3 * length (v.rows ++ (r ∷ []))
      more_rows =
          let c = v.count in
          let l = length-append v.rows (r ∷ []) in
          omega arith

      pub rest_on : same_phase st.phase next.phase ≡ true → Rest s reference w lent next then (n + 3) put
      rest_on p =
          let a = v.enough in
          record {
            free = v.free - 1;
            rows = v.rows ++ (r ∷ []);
            enough = omega arith;
            count = more_rows;
            whole =
                sym (aheads_on v.rows r (stretch_on (v.free - 1) s reference next then))
                ∙ again (ahead r (stretch_on (v.free - 1) s reference next then)) (stretch_same s reference (v.free - 1) st at next r then q p);
            put = put_behind;
          }

      pub rest_other : same_phase st.phase next.phase ≡ false → Reached w lent next then (n + 3) accepted put
      rest_other p =
          reached w lent (v.rows ++ (r ∷ [])) next then (n + 3) accepted put
          (sym (aheads_on v.rows r (halted next then accepted))
          ∙ again (ahead r (halted next then accepted)) (stretch_other s reference (v.free - 1) st at next r then q p))
          more_rows put_behind

pub reached_same : (w x : Stretched) (lent : List ℕ) {st : State} {at n : ℕ} {v : Verdict} {room : List ℕ} → w ≡ x → Reached w lent st at n v room → Reached x lent st at n v room
reached_same w x lent {st} {at} {n} {v} {room} e r = subst (λ (y : Stretched). Reached y lent st at n v room) e r

-- of another room, or of too many bytes, nothing is read
unread : (s reference : List ℕ) (st : State) (lent : List ℕ) → both (eqb (length lent) room_size) (ltb (length s) 60001) ≡ false
    → Reached (stretch_of s reference st (length lent)) lent st 0 0 accepted lent
unfolding stretch_of stretch_on numbers
unread s reference st lent e = rw e ((refl, refl, refl, refl), sym (put_none lent 0))

pub other_room : (s reference : List ℕ) (st : State) (lent : List ℕ) → (length lent ≡ room_size → ⊥) → Reached (stretch_of s reference st (length lent)) lent st 0 0 accepted lent
other_room s reference st lent h = unread s reference st lent (rw (ne_eqb (length lent) room_size h))

pub many_bytes : (s reference : List ℕ) (st : State) (lent : List ℕ) → 60000 < length s → Reached (stretch_of s reference st (length lent)) lent st 0 0 accepted lent
many_bytes s reference st lent h = unread s reference st lent (rw (le-ltb (length s) 60001 (omega arith)) (both_false (eqb (length lent) room_size)))

pub stretch_whole : (s reference : List ℕ) (st : State) (n : ℕ) → n ≡ room_size → length s ≤ 60000 → stretch_on room_rows s reference st 0 ≡ stretch_of s reference st n
unfolding stretch_of
stretch_whole s reference st n e h = rw (eq-eqb n room_size e, lt-ltb (length s) 60001 (omega arith))
