-- Some segments of a message, one after the other, and their rows in a room.
-- Assumes nothing.
use Rattle.std.specs.Prelude.{◌≡◌, List, [], ◌∷◌, ◌++◌, ℕ, suc, ◌+◌, ◌*◌, ◌≤◌, ◌<◌, length, Ok}
use Rattle.std.proofs.Common.{sym, ap, ◌∙◌, arith, length-append}
use Rattle.laws.specs.Put.{put_at, put_none, put_put, length_put}
use Rattle.answers.specs.Answers.{done}
use Rattle.syntax.specs.Segment.{body_at, segment_at}
use Rattle.syntax.specs.Ends.{end_within}
use Rattle.placing.specs.Tables.{tables}
use Rattle.steps.specs.declared.state.Phase.TheVariants.{Inside}
use Rattle.steps.specs.declared.state.State.{State}
use Rattle.steps.specs.declared.state.Row.{Row}
use Rattle.steps.specs.Step.{taken, segment_step}
use Rattle.interchange.specs.Reader.{is_closed, dialogue_of, headed_reference, turn_step, turn_at, numbers, row_numbers, goes_on}
use Rattle.interchange.specs.Laws.{put_row, length_put_row, put_row_is, numbers_append, length_numbers}
use Rattle.interchange.specs.Turns.{turn_is}
use Rattle.interchange.specs.Moves.{Moved, moved_none, moved_turn, moved_both}

abbrev pub row_with : ℕ → ℕ → ℕ → Row
row_with at group tag = record { offset = at; group = group; tag = tag }

-- a whole segment of a message, and not its last: its step is the same wherever it stands and whatever references are lent
pub record Inner (s : List ℕ) (st : State) (at : ℕ) (next : State) (group tag e : ℕ) : Type 0 where
  pub from : st.phase ≡ Inside
  pub to : next.phase ≡ Inside
  pub whole : segment_at s at ≡ Ok e
  pub step : (offset : ℕ) (dialogue reference : List ℕ) → segment_step tables st offset (body_at s at) dialogue reference ≡ done (taken next (row_with offset group tag))

-- some of them, from a state and an offset to another state and offset, and their rows
pub data Passes (s : List ℕ) : State → ℕ → List Row → State → ℕ → Type 0 where
  none : {st : State} {at : ℕ} → Passes s st at [] st at
  more : {st next last : State} {at e end group tag : ℕ} {rs : List Row} → Inner s st at next group tag e → Passes s next (e + 1) rs last end
      → Passes s st at (row_with at group tag ∷ rs) last end

-- one more behind them
pub passes_on : (s : List ℕ) {st mid last : State} {at then group tag e : ℕ} {rs : List Row} → Passes s st at rs mid then → Inner s mid then last group tag e
    → Passes s st at (rs ++ (row_with then group tag ∷ [])) last (e + 1)
passes_on s none i = more i none
passes_on s (more a c) i = more a (passes_on s c i)

-- the same with so many numbers gathered before, three more a segment, which have their place in the room
pub record Passed (s : List ℕ) (st : State) (at n : ℕ) (room : List ℕ) (st₁ : State) (at₁ n₁ : ℕ) (room₁ : List ℕ) : Type 0 where
  pub rows : List Row
  pub chain : Passes s st at rows st₁ at₁
  pub count : n₁ ≡ n + 3 * length rows
  pub put : room₁ ≡ put_at room n (numbers rows)
  pub fits : n₁ ≤ length room

pub passed_none : (s : List ℕ) (st : State) (at n : ℕ) (room : List ℕ) → n ≤ length room → Passed s st at n room st at n room
unfolding numbers
passed_none s st at n room h = record { rows = []; chain = none; count = omega arith; put = sym (put_none room n); fits = h }

pub passed_as : (s : List ℕ) {st st₁ st₂ : State} {at n at₁ n₁ : ℕ} {room room₁ room₂ : List ℕ} → st₂ ≡ st₁ → room₂ ≡ room₁
    → Passed s st at n room st₁ at₁ n₁ room₁ → Passed s st at n room st₂ at₁ n₁ room₂
passed_as s e f m = rw (e, f) m

pub passed_sized : (s : List ℕ) {st st₁ : State} {at n at₁ n₁ : ℕ} {room room₁ : List ℕ} → Passed s st at n room st₁ at₁ n₁ room₁ → length room₁ ≡ length room
passed_sized s {n = n} {room = room} m = ap length m.put ∙ length_put room n (numbers m.rows)

-- rows put one behind the other are all put at once
pub put_row_behind : (room : List ℕ) (n k : ℕ) (rs : List Row) (r : Row) → k ≡ n + 3 * length rs → k + 2 < length room
    → put_row (put_at room n (numbers rs)) k r ≡ put_at room n (numbers (rs ++ (r ∷ [])))
unfolding numbers
put_row_behind room n k rs r e h =
    let l = length_put room n (numbers rs) in
    let m = length_numbers rs in
    put_row_is (put_at room n (numbers rs)) k r (omega arith)
    ∙ put_put room n (numbers rs) k (row_numbers r) (omega arith) (omega arith)
    ∙ ap (put_at room n) (sym (numbers_append rs (r ∷ [])))

put_row_first : (room : List ℕ) (n : ℕ) (r : Row) (rs : List Row) → n + 3 * suc (length rs) ≤ length room
    → put_at room n (numbers (r ∷ rs)) ≡ put_at (put_row room n r) (n + 3) (numbers rs)
unfolding numbers
put_row_first room n r rs h =
    let m = length_numbers rs in
    sym (ap (λ (x : List ℕ). put_at x (n + 3) (numbers rs)) (put_row_is room n r (omega arith))
    ∙ put_put room n (row_numbers r) (n + 3) (numbers rs) (omega arith) (omega arith))

pub passed_more : (s : List ℕ) {st mid last : State} {at n then k group tag e : ℕ} {room room₁ : List ℕ} → Passed s st at n room mid then k room₁
    → Inner s mid then last group tag e → k + 2 < length room₁ → (put : List ℕ) → put ≡ put_row room₁ k (row_with then group tag)
    → Passed s st at n room last (e + 1) (k + 3) put
passed_more s {n = n} {then = then} {k = k} {group = group} {tag = tag} {room = room} m i h put b =
    let r = row_with then group tag in
    let l = passed_sized s m in
    let c = m.count in
    let a = length-append m.rows (r ∷ []) in
    record {
      rows = m.rows ++ (r ∷ []);
      chain = passes_on s m.chain i;
      count = omega arith;
      put = b ∙ ap (λ (x : List ℕ). put_row x k r) m.put ∙ put_row_behind room n k m.rows r c (omega arith);
      fits = omega arith;
    }

-- the turn of such a segment
turn_inner : (s : List ℕ) {st next : State} {at group tag e : ℕ} → Inner s st at next group tag e → turn_at tables s st at ≡ goes_on next (row_with at group tag) (e + 1)
turn_inner s {st = st} {at = at} {e = e} i =
    sym (turn_is tables s st at (Ok e) i.whole)
    ∙ ap (turn_step (e + 1)) (i.step at (dialogue_of s st) (headed_reference s st))

passes_moved : (s : List ℕ) {st last : State} {at end : ℕ} {rs : List Row} → Passes s st at rs last end → (n k : ℕ) (room put : List ℕ) → k ≡ n + 3 * length rs
    → put ≡ put_at room n (numbers rs) → k ≤ length room → Moved s st at n room last end k put
unfolding numbers
passes_moved s (none {st = st} {at = at}) n k room put c b h =
    let e : k ≡ n = omega arith in
    let f : put ≡ room = b ∙ put_none room n in
    rw (e, f) (moved_none s st at n room)
passes_moved s (more {st = st} {next = next} {at = at} {e = e} {group = group} {tag = tag} {rs = rs} i p) n k room put c b h =
    let r = row_with at group tag in
    let w = end_within s at e i.whole in
    let l = length_put_row room n r in
    moved_both s
    (moved_turn s st at n room next r (e + 1) (ap is_closed i.from) (omega arith) (turn_inner s i) (omega arith))
    (passes_moved s p (n + 3) k (put_row room n r) put (omega arith) (b ∙ put_row_first room n r rs (omega arith)) (omega arith))

pub passed_moved : (s : List ℕ) {st st₁ : State} {at n at₁ n₁ : ℕ} {room room₁ : List ℕ} → Passed s st at n room st₁ at₁ n₁ room₁ → Moved s st at n room st₁ at₁ n₁ room₁
passed_moved s {n = n} {n₁ = n₁} {room = room} {room₁ = room₁} m = passes_moved s m.chain n n₁ room room₁ m.count m.put m.fits
