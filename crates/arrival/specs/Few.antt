-- Rows are few: a segment that brings one has four bytes at least, with its terminator.
-- Assumes nothing.
use Rattle.std.specs.Prelude.{◌≡◌, refl, Bool, true, false, List, [], ◌∷◌, ◌++◌, ℕ, ◌+◌, ◌*◌, ◌≤◌, ltb, leb, length}
use Rattle.std.proofs.Common.{arith, length-append, lt-ltb, ltb-true}
use Rattle.laws.specs.Choice.{pick, all, choose}
use Rattle.answers.specs.Laws.{refused≢done}
use Rattle.answers.specs.Answers.{Answer, done, refused, bad_size, wrong_envelope, segment_too_long}
use Rattle.syntax.specs.Bytes.{terminator, permitted_of, stands}
use Rattle.syntax.specs.Segment.{well_formed, body_answer}
use Rattle.syntax.specs.Ends.{end_within}
use Rattle.steps.specs.Step.{Taken, taken, segment_step}
use Rattle.placing.specs.Tables.{tables}
use Rattle.interchange.specs.Reader.{is_closed}
use Rattle.arrival.specs.Passing.{scan_end}
use Rattle.arrival.specs.Arrived.{Final, awaited, given, Stand, Brought, only, answered, longer, arrived_bytes, arrived_step, arrived_scan, arrived_segment, ending, awaited_byte, byte_by, byte_of, arrived_on}

-- the rows that some bytes bring and the bytes that are kept then take no more than n
abbrev Room : ℕ → Brought → Type 0
Room n b = 4 * length b.rows + length b.stand.body ≤ n

picked : (n : ℕ) (p : Bool) (a b : Brought) → (p ≡ true → Room n a) → (p ≡ false → Room n b) → Room n (pick p a b)
picked n true a b t f = t refl
picked n false a b t f = f refl

step_room : (x : Stand) (g : List ℕ) (n : ℕ) → 4 ≤ n → (a : Answer Taken) → Room n (arrived_step x g a)
step_room x g n h (done (taken st r)) = omega arith
step_room x g n h (refused refusal) = omega arith

scan_room : (x : Stand) (g : List ℕ) (n : ℕ) (a : Answer ℕ) → ((e : ℕ) → a ≡ done e → 4 ≤ n) → Room n (arrived_scan x g a)
scan_room x g n (done e) h = step_room x g n (h e refl) (segment_step tables x.state x.offset g x.dialogue x.reference)
scan_room x g n (refused refusal) h = omega arith

-- what an answer without a fault tells
answer_told : (n at : ℕ) (g : List ℕ) (e : ℕ) → body_answer n at g ≡ done e → (all permitted_of g ≡ true) × (ltb (at + length g) n ≡ true) × (well_formed g ≡ true)
unfolding body_answer
answer_told n at g e q =
    choose (all permitted_of g)
    (λ p.
    choose (ltb (at + length g) n)
    (λ i. choose (well_formed g) (λ w. (p, i, w)) (λ w. absurd (refused≢done (rw (p, i, w) at q))))
    (λ i. absurd (refused≢done (rw (p, i) at q))))
    (λ p. absurd (refused≢done (rw p at q)))

-- "a tag of three capital letters" before the terminator
segment_long : (x : Stand) (e : ℕ) → body_answer (arrived_bytes x + 1) x.offset (ending x) ≡ done e → 4 ≤ length x.body + 1
segment_long x e q =
    let s = x.body ++ (terminator ∷ []) in
    let w = answer_told (arrived_bytes x + 1) x.offset (ending x) e q in
    let n = length-append x.body (terminator ∷ []) in
    let i = ltb-true (x.offset + length (ending x)) (arrived_bytes x + 1) w.1 in
    let l = end_within s 0 (0 + length (ending x)) (scan_end (ending x) 0 (length s) w.0 (lt-ltb (0 + length (ending x)) (length s) (omega arith)) w.2) in
    let j = l.0 in
    let k = l.1 in
    omega arith

awaited_room : (x : Stand) (b : ℕ) → Room (length x.body + 1) (awaited_byte x b)
unfolding awaited_byte
awaited_room x b =
    let n = length x.body + 1 in
    let o = length-append x.body (b ∷ []) in
    let size = only (answered x bad_size) in
    let over = only (answered x (wrong_envelope x.offset)) in
    let long = only (answered x (segment_too_long x.offset)) in
    let last = pick (stands terminator x.released b) (arrived_segment x (ending x)) (only (longer x b)) in
    picked n (leb 60000 (arrived_bytes x)) size (pick (is_closed x.state.phase) over (pick (leb 4096 (length x.body)) long last)) (λ q. omega arith)
    (λ q. picked n (is_closed x.state.phase) over (pick (leb 4096 (length x.body)) long last) (λ r. omega arith)
    (λ r. picked n (leb 4096 (length x.body)) long last (λ t. omega arith)
    (λ t. picked n (stands terminator x.released b) (arrived_segment x (ending x)) (only (longer x b))
    (λ u. scan_room x (ending x) n (body_answer (arrived_bytes x + 1) x.offset (ending x)) (λ e v. segment_long x e v))
    (λ u. omega arith))))

byte_room : (x : Stand) (b : ℕ) → Room (length x.body + 1) (byte_of x b)
byte_room x b = by_final x.final
  where
    by_final : (f : Final) → Room (length x.body + 1) (byte_by f x b)
    by_final awaited = awaited_room x b
    by_final (given a) = omega arith

pub rows_few : (x : Stand) (l : List ℕ) → 4 * length (arrived_on x l).rows ≤ length x.body + length l
unfolding arrived_on
rows_few x [] = omega arith
rows_few x (b ∷ l) =
    let h = byte_room x b in
    let k = rows_few (byte_of x b).stand l in
    let n = length-append (byte_of x b).rows (arrived_on (byte_of x b).stand l).rows in
    omega arith
