-- What an accepted reading says of a service: its number has permitted characters only, and its days are a calendar.
-- Assumes nothing.
use Prim.Native.Nat.{ℕ, zero, suc, ◌+◌, ◌*◌, ◌/◌, ◌<◌}
use Rattle.std.specs.Prelude.{◌≡◌, Bool, true, false, List, [], ◌∷◌, map, ltb, length, get_or, replicate, Result, Ok, Err}
use Rattle.std.proofs.Math.Path.{refl}
use Rattle.std.proofs.Common.{sym, ap, ◌∙◌, subst, arith, lit≤, lt-ltb, eq-eqb}
use Rattle.std.proofs.lemmas.List.{length-replicate}
use Rattle.laws.specs.Choice.{all, choose, both_parts}
use Rattle.syntax.specs.Bytes.{permitted_of, stands, releases, plain_on}
use Rattle.syntax.specs.Pieces.{first_piece, later_pieces, join_piece, pieces, nth, part_of}
use Rattle.syntax.specs.Segment.{body_at, scan_of, segment_at}
use Rattle.syntax.specs.declared.segment.ScanError.{ScanError}
use Rattle.syntax.specs.declared.segment.ScanError.TheVariants.{NotPermitted, Unended, Malformed}
use Rattle.answers.specs.Answers.{Answer, done, refused}
use Rattle.placing.specs.Tables.{tables}
use Rattle.steps.specs.declared.state.State.{State}
use Rattle.steps.specs.declared.state.Row.{Row}
use Rattle.steps.specs.Step.{Taken, taken, segment_step}
use Rattle.steps.specs.State.{opening_state}
use Rattle.interchange.specs.Reader.{is_closed, dialogue_of, headed_reference, turn_step, turn_scan, turn_at, after_turn, read_on, wrong_size, reading_of, numbers}
use Rattle.interchange.specs.Offsets.{turn_on}
use Rattle.interchange.specs.Turns.{turn_is}
use Rattle.interchange.specs.Laws.{length_numbers}
use Rattle.services.specs.Rows.{offset_at}
use Rattle.services.specs.Services.{service_at}
use Rattle.services.specs.Laws.{number_part}
use Rattle.joining.specs.Joined.{days_joined, join_all}
use Rattle.joining.specs.Bytes.{AreBytes, joined_bytes}
use Rattle.joining.specs.Union.{length_joined}
use Rattle.contents.specs.Contents.{is_calendar}
use Rattle.stages.specs.Stage.{number_in, days_of}

-- ---- a part of permitted bytes has permitted bytes

abbrev Permitted : List ℕ → Type 0
Permitted l = all permitted_of l ≡ true

abbrev AllPermitted : List (List ℕ) → Type 0
AllPermitted [] = Unit {0}
AllPermitted (p ∷ ps) = Permitted p × AllPermitted ps

more : (b : ℕ) (l : List ℕ) → permitted_of b ≡ true → Permitted l → Permitted (b ∷ l)
more b l p q = rw p q

first_permitted : (c : ℕ) (r : Bool) (l : List ℕ) → Permitted l → Permitted (first_piece c r l)
unfolding first_piece
first_permitted c r [] q = refl
first_permitted c r (b ∷ l) q =
    let w = both_parts (permitted_of b) (all permitted_of l) q in
    choose (stands c r b) (λ p. rw p) (λ p. rw p (more b (first_piece c (releases r b) l) w.0 (first_permitted c (releases r b) l w.1)))

joined_permitted : (b : Bool) (p : List ℕ) (ps : List (List ℕ)) → Permitted p → AllPermitted ps → AllPermitted (join_piece b p ps)
joined_permitted true p ps h k = (h, k)
joined_permitted false p ps h k = k

later_permitted : (c : ℕ) (r : Bool) (l : List ℕ) → Permitted l → AllPermitted (later_pieces c r l)
unfolding later_pieces
later_permitted c r [] q = tt
later_permitted c r (b ∷ l) q =
    let w = both_parts (permitted_of b) (all permitted_of l) q in
    joined_permitted (stands c r b) (first_piece c false l) (later_pieces c (releases r b) l) (first_permitted c false l w.1) (later_permitted c (releases r b) l w.1)

pieces_permitted : (c : ℕ) (l : List ℕ) → Permitted l → AllPermitted (pieces c l)
pieces_permitted c l q = (first_permitted c false l q, later_permitted c false l q)

get_or_permitted : (ps : List (List ℕ)) (n : ℕ) → AllPermitted ps → Permitted (get_or ps n [])
get_or_permitted [] n h = refl
get_or_permitted (p ∷ ps) zero h = h.0
get_or_permitted (p ∷ ps) (suc n) h = get_or_permitted ps n h.1

nth_permitted : (ps : List (List ℕ)) (n : ℕ) → AllPermitted ps → Permitted (nth ps n)
nth_permitted ps zero h = refl
nth_permitted ps (suc n) h = get_or_permitted ps n h

pub part_permitted : (g : List ℕ) (e o c : ℕ) → Permitted g → Permitted (part_of g e o c)
unfolding part_of
part_permitted g e o c q =
    let h = nth_permitted (later_pieces 43 false g) e (later_permitted 43 false g q) in
    let k = nth_permitted (pieces 42 (nth (later_pieces 43 false g) e)) o (pieces_permitted 42 (nth (later_pieces 43 false g) e) h) in
    nth_permitted (pieces 58 (nth (pieces 42 (nth (later_pieces 43 false g) e)) o)) c
    (pieces_permitted 58 (nth (pieces 42 (nth (later_pieces 43 false g) e)) o) k)

pub plain_permitted : (r : Bool) (l : List ℕ) → Permitted l → Permitted (plain_on r l)
unfolding plain_on
plain_permitted r [] q = refl
plain_permitted true (b ∷ l) q =
    let w = both_parts (permitted_of b) (all permitted_of l) q in
    more b (plain_on false l) w.0 (plain_permitted false l w.1)
plain_permitted false (b ∷ l) q =
    let w = both_parts (permitted_of b) (all permitted_of l) q in
    choose (stands 63 false b)
    (λ p. rw p (plain_permitted true l w.1))
    (λ p. rw p (more b (plain_on false l) w.0 (plain_permitted false l w.1)))

-- ---- the days of a service are a calendar

bytes_all : (c : List ℕ) → AreBytes c → all (λ b. ltb b 256) c ≡ true
bytes_all [] h = refl
bytes_all (b ∷ c) h = rw (lt-ltb b 256 (h 0)) (bytes_all c (λ i. h (suc i)))

join_bytes : (wish : Bool) (gs : List (List ℕ)) (c : List ℕ) (o : ℕ) → AreBytes c → AreBytes (join_all wish c o gs)
unfolding join_all
join_bytes wish [] c o h = h
join_bytes wish (g ∷ gs) c o h = join_bytes wish gs (days_joined wish c o g) o (joined_bytes wish c o g h)

pub join_length : (wish : Bool) (gs : List (List ℕ)) (c : List ℕ) (o : ℕ) → length (join_all wish c o gs) ≡ length c
unfolding join_all
join_length wish [] c o = refl
join_length wish (g ∷ gs) c o = join_length wish gs (days_joined wish c o g) o ∙ length_joined wish c o g

zeros_bytes : (n : ℕ) → AreBytes (replicate n 0)
zeros_bytes zero i = lit≤ tt
zeros_bytes (suc n) zero = lit≤ tt
zeros_bytes (suc n) (suc i) = zeros_bytes n i

pub days_length : (wish : Bool) (start : ℕ) (s at : List ℕ) → length (days_of wish start s at) ≡ 64
unfolding days_of
days_length wish start s at = join_length wish (map (body_at s) at) (replicate 64 0) start ∙ length-replicate {A = ℕ} 64 0

pub days_calendar : (wish : Bool) (start : ℕ) (s at : List ℕ) → is_calendar (days_of wish start s at) ≡ true
unfolding is_calendar
days_calendar wish start s at =
    rw (eq-eqb (length (days_of wish start s at)) 64 (days_length wish start s at))
    (bytes_all (days_of wish start s at) (unfold days_of in join_bytes wish (map (body_at s) at) (replicate 64 0) start (zeros_bytes 64)))

-- ---- the segments of a reading have permitted bytes

abbrev Read : List ℕ → List Row → Type 0
Read s [] = Unit {0}
Read s (r ∷ rows) = Permitted (body_at s r.offset) × Read s rows

end≢not : {i e : ℕ} → Err (NotPermitted i) ≡ Ok e → ⊥
end≢not q = let z : ◌≡◌ {A = ℕ} 0 1 = cc in omega arith

end_permitted : (s : List ℕ) (at e : ℕ) → segment_at s at ≡ Ok e → Permitted (body_at s at)
unfolding scan_of
end_permitted s at e q = choose (all permitted_of (body_at s at)) (λ p. p) (λ p. absurd (end≢not (rw p at q)))

module _ (s : List ℕ) where
  module _ (f : ℕ) (ih : (st : State) (at : ℕ) → Read s (read_on f s st at).rows) (from : State) (at : ℕ) where
    abbrev step : Answer Taken
    step = segment_step tables from at (body_at s at) (dialogue_of s from) (headed_reference s from)

    stepped : (e : ℕ) → segment_at s at ≡ Ok e → (y : Answer Taken) → step ≡ y → Read s (after_turn (read_on f s) (turn_step (e + 1) y)).rows
    stepped e h (done (taken st r)) q =
        let o = (turn_on tables s from at st r (e + 1) (sym (turn_is tables s from at (Ok e) h) ∙ ap (turn_step (e + 1)) q)).0 in
        (subst (λ (k : ℕ). Permitted (body_at s k)) (sym o) (end_permitted s at e h), ih st (e + 1))
    stepped e h (refused refusal) q = tt

    scanned : (x : Result ℕ ScanError) → segment_at s at ≡ x → Read s (after_turn (read_on f s) (turn_scan tables s from at x)).rows
    scanned (Ok e) h = stepped e h step refl
    scanned (Err error) h = tt

    turned : Read s (after_turn (read_on f s) (turn_at tables s from at)).rows
    unfolding turn_at
    turned = scanned (segment_at s at) refl

  read_on_lem : (f : ℕ) (st : State) (at : ℕ) → Read s (read_on f s st at).rows
  unfolding read_on
  read_on_lem zero st at = tt
  read_on_lem (suc f) st at =
      choose (ltb at (length s))
      (λ p.
      choose (is_closed st.phase) (λ q. rw (p, q) tt)
      (λ q. rw (p, q) (turned f (read_on_lem f) st at)))
      (λ p. choose (is_closed st.phase) (λ q. rw (p, q) tt) (λ q. rw (p, q) tt))

  reading : (wish : Bool) → Read s (reading_of wish s).rows
  unfolding reading_of
  reading wish = choose (wrong_size s) (λ p. rw p tt) (λ p. rw p (read_on_lem (length s + 1) (opening_state wish) 0))

read_at : (s : List ℕ) (rows : List Row) (i : ℕ) → Read s rows → i < length rows → Permitted (body_at s (get_or (numbers rows) (3 * i) 0))
unfolding numbers
read_at s [] i h k = absurd (omega arith)
read_at s (r ∷ rows) zero h k = h.0
read_at s (r ∷ rows) (suc i) h k =
    let a : 3 * suc i ≡ suc (suc (suc (3 * i))) = omega arith in
    rw a (read_at s rows i h.1 (omega arith))

-- the number of a service of a reading
pub number_permitted : (wish : Bool) (s : List ℕ) (n i : ℕ) → i < length (reading_of wish s).rows
    → all permitted_of (number_in s (service_at s (numbers (reading_of wish s).rows) n i)) ≡ true
unfolding service_at offset_at
number_permitted wish s n i h =
    let l = length_numbers (reading_of wish s).rows in
    let rows = numbers (reading_of wish s).rows in
    rw (lt-ltb i (length rows / 3) (omega arith), number_part s (get_or rows (3 * i) 0))
    (plain_permitted false (part_of (body_at s (get_or rows (3 * i) 0)) 1 1 1)
    (part_permitted (body_at s (get_or rows (3 * i) 0)) 1 1 1 (read_at s (reading_of wish s).rows i (reading s wish) h)))
