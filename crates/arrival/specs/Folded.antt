-- Bytes one after the other: what some bytes bring, and then others; a final answer stays; the bytes of a segment up to its terminator.
-- Assumes nothing.
use Rattle.std.specs.Prelude.{◌≡◌, refl, Bool, true, false, List, [], ◌∷◌, ◌++◌, ℕ, ◌+◌, ◌≤◌, ◌<◌, length}
use Rattle.std.proofs.Common.{sym, ◌∙◌, append_assoc, append-nil, arith, length-append}
use Rattle.std.proofs.Math.Path.{ap}
use borrow.Author.Tests.{lt-leb}
use Rattle.laws.specs.Choice.{either, choose}
use Rattle.answers.specs.Answers.{Answer}
use Rattle.syntax.specs.Bytes.{terminator, releases, stands}
use Rattle.syntax.specs.Pieces.{first_piece}
use Rattle.cuts.specs.Cuts.{released_after}
use Rattle.steps.specs.declared.state.Row.{Row}
use Rattle.interchange.specs.Reader.{is_closed}
use Rattle.arrival.specs.Arrived.{Final, awaited, given, Stand, Brought, only, arrived_bytes, longer, ending, arrived_segment, awaited_byte, byte_by, byte_of, followed, arrived_on}

either_assoc : (a b c : Bool) → either a (either b c) ≡ either (either a b) c
either_assoc true b c = refl
either_assoc false b c = refl

pub followed_assoc : (a b c : Brought) → followed a (followed b c) ≡ followed (followed a b) c
followed_assoc a b c =
    ap (λ (x : List Row). record { stand = c.stand; rows = x; opened = either a.opened (either b.opened c.opened); headed = either a.headed (either b.headed c.headed) })
    (sym (append_assoc a.rows b.rows c.rows))
    ∙ ap (λ (x : Bool). record { stand = c.stand; rows = (a.rows ++ b.rows) ++ c.rows; opened = x; headed = either a.headed (either b.headed c.headed) })
    (either_assoc a.opened b.opened c.opened)
    ∙ ap (λ (x : Bool). record { stand = c.stand; rows = (a.rows ++ b.rows) ++ c.rows; opened = either (either a.opened b.opened) c.opened; headed = x })
    (either_assoc a.headed b.headed c.headed)

-- some bytes, and then others
pub arrived_append : (x : Stand) (a b : List ℕ) → arrived_on x (a ++ b) ≡ followed (arrived_on x a) (arrived_on (arrived_on x a).stand b)
unfolding arrived_on
arrived_append x [] b = refl
arrived_append x (c ∷ a) b =
    ap (followed (byte_of x c)) (arrived_append (byte_of x c).stand a b)
    ∙ followed_assoc (byte_of x c) (arrived_on (byte_of x c).stand a) (arrived_on (arrived_on (byte_of x c).stand a).stand b)

-- "later calls repeat the final answer"
byte_stays : (x : Stand) (a : Answer ℕ) → x.final ≡ given a → (b : ℕ) → byte_of x b ≡ only x
byte_stays x a q b = ap (λ (f : Final). byte_by f x b) q

pub arrived_stays : (x : Stand) (a : Answer ℕ) → x.final ≡ given a → (l : List ℕ) → arrived_on x l ≡ only x
unfolding arrived_on
arrived_stays x a q [] = refl
arrived_stays x a q (b ∷ l) =
    ap (λ (y : Brought). followed y (arrived_on y.stand l)) (byte_stays x a q b) ∙ arrived_stays x a q l

-- some bytes more of a segment
abbrev pub lengthened : Stand → List ℕ → Stand
lengthened x q =
    record {
      state = x.state;
      offset = x.offset;
      body = x.body ++ q;
      released = released_after x.released q;
      dialogue = x.dialogue;
      reference = x.reference;
      count = x.count;
      final = x.final;
    }

-- a segment's byte with room for it: one more, or its terminator
module _ (x : Stand) (b : ℕ) (f : x.final ≡ awaited) (c : is_closed x.state.phase ≡ false) (h : arrived_bytes x < 60000) (k : length x.body < 4096) where
  pub byte_longer : stands terminator x.released b ≡ false → byte_of x b ≡ only (longer x b)
  unfolding awaited_byte
  byte_longer q =
      ap (λ (y : Final). byte_by y x b) f ∙ rw (lt-leb 60000 (arrived_bytes x) h, c, lt-leb 4096 (length x.body) k, q)

  pub byte_ends : stands terminator x.released b ≡ true → byte_of x b ≡ arrived_segment x (ending x)
  unfolding awaited_byte
  byte_ends q =
      ap (λ (y : Final). byte_by y x b) f ∙ rw (lt-leb 60000 (arrived_bytes x) h, c, lt-leb 4096 (length x.body) k, q)

-- bytes among which no terminator stands
pub lengthened_none : (x : Stand) → x ≡ lengthened x []
unfolding released_after
lengthened_none x =
    ap (λ (y : List ℕ). record { state = x.state; offset = x.offset; body = y; released = x.released; dialogue = x.dialogue; reference = x.reference; count = x.count; final = x.final })
    (sym (append-nil x.body))

lengthened_more : (x : Stand) (b : ℕ) (q : List ℕ) → lengthened (longer x b) q ≡ lengthened x (b ∷ q)
unfolding released_after
lengthened_more x b q =
    ap (λ (y : List ℕ). record { state = x.state; offset = x.offset; body = y; released = released_after (releases x.released b) q; dialogue = x.dialogue; reference = x.reference; count = x.count; final = x.final })
    (append_assoc x.body (b ∷ []) q)

none≢some : (b : ℕ) (l : List ℕ) → [] ≡ b ∷ l → ⊥
none≢some b l e = let n = ap length e in omega arith

rest_same : (b : ℕ) (l m : List ℕ) → b ∷ l ≡ b ∷ m → l ≡ m
rest_same b l m e = cc

plain_first : (r : Bool) (b : ℕ) (q : List ℕ) → first_piece terminator r (b ∷ q) ≡ b ∷ q → (stands terminator r b ≡ false) × (first_piece terminator (releases r b) q ≡ q)
unfolding first_piece
plain_first r b q e =
    choose (stands terminator r b) (λ t. absurd (none≢some b q (rw t at e))) (λ t. (t, rest_same b (first_piece terminator (releases r b) q) q (rw t at e)))

pub arrived_plain : (x : Stand) (q : List ℕ) → x.final ≡ awaited → is_closed x.state.phase ≡ false → first_piece terminator x.released q ≡ q
    → arrived_bytes x + length q ≤ 60000 → length x.body + length q ≤ 4096 → arrived_on x q ≡ only (lengthened x q)
unfolding arrived_on
arrived_plain x [] f c p h k = ap only (lengthened_none x)
arrived_plain x (b ∷ q) f c p h k =
    let w = plain_first x.released b q p in
    let n = length-append x.body (b ∷ []) in
    ap (λ (y : Brought). followed y (arrived_on y.stand q)) (byte_longer x b f c (omega arith) (omega arith) w.0)
    ∙ arrived_plain (longer x b) q f c w.1 (omega arith) (omega arith)
    ∙ ap only (lengthened_more x b q)

-- and the terminator behind them, with a byte more of room
pub arrived_ended : (x : Stand) (q rest : List ℕ) → x.final ≡ awaited → is_closed x.state.phase ≡ false → first_piece terminator x.released q ≡ q
    → released_after x.released q ≡ false → arrived_bytes x + length q + 1 ≤ 60000 → length x.body + length q + 1 ≤ 4096
    → arrived_on x (q ++ (terminator ∷ rest))
    ≡ followed (arrived_segment (lengthened x q) (ending (lengthened x q))) (arrived_on (arrived_segment (lengthened x q) (ending (lengthened x q))).stand rest)
unfolding arrived_on
arrived_ended x q rest f c p u h k =
    let n = length-append x.body q in
    arrived_append x q (terminator ∷ rest)
    ∙ ap (λ (y : Brought). followed y (arrived_on y.stand (terminator ∷ rest))) (arrived_plain x q f c p (omega arith) (omega arith))
    ∙ ap (λ (y : Brought). followed y (arrived_on y.stand rest))
    (byte_ends (lengthened x q) terminator f c (omega arith) (omega arith) (ap (λ (r : Bool). stands terminator r terminator) u))
