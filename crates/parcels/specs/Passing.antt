-- What one segment of a parcel, or a stretch of them, leaves in the store and among the rows.
-- Assumes nothing.
use Rattle.std.specs.Prelude.{◌≡◌, true, false, List, [], ◌∷◌, ◌++◌, ℕ, ◌+◌, ◌*◌, ◌≤◌, ◌<◌, length}
use Rattle.laws.specs.Choice.{pick}
use Rattle.syntax.specs.Pieces.{first_piece}
use Rattle.cuts.specs.Cuts.{released_after}
use Rattle.parts.specs.Places.{bytes_of}
use Rattle.steps.specs.declared.state.State.{State}
use Rattle.steps.specs.declared.state.Phase.TheVariants.{Inside}
use Rattle.steps.specs.State.{one_more}
use Rattle.interchange.specs.Reader.{is_closed}
use Rattle.interchange.specs.Stretch.{is_ended}
use Rattle.arrival.specs.Arrived.{opens, heads}
use Rattle.parcel_store.specs.declared.Final.{Final}
use Rattle.parcel_store.specs.declared.Final.TheVariants.{Awaited, Accepted, Refused}
use Rattle.parcel_store.specs.declared.Kept.{Kept}
use Rattle.parcel_store.specs.Store.{store_size, dialogue_place, reference_place, stand_of, put_part}
use Rattle.parcels.specs.declared.passing.Progress.{Progress}
use Rattle.parcels.specs.Onward.{Sized}

-- what is kept after a segment g, which has n bytes with its terminator
abbrev pub passed_kept : Kept → List ℕ → State → ℕ → Kept
passed_kept k g next n =
    record {
      state = next;
      offset = k.offset + n;
      body = 0;
      released = false;
      dialogue = pick (opens k.state.phase) (length (bytes_of g next.dialogue)) k.dialogue;
      reference = pick (heads k.state.phase next.phase) (length (bytes_of g next.reference)) k.reference;
      count = one_more k.count;
      answer = Awaited;
    }

abbrev pub passed_store : Kept → List ℕ → State → List ℕ → List ℕ
passed_store k g next b =
    put_part (heads k.state.phase next.phase) (put_part (opens k.state.phase) b dialogue_place (bytes_of g next.dialogue)) reference_place (bytes_of g next.reference)

-- a reading that goes on where a parcel stands: the store is one, the numbers have room, and more may come
pub record Goes (x : Progress) (b : List ℕ) : Type 0 where
  pub big : length b ≡ store_size
  pub sized : Sized x.kept
  pub awaits : x.kept.answer ≡ Awaited
  pub opened : is_closed x.kept.state.phase ≡ false
  pub paced : x.numbers ≤ 3 * x.kept.offset

-- bytes before a terminator, as they come next
pub record Plain (x : Progress) (q : List ℕ) : Type 0 where
  pub plain : first_piece 39 x.kept.released q ≡ q
  pub unreleased : released_after x.kept.released q ≡ false
  pub within : x.kept.offset + x.kept.body + length q + 1 ≤ 60000
  pub short : x.kept.body + length q + 1 ≤ 4096

-- a whole segment s with its terminator, of which the first bytes stand in the store
pub record Ready (x : Progress) (b s : List ℕ) : Type 0 where
  pub goes : Goes x b
  pub bytes : List ℕ
  pub is : s ≡ (stand_of x.kept b).body ++ (bytes ++ (39 ∷ []))
  pub next : Plain x bytes
  pub room : x.at + length bytes + 1 < 18446744073709551616

-- the rest of a segment, with its terminator
pub record ReadyPiece (x : Progress) (b p : List ℕ) : Type 0 where
  pub goes : Goes x b
  pub bytes : List ℕ
  pub is : p ≡ bytes ++ (39 ∷ [])
  pub next : Plain x bytes
  pub room : x.at + length bytes + 1 < 18446744073709551616

-- bytes of a message in which a segment ends
pub record ReadyStretch (x : Progress) (b p : List ℕ) : Type 0 where
  pub goes : Goes x b
  pub empty : x.kept.body ≡ 0
  pub unreleased : x.kept.released ≡ false
  pub inside : x.kept.state.phase ≡ Inside
  pub short : length p ≤ 4096
  pub within : x.kept.offset + length p ≤ 60000
  pub ended : is_ended p 0 ≡ true
  pub room : x.at + length p < 18446744073709551616

-- a fault is named, and no byte of a segment is kept
abbrev pub NamedBy : Final → ℕ → Type 0
NamedBy Awaited n = ⊥
NamedBy Accepted n = ⊥
NamedBy (Refused r) n = n ≡ 0

-- a parcel is read on, or a fault is named
abbrev pub Faster : Progress → Progress → Type 0
Faster x y = (y.ended ≡ false → x.at < y.at) × (y.ended ≡ true → NamedBy y.kept.answer y.kept.body) × (y.ended ≡ false → y.kept.answer ≡ Awaited)
