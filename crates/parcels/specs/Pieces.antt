-- What comes next of a parcel: a segment that ends, or what its next byte shows.
-- Assumes nothing.
use Rattle.std.specs.Prelude.{◌≡◌, true, false, List, ℕ, ◌+◌, ◌*◌, ◌≤◌, ◌<◌, leb, length, drop}
use Rattle.laws.specs.Choice.{pick}
use Rattle.syntax.specs.Pieces.{first_piece}
use Rattle.arrival.specs.Arrived.{only, arrived_on}
use Rattle.arrival.specs.Folded.{lengthened}
use Rattle.parcel_store.specs.declared.Final.{Final}
use Rattle.parcel_store.specs.declared.Final.TheVariants.{Awaited, Accepted, Refused}
use Rattle.parcel_store.specs.Store.{part_size, store_size, stand_of}
use Rattle.parcels.specs.declared.passing.Progress.{Progress}
use Rattle.answers.specs.Answers.{naming}
use Rattle.parcels.specs.Onward.{Sized, Onward, named_at}
use Rattle.parcels.specs.Passing.{Goes}

-- nothing more is read
abbrev pub halted_at : Progress → Progress
halted_at x = record { kept = x.kept; at = x.at; numbers = x.numbers; ended = true }

-- no segment ends in the next n of the bytes that are left: where more follow, the first of them is one too many, of the interchange or else of the segment
abbrev pub unended_at : Progress → ℕ → ℕ → Progress
unended_at x n left = pick (leb left n) (halted_at x) (pick (leb 60000 (x.kept.offset + x.kept.body + n)) (named_at x (naming 3 0)) (named_at x (naming 21 x.kept.offset)))

-- a piece in which a segment ends, at an index
pub record ReadyEnd (x : Progress) (b p : List ℕ) (end : ℕ) : Type 0 where
  pub goes : Goes x b
  pub is : end ≡ length (first_piece 39 x.kept.released p)
  pub ended : end < length p
  pub short : x.kept.body + length p ≤ 4096
  pub within : x.kept.offset + x.kept.body + length p ≤ 60000
  pub room : x.at + length p < 18446744073709551616

-- a reading that may go on
pub record Standing (x : Progress) (b : List ℕ) : Type 0 where
  pub big : length b ≡ store_size
  pub sized : Sized x.kept
  pub awaits : x.kept.answer ≡ Awaited
  pub paced : x.numbers ≤ 3 * x.kept.offset

-- the rest of a parcel where nothing more is read: no terminator stands in it and it has room, or the final answer is there
abbrev pub TailBy : Final → List ℕ → Progress → List ℕ → Type 0
TailBy Awaited p x b =
    (first_piece 39 x.kept.released (drop x.at p) ≡ drop x.at p)
    × (arrived_on (stand_of x.kept b) (drop x.at p) ≡ only (lengthened (stand_of x.kept b) (drop x.at p)))
    × (x.kept.body + length (drop x.at p) ≤ part_size)
TailBy Accepted p x b = ⊥
TailBy (Refused r) p x b = x.kept.body ≡ 0

abbrev pub Tail : List ℕ → Progress → List ℕ → Type 0
Tail p x b = TailBy x.kept.answer p x b

pub record Went (p : List ℕ) (x : Progress) (b lent : List ℕ) (y : Progress) (c out : List ℕ) : Type 0 where
  pub onward : Onward (drop x.at p) x b lent y c out
  pub more : y.ended ≡ false → (x.at < y.at) × (y.kept.answer ≡ Awaited)
  pub last : y.ended ≡ true → Tail p y c
