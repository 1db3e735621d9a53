-- A whole parcel: what it brings, and what is kept and given out then.
-- Assumes nothing.
use Rattle.std.specs.Prelude.{◌≡◌, Bool, true, false, List, ℕ, ◌*◌, ◌≤◌, length, drop}
use Rattle.laws.specs.Put.{put_at}
use Rattle.interchange.specs.Reader.{numbers}
use Rattle.arrival.specs.Arrived.{Brought, only, arrived_on}
use Rattle.parcel_store.specs.declared.Final.{Final}
use Rattle.parcel_store.specs.declared.Final.TheVariants.{Awaited, Accepted, Refused}
use Rattle.parcel_store.specs.declared.Kept.{Kept}
use Rattle.parcel_store.specs.Store.{body_place, stand_of, referred}
use Rattle.parcels.specs.declared.passing.Progress.{Progress}
use Rattle.parcels.specs.Onward.{Sized}

abbrev pub is_awaited : Final → Bool
is_awaited Awaited = true
is_awaited Accepted = false
is_awaited (Refused x) = false

-- the bytes at a parcel's end that no terminator follows are kept
pub record Held (p : List ℕ) (x : Progress) (b : List ℕ) (y : Progress) (c : List ℕ) : Type 0 where
  pub told : arrived_on (stand_of x.kept b) (drop x.at p) ≡ only (stand_of y.kept c)
  pub store : c ≡ put_at b body_place (stand_of y.kept c).body
  pub dialogue : (stand_of y.kept c).dialogue ≡ (stand_of x.kept b).dialogue
  pub reference : (stand_of y.kept c).reference ≡ (stand_of x.kept b).reference
  pub count : y.numbers ≡ x.numbers
  pub sized : Sized y.kept

-- a parcel p from what is kept in the store b on; lent is the buffer for the rows
pub record Advanced (p : List ℕ) (from : Kept) (b lent : List ℕ) (y : Progress) (c out : List ℕ) : Type 0 where
  pub brought : Brought
  pub told : arrived_on (stand_of from b) p ≡ brought
  pub stands : brought.stand ≡ stand_of y.kept c
  pub store : c ≡ put_at (referred brought b) body_place brought.stand.body
  pub count : y.numbers ≡ 3 * length brought.rows
  pub put : y.numbers ≤ length lent → out ≡ put_at lent 0 (numbers brought.rows)
  pub long : length out ≡ length lent
  pub sized : Sized y.kept
