-- What the three calls answer, and what they leave in the store and the buffer that are lent (document 02, A1). A store of another length is no store: 17.
-- Assumes nothing.
use Rattle.std.specs.Prelude.{ℕ, ◌*◌, Bool, true, false, not, List, eqb, ltb, length, Result, Ok, Err}
use Rattle.laws.specs.Choice.{pick, both}
use Rattle.laws.specs.Put.{put_at}
use Rattle.answers.specs.Answers.{Answer, done, refused, output_too_short}
use Rattle.interchange.specs.Reader.{Verdict, accepted, numbers}
use Rattle.arrival.specs.Arrived as arrival
use Rattle.arrival.specs.Arrived.{Brought, awaited, given, beginning, only, answered, arrived_on, end_of}
use Rattle.parcel_store.specs.Store.{store_size, held_in, keep}
use Rattle.parcels.specs.declared.Fault.{Fault}

-- how many rows a call wrote, and what it says of the reading
pub record Told : Type 0 where
  pub rows : ℕ
  pub verdict : Verdict

abbrev pub telling : ℕ → Verdict → Told
telling n v = record { rows = n; verdict = v }

abbrev pub parcel_told : Result ℕ Fault → Told
parcel_told (Ok n) = telling n accepted
parcel_told (Err x) = telling x.rows (refused x.refusal)

abbrev pub is_store : List ℕ → Bool
is_store b = eqb (length b) store_size

-- `begin`: the store holds a reading before its first byte, for a caller with a wish
unfoldable pub begin_told : List ℕ → Told
begin_told b = pick (is_store b) (telling 0 accepted) (telling 0 output_too_short)

unfoldable pub begin_store : Bool → List ℕ → List ℕ
begin_store wish b = pick (is_store b) (keep (only (beginning wish)) b) b

-- what a parcel brings to the reading in a store
abbrev pub brought_by : List ℕ → List ℕ → Brought
brought_by b parcel = arrived_on (held_in b) parcel

-- "17 where a parcel's rows do not fit, that parcel then not taken"
abbrev pub is_crowded : List ℕ → List ℕ → ℕ → Bool
is_crowded b parcel room = ltb room (3 * length (brought_by b parcel).rows)

-- "later calls repeat the final answer"; after an accepted one a parcel has no row and no fault
abbrev pub verdict_by : arrival.Final → Verdict
verdict_by awaited = accepted
verdict_by (given (done n)) = accepted
verdict_by (given (refused refusal)) = refused refusal

abbrev pub is_open : arrival.Final → Bool
is_open awaited = true
is_open (given a) = false

-- `take`: "A call that names a fault writes the rows read before it, nothing else"
unfoldable pub take_told : List ℕ → List ℕ → ℕ → Told
take_told b parcel room =
    pick (is_store b)
    (pick (is_crowded b parcel room) (telling 0 output_too_short) (telling (length (brought_by b parcel).rows) (verdict_by (brought_by b parcel).stand.final)))
    (telling 0 output_too_short)

unfoldable pub take_store : List ℕ → List ℕ → ℕ → List ℕ
take_store b parcel room = pick (both (is_store b) (both (is_open (held_in b).final) (not (is_crowded b parcel room)))) (keep (brought_by b parcel) b) b

-- where there is no room `put_at` puts nothing
unfoldable pub take_rows : List ℕ → List ℕ → List ℕ → List ℕ
take_rows b parcel lent = pick (is_store b) (put_at lent 0 (numbers (brought_by b parcel).rows)) lent

-- `finish`: the input is over
unfoldable pub finish_answer : List ℕ → Answer ℕ
finish_answer b = pick (is_store b) (end_of (held_in b)) output_too_short

unfoldable pub finish_store : List ℕ → List ℕ
finish_store b = pick (both (is_store b) (is_open (held_in b).final)) (keep (only (answered (held_in b) (end_of (held_in b)))) b) b
