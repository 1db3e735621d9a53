-- What the code finds in a room and makes of it, on any bytes. docs/REGISTER.md has the offsets in a slot.
-- Assumes nothing.
use Rattle.std.specs.Prelude.{ℕ, ◌+◌, ◌*◌, Bool, true, false, not, List, [], ◌∷◌, eqb, get_or, replicate, Result, Ok, Err, Option, Some, None}
use Rattle.std.proofs.Math.Option as maybe
use Rattle.std.proofs.Math.Option.{none, some}
use Rattle.laws.specs.Choice.{pick}
use Rattle.laws.specs.Put.{put_at}
use Rattle.slots.specs.Find.{find_of}
use Rattle.gaps.specs.Move.{closed_in, inserted_in}
use Rattle.services.specs.declared.Service.{Service}
use Rattle.services.specs.Services.{periods_of}
use Rattle.service_entries.specs.declared.Known.{Known}
use Rattle.contents.specs.Contents.{Record}
use Rattle.contents.specs.Calls.{lookup}
use Rattle.stages.specs.Stage.{is_removal, number_in, days_of}

-- a number as it stands in a slot: ten bytes; one that is longer has none there
unfoldable pub number_bytes : List ℕ → List ℕ
number_bytes x = put_at (replicate 10 0) 0 x

-- the flags of the slot at an index
unfoldable pub known_at : List ℕ → ℕ → Known
known_at room at = record { live = not (eqb (get_or room (at + 10) 0) 0); removal_pending = eqb (get_or room (at + 75) 0) 2 }

abbrev pub known_by : List ℕ → Result ℕ ℕ → Option Known
known_by room (Ok k) = Some (known_at room (k * 140))
known_by room (Err k) = None

-- what a room holds of a number, first as it stands in a slot
abbrev pub held_at : List ℕ → List ℕ → Option Known
held_at room x = known_by room (find_of room x)

unfoldable pub look_at : List ℕ → List ℕ → Option Known
look_at room x = held_at room (number_bytes x)

-- a pending put: its flag, and its calendar
abbrev pub put_entry : List ℕ → List ℕ
put_entry days = 1 ∷ days

abbrev pub removal_entry : List ℕ
removal_entry = 2 ∷ replicate 64 0

-- the slot of a number with no live calendar
unfoldable pub new_slot : List ℕ → List ℕ → List ℕ
new_slot x entry = put_at (put_at (replicate 140 0) 0 x) 75 entry

-- a put: the pending entry of the number's slot, or a new slot in its place
abbrev pub put_by : List ℕ → List ℕ → List ℕ → Result ℕ ℕ → List ℕ
put_by room x entry (Ok k) = put_at room (k * 140 + 75) entry
put_by room x entry (Err k) = inserted_in room (k * 140) (new_slot x entry)

unfoldable pub put_in : List ℕ → List ℕ → List ℕ → List ℕ
put_in room x entry = put_by room x entry (find_of room x)

-- a removal: pending where there is a live calendar; else the slot goes
unfoldable pub slot_removed : List ℕ → ℕ → List ℕ
slot_removed room at = pick (eqb (get_or room (at + 10) 0) 0) (closed_in room at 140) (put_at room (at + 75) removal_entry)

abbrev pub remove_by : List ℕ → Result ℕ ℕ → List ℕ
remove_by room (Ok k) = slot_removed room (k * 140)
remove_by room (Err k) = room

unfoldable pub remove_in : List ℕ → List ℕ → List ℕ
remove_in room x = remove_by room (find_of room x)

-- one service after the other
abbrev pub remove_bytes : List ℕ → Service → List ℕ → List ℕ
remove_bytes s v room = pick v.removal (remove_in room (number_bytes (number_in s v))) room

abbrev pub put_bytes : ℕ → List ℕ → List ℕ → Service → List ℕ → List ℕ
put_bytes first s rows v room = pick v.removal room (put_in room (number_bytes (number_in s v)) (put_entry (days_of true first s (periods_of rows v))))

unfoldable pub removes_in : List ℕ → List Service → List ℕ → List ℕ
removes_in s [] room = room
removes_in s (v ∷ vs) room = removes_in s vs (remove_bytes s v room)

unfoldable pub puts_in : ℕ → List ℕ → List ℕ → List Service → List ℕ → List ℕ
puts_in first s rows [] room = room
puts_in first s rows (v ∷ vs) room = puts_in first s rows vs (put_bytes first s rows v room)

-- ---- the same of records

-- what is asked of a record
abbrev pub is_live : maybe.Option (List ℕ) → Bool
is_live none = false
is_live (some c) = true

unfoldable pub known_of : maybe.Option Record → Option Known
known_of none = None
known_of (some r) = Some (record { live = is_live r.live; removal_pending = is_removal r.pending })

-- what an account with these records holds of a number
abbrev pub look_in : List Record → List ℕ → Option Known
look_in rs x = known_of (lookup x rs)
