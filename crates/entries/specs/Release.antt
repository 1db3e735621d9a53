-- What a release leaves of a room, slot by slot, on any bytes. Document 01, "The register": "every pending entry becomes live or removes its
-- record. Returns the number of entries, 0 if none."
-- Assumes nothing.
use Rattle.std.specs.Prelude.{ℕ, ◌+◌, List, [], ◌∷◌, ◌++◌, eqb, length, get_or, take, drop, replicate}
use Rattle.laws.specs.Choice.{pick}
use Rattle.laws.specs.Filled.{filled_up}
use Rattle.slots.specs.Slots.{slots_of}
use Rattle.slots.specs.Rising.{leading}
use Rattle.contents.specs.Contents.{Pending, nothing, put, removal}
use Rattle.contents.specs.Written.{pending_in}

-- a slot with its pending calendar live and nothing pending
unfoldable pub made_live : List ℕ → List ℕ
made_live slot = take 10 slot ++ (1 ∷ (take 64 (drop 76 slot) ++ replicate 65 0))

-- a slot that is kept: "becomes live"
unfoldable pub kept_slot : List ℕ → List ℕ
kept_slot slot = pick (eqb (get_or slot 75 0) 0) slot (made_live slot)

-- by what is pending: "or removes its record"
abbrev pub slot_settled_by : List ℕ → Pending → List ℕ
slot_settled_by slot nothing = slot
slot_settled_by slot (put c) = made_live slot
slot_settled_by slot removal = []

unfoldable pub settled_slot : List ℕ → List ℕ
settled_slot slot = slot_settled_by slot (pending_in slot)

-- one behind the other
unfoldable pub settled_slots : List (List ℕ) → List ℕ
settled_slots [] = []
settled_slots (s ∷ ss) = settled_slot s ++ settled_slots ss

-- "the number of entries"
unfoldable pub pending_one : List ℕ → ℕ
pending_one slot = pick (eqb (get_or slot 75 0) 0) 0 1

unfoldable pub pending_slots : List (List ℕ) → ℕ
pending_slots [] = 0
pending_slots (s ∷ ss) = pending_one s + pending_slots ss

-- the slots from the first on that are used
unfoldable pub used_slots : List ℕ → List (List ℕ)
used_slots s = take (leading (slots_of s)) (slots_of s)

-- the room: what is left of these slots, then zeros
unfoldable pub released_room : List ℕ → List ℕ
released_room s = filled_up (length s) (settled_slots (used_slots s))
