-- What a withdrawal leaves of a room, on any bytes. Document 01, "The register": "drops that pending entry, and the record if nothing is
-- live".
-- Assumes nothing.
use Rattle.std.specs.Prelude.{ℕ, ◌+◌, ◌*◌, Bool, false, not, List, eqb, get_or, replicate, Result, Ok, Err}
use Rattle.std.proofs.Math.Seq.{paste}
use Rattle.laws.specs.Choice.{pick}
use Rattle.laws.specs.Filled.{filled_up}
use Rattle.slots.specs.Find.{find_of}
use Rattle.gaps.specs.Move.{closed}
use Rattle.contents.specs.Contents.{good_number}

-- a number's slot: a text that is no number has none
unfoldable pub slot_found : List ℕ → List ℕ → Result ℕ ℕ
slot_found s x = pick (good_number x) (find_of s (filled_up 10 x)) (Err 0)

-- whether the slot at an index has a pending entry, and the room without that: without the slot where nothing is live
unfoldable pub withdraws_at : List ℕ → ℕ → Bool
withdraws_at s at = not (eqb (get_or s (at + 75) 0) 0)

unfoldable pub left_at : List ℕ → ℕ → List ℕ
left_at s at =
    pick (eqb (get_or s (at + 75) 0) 0) s
    (pick (eqb (get_or s (at + 10) 0) 0) (closed s at 140) (paste s (at + 75) (replicate 65 0) 65))

unfoldable pub withdraws : List ℕ → Result ℕ ℕ → Bool
withdraws s (Ok k) = withdraws_at s (k * 140)
withdraws s (Err k) = false

unfoldable pub withdrawn_room : List ℕ → Result ℕ ℕ → List ℕ
withdrawn_room s (Ok k) = left_at s (k * 140)
withdrawn_room s (Err k) = s
