-- Where hints stand: for each row of a table sixteen, by the tags that they are for. Any numbers make hints. Assumes nothing.
use Rattle.std.specs.Prelude.{ℕ, List, [], ◌∷◌, map, eqb}
use Rattle.laws.specs.Choice.{pick}
use Rattle.placing.specs.Table.{Table, tag_at}
use Rattle.hints.specs.Kinds.{row_in, hint_slot}

-- the first of some hints that stands at a slot, 0 for none
unfoldable pub slotted : Table → List ℕ → ℕ → ℕ
slotted t [] j = 0
slotted t (h ∷ l) j = pick (eqb (hint_slot (tag_at t (row_in h))) j) h (slotted t l j)

abbrev pub laid : Table → List ℕ → List ℕ
laid t l =
    slotted t l 0 ∷ slotted t l 1 ∷ slotted t l 2 ∷ slotted t l 3 ∷ slotted t l 4 ∷ slotted t l 5 ∷ slotted t l 6 ∷ slotted t l 7 ∷
    slotted t l 8 ∷ slotted t l 9 ∷ slotted t l 10 ∷ slotted t l 11 ∷ slotted t l 12 ∷ slotted t l 13 ∷ slotted t l 14 ∷ slotted t l 15 ∷ []

unfoldable pub laid_out : Table → List (List ℕ) → List (List ℕ)
laid_out t l = map (laid t) l
