-- Where the placing rule puts each segment of a message, told by its tags. Assumes nothing; there is no proof here.
use Rattle.std.specs.Prelude.{Bool, List, [], ◌∷◌, ◌++◌, map, ℕ, zero, suc, Option, Some, None, is_some}
use Rattle.laws.specs.Choice.{all}
use Rattle.messages.specs.Tags.{UIH, UIT}
use Rattle.placing.specs.declared.Place.{Place}
use Rattle.placing.specs.Table.{Table, level_of, outer}
use Rattle.placing.specs.Place.{count_at}
use Rattle.placing.specs.Rule.{reachable, Choice, go, first_of, place_after}
use Rattle.one_way.specs.Arrangement.{Where, outermost}

-- "The place reached moves on one segment at a time."
unfoldable pub walked : Table → Option Place → List ℕ → List (Option Place)
walked t s [] = []
walked t s (tag ∷ l) = place_after t s tag ∷ walked t (place_after t s tag) l

-- before the first segment no place has come
abbrev pub before_all : Place
before_all = record { row = 0; c0 = 0; c1 = 0; c2 = 0; c3 = 0; c4 = 0 }

-- the choices for the first segment: the places that stand in no group, "no mandatory place still empty being passed". "UIH is the first place of a message":
-- mandatory as it is, it is the only one.
unfoldable pub first_choices : Table → List Choice
first_choices t = map (λ row. go row 0 1) (reachable t (outermost t))

-- "A segment goes to the first of these that its tag fits"
unfoldable pub first_place : Table → ℕ → Option Place
first_place t tag = first_of t before_all tag (first_choices t)

-- the place of each segment
unfoldable pub placings : Table → List ℕ → List (Option Place)
placings t [] = []
placings t (tag ∷ l) = first_place t tag ∷ walked t (first_place t tag) l

-- none is out of place
abbrev pub all_placed : Table → List ℕ → Bool
all_placed t l = all is_some (placings t l)

-- a place in the words of an arrangement: its row, and the row of each group that it stands in, with the count of the level; its own first
unfoldable pub where_on : ℕ → Table → Place → ℕ → Where
where_on zero t p row = (row, count_at p 0) ∷ []
where_on (suc level) t p row = (row, count_at p (suc level)) ∷ where_on level t p (outer t row)

abbrev pub where_of : Table → Option Place → Where
where_of t (Some p) = where_on (level_of t p.row) t p p.row
where_of t None = []

abbrev pub where_placed : Table → List ℕ → List Where
where_placed t l = map (where_of t) (placings t l)

-- "A message is UIH to UIT", with some tags between them
abbrev pub uih_to_uit : List ℕ → List ℕ
uih_to_uit w = UIH ∷ (w ++ (UIT ∷ []))
