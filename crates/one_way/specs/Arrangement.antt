-- What an arrangement of a message is, by the table alone: document 02, A13. No rule and no reading is in it. Assumes nothing; there is no proof here.
use Rattle.std.specs.Prelude.{Bool, true, false, not, List, [], ◌∷◌, ◌++◌, ℕ, suc, eqb, ltb, leb}
use Rattle.laws.specs.Choice.{both, either}
use Rattle.placing.specs.Table.{Table, rows, tag_at, is_group, conditional, most, places, held}

infixr 6 ◌&◌
infixr 5 ◌▸◌
-- A tree, as a person draws it
mutual
  -- what stands at a place one time: a segment, by its tag, or a group, with its own places
  pub data Standing : Type 0 where
    segment : ℕ → Standing
    group : Arrangement → Standing

  -- what stands at a place, one time after the other
  pub data Times : Type 0 where
    nothing : Times
    ◌&◌ : Standing → Times → Times

  -- for each place of a group, in order, what stands there; a whole message is drawn like a group
  pub data Arrangement : Type 0 where
    end : Arrangement
    ◌▸◌ : Times → Arrangement → Arrangement

-- how often it stands there
unfoldable pub times_of : Times → ℕ
times_of nothing = 0
times_of (s & ts) = suc (times_of ts)

-- "each mandatory or conditional, with a greatest number" (01): a place may stand so many times
abbrev pub may_stand : Table → ℕ → ℕ → Bool
may_stand t row n = both (leb n (most t row)) (either (conditional t row) (ltb 0 n))

abbrev pub is_none : List ℕ → Bool
is_none [] = true
is_none (r ∷ l) = false

-- Whether a drawing is one of the table's. "A table is an ordered list of places .. A group holds segments and further groups .. its trigger is mandatory
-- and comes once at its head" (01): the trigger has a row of its own, the first that the group holds, and is a place like any other.
unfoldable mutual
  -- at a segment's row a segment with its tag, at a group's row a group
  pub stands_at : Standing → Table → ℕ → Bool
  stands_at (segment tag) t row = both (not (is_group t row)) (eqb tag (tag_at t row))
  stands_at (group a) t row = both (is_group t row) (is_arranged a t (held t row))

  -- so each time
  pub all_stand : Times → Table → ℕ → Bool
  all_stand nothing t row = true
  all_stand (s & ts) t row = both (stands_at s t row) (all_stand ts t row)

  -- so at each of the places in some rows, as often as the place may stand
  pub is_arranged : Arrangement → Table → List ℕ → Bool
  is_arranged end t l = is_none l
  is_arranged (ts ▸ a) t [] = false
  is_arranged (ts ▸ a) t (row ∷ l) = both (may_stand t row (times_of ts)) (both (all_stand ts t row) (is_arranged a t l))

-- the message: the tags of its segments, read off from left to right
unfoldable mutual
  pub tags_here : Standing → List ℕ
  tags_here (segment tag) = tag ∷ []
  tags_here (group a) = tags_of a

  pub tags_all : Times → List ℕ
  tags_all nothing = []
  tags_all (s & ts) = tags_here s ++ tags_all ts

  pub tags_of : Arrangement → List ℕ
  tags_of end = []
  tags_of (ts ▸ a) = tags_all ts ++ tags_of a

-- where a segment stands: its row, and the row of each group that it stands in, with which time it is there, from 1; its own first
abbrev pub Where : Type 0
Where = List (ℕ × ℕ)

-- where each segment stands; `up` is where the group stands
unfoldable mutual
  pub where_here : Standing → Table → ℕ → ℕ → Where → List Where
  where_here (segment tag) t row n up = ((row, n) ∷ up) ∷ []
  where_here (group a) t row n up = where_in a t (held t row) ((row, n) ∷ up)

  pub where_all : Times → Table → ℕ → ℕ → Where → List Where
  where_all nothing t row n up = []
  where_all (s & ts) t row n up = where_here s t row n up ++ where_all ts t row (suc n) up

  pub where_in : Arrangement → Table → List ℕ → Where → List Where
  where_in end t l up = []
  where_in (ts ▸ a) t [] up = []
  where_in (ts ▸ a) t (row ∷ l) up = where_all ts t row 1 up ++ where_in a t l up

-- of a whole message: the places that stand in no group
abbrev pub outermost : Table → List ℕ
outermost t = places t 0 (rows t)

abbrev pub is_arrangement : Table → Arrangement → Bool
is_arrangement t a = is_arranged a t (outermost t)

abbrev pub standings : Table → Arrangement → List Where
standings t a = where_in a t (outermost t) []
