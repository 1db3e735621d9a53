-- The test of a table, document 02, A13: "no tag fits two places among the placing rule's choices from any place reached". Assumes nothing; there is no proof here.
use Rattle.std.specs.Prelude.{◌≡◌, Bool, true, not, List, [], ◌∷◌, map, ℕ, suc, ◌+◌, ◌≤◌, Some, is_some}
use Rattle.laws.specs.Choice.{pick, both, either, among}
use Rattle.laws.specs.Sweep.{below}
use Rattle.placing.specs.declared.Place.{Place}
use Rattle.placing.specs.Table.{Table, rows, tag_at, is_group, level_of}
use Rattle.placing.specs.Place.{reached_of, start_place}
use Rattle.placing.specs.Rule.{Choice, go, choices, chosen, step_of}
use Rattle.one_way.specs.Placings.{before_all, first_choices, first_place}

-- the places that the placing rule reaches, from the first segment of a message on
pub data Reached (t : Table) : Place → Type 0 where
  first : {p : Place} (tag : ℕ) → first_place t tag ≡ Some p → Reached t p
  next : {q : Place} (p : Place) (tag : ℕ) → Reached t p → step_of t p tag ≡ Some q → Reached t q

-- how many of some choices a tag fits
unfoldable pub choices_fitting : Table → Place → ℕ → List Choice → ℕ
choices_fitting t p tag [] = 0
choices_fitting t p tag (c ∷ l) = pick (is_some (chosen t p tag c)) (suc (choices_fitting t p tag l)) (choices_fitting t p tag l)

-- one at most, before the first segment and from any place reached
pub record OneFits (t : Table) : Type 0 where
  pub before : (tag : ℕ) → choices_fitting t before_all tag (first_choices t) ≤ 1
  pub from : (p : Place) → Reached t p → (tag : ℕ) → choices_fitting t p tag (choices t p) ≤ 1

-- Computed: before the first segment, and from each segment's place, every number on the way at 1, no two choices have the same tag.
-- A choice only falls away when a number rises.

-- the place of a row, for the first time at each level
abbrev pub first_time : Table → ℕ → Place
first_time t row = reached_of start_place 0 1 row (level_of t row)

-- "A place that is a group fits its trigger's tag" (01)
abbrev pub fitting_tag : Table → ℕ → ℕ
fitting_tag t row = pick (is_group t row) (tag_at t (row + 1)) (tag_at t row)

-- the tag that a choice fits
abbrev pub tag_of : Table → Choice → ℕ
tag_of t (go row level n) = fitting_tag t row

-- no two are the same
unfoldable pub differ : List ℕ → Bool
differ [] = true
differ (x ∷ l) = both (not (among x l)) (differ l)

-- the test
unfoldable pub one_way : Table → Bool
one_way t =
    both (differ (map (tag_of t) (first_choices t)))
    (below (λ row. either (is_group t row) (differ (map (tag_of t) (choices t (first_time t row))))) (rows t))
