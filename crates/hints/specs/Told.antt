-- What may be told of the next place by the row reached and the tag alone, the counts left aside. Assumes nothing.
use Rattle.std.specs.Prelude.{ℕ, zero, suc, ◌-◌, ◌%◌, Bool, true, false, not, List, [], ◌∷◌, eqb, ltb, leb, Option, Some, None}
use Rattle.laws.specs.Choice.{pick, both, either, all}
use Rattle.messages.specs.Tags.{UIT}
use Rattle.placing.specs.declared.Fit.{Fit}
use Rattle.placing.specs.Table.{Table, rows, tag_at, most, level_of, outer, later}
use Rattle.placing.specs.Rule.{reachable, none_left, first_fit, fits}
use Rattle.hints.specs.Kinds.{row_in, kind_in, last_in}

-- the place of a row at a level once more, which leads to a row with so many levels left below it; a later place of a level, likewise; or nothing
pub data Told : Type 0 where
  More : ℕ → ℕ → ℕ → ℕ → Told
  Next : ℕ → ℕ → ℕ → Told
  Silent : Told

-- what the later places of a level tell, by the first that fits and whether none of them must be filled; `above` is what the levels above it tell
abbrev pub next_told : ℕ → Option Fit → Bool → Told → Told
next_told level (Some f) none above = Next level f.row f.depth
next_told level None none above = pick none above Silent

abbrev pub told_by : ℕ → ℕ → Option Fit → Option Fit → Bool → Told → Told
told_by level row (Some f) x none above = More row level f.row f.depth
told_by level row None x none above = next_told level x none above

-- the first of the later places that fits
abbrev pub later_fit : ℕ → Table → ℕ → ℕ → Option Fit
later_fit level t tag row = first_fit (fits (4 - level) t tag) (reachable t (later t level row))

abbrev pub passed : ℕ → Table → ℕ → Bool
passed level t row = none_left t (later t level row)

-- document 01's choices from a row at a level on, the number of each place taken to allow it
unfoldable pub told_from : ℕ → Table → ℕ → ℕ → Told
told_from zero t tag row = told_by 0 row (fits 4 t tag row) (later_fit 0 t tag row) (passed 0 t row) Silent
told_from (suc level) t tag row =
    told_by (suc level) row (fits (4 - suc level) t tag row) (later_fit (suc level) t tag row) (passed (suc level) t row) (told_from level t tag (outer t row))

-- the same, but that the number of the row itself does not allow it again
unfoldable pub anew_from : ℕ → Table → ℕ → ℕ → Told
anew_from zero t tag row = next_told 0 (later_fit 0 t tag row) (passed 0 t row) Silent
anew_from (suc level) t tag row = next_told (suc level) (later_fit (suc level) t tag row) (passed (suc level) t row) (told_from level t tag (outer t row))

-- what is told of a tag where the row has come at least once: a number of one does not allow it again
abbrev pub told_behind : Bool → Table → ℕ → ℕ → Told
told_behind true t tag row = told_from (level_of t row) t tag row
told_behind false t tag row = anew_from (level_of t row) t tag row

abbrev pub hint_told : Table → ℕ → ℕ → Told
hint_told t tag row = told_behind (ltb 1 (most t row)) t tag row

-- a hint says what is told, and allows no more than the table
abbrev pub says_hint : ℕ → ℕ → ℕ → ℕ → Bool
says_hint h level r d = both (eqb level (kind_in h).level) (both (eqb r (row_in h)) (eqb (4 - d) (last_in h)))

abbrev pub agrees : Table → ℕ → Told → Bool
agrees t h (More row level r d) = both (eqb (kind_in h).again 1) (both (leb (kind_in h).number (most t row)) (says_hint h level r d))
agrees t h (Next level r d) = both (eqb (kind_in h).again 0) (says_hint h level r d)
agrees t h Silent = false

-- a hint is right that is of no kind, or that says what is told for the tag of the row it leads to, at whose level it stands; none is for UIT
unfoldable pub hint_right : Table → ℕ → ℕ → Bool
hint_right t row h =
    both (ltb (row_in h) (rows t))
    (either (eqb (h % 32) 0)
    (both (agrees t h (hint_told t (tag_at t (row_in h)) row)) (both (eqb (level_of t (row_in h)) (last_in h)) (not (eqb (tag_at t (row_in h)) UIT)))))

unfoldable pub right_from : Table → ℕ → List (List ℕ) → Bool
right_from t row [] = true
right_from t row (l ∷ rest) = both (all (hint_right t row) l) (right_from t (suc row) rest)

-- every hint is right, and a row that has none has the hint 0
abbrev pub right : Table → List (List ℕ) → Bool
right t hints = both (ltb 0 (rows t)) (right_from t 0 hints)
