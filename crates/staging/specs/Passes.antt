-- What the services make of the records: in order, and all removals before all puts.
-- Assumes nothing.
use Rattle.std.specs.Prelude.{ℕ, List, [], ◌∷◌, true}
use Rattle.laws.specs.Choice.{pick}
use Rattle.services.specs.declared.Service.{Service}
use Rattle.services.specs.Services.{periods_of}
use Rattle.contents.specs.Contents.{Record}
use Rattle.contents.specs.Calls.{changed}
use Rattle.stages.specs.Stage.{number_in, days_of, removed, put_over, entry}

-- the services in order
unfoldable pub entered : ℕ → List ℕ → List ℕ → List Service → List Record → List Record
entered first s rows [] rs = rs
entered first s rows (v ∷ vs) rs = entered first s rows vs (changed (number_in s v) (entry first s rows v) rs)

-- what one service removes, and what it puts
abbrev pub remove_one : List ℕ → Service → List Record → List Record
remove_one s v rs = pick v.removal (changed (number_in s v) removed rs) rs

abbrev pub put_one : ℕ → List ℕ → List ℕ → Service → List Record → List Record
put_one first s rows v rs = pick v.removal rs (changed (number_in s v) (put_over (number_in s v) (days_of true first s (periods_of rows v))) rs)

unfoldable pub remove_all : List ℕ → List Service → List Record → List Record
remove_all s [] rs = rs
remove_all s (v ∷ vs) rs = remove_all s vs (remove_one s v rs)

unfoldable pub put_all : ℕ → List ℕ → List ℕ → List Service → List Record → List Record
put_all first s rows [] rs = rs
put_all first s rows (v ∷ vs) rs = put_all first s rows vs (put_one first s rows v rs)
