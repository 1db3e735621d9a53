-- What the placing rule answers of a segment at an offset. Document 01, "What each number means": 9. Assumes nothing.
use Rattle.std.specs.Prelude.{ℕ, ◌-◌, List, [], ◌∷◌, Option, Some, None}
use Rattle.answers.specs.Answers.{Answer, done, out_of_place}
use Rattle.placing.specs.declared.Place.{Place}
use Rattle.placing.specs.declared.Fit.{Fit}
use Rattle.placing.specs.Table.{Table}
use Rattle.placing.specs.Place.{reached_of}
use Rattle.placing.specs.Rule.{Choice, go, fits, choices}

-- what each case answers
abbrev pub stepped_answer : ℕ → Option Place → Answer Place
stepped_answer at (Some p) = done p
stepped_answer at None = out_of_place at

-- the place reached by a choice that fits, else what the others answer
abbrev pub fit_answer : Place → ℕ → ℕ → Option Fit → Answer Place → Answer Place
fit_answer p level n (Some f) others = done (reached_of p level n f.row (4 - f.depth))
fit_answer p level n None others = others

-- "A segment goes to the first of these that its tag fits .. If none fits it is out of place."
unfoldable pub first_answer : ℕ → Table → Place → ℕ → List Choice → Answer Place
first_answer at t p tag [] = out_of_place at
first_answer at t p tag (go row level n ∷ l) = fit_answer p level n (fits (4 - level) t tag row) (first_answer at t p tag l)

abbrev pub place_answer : ℕ → Table → Place → ℕ → Answer Place
place_answer at t p tag = first_answer at t p tag (choices t p)
