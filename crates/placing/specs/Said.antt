-- What the placing rule comes to is what the table of numbers answers. Assumes nothing.
use Rattle.std.specs.Option.{option_or}
use Rattle.std.specs.Prelude.{◌≡◌, ℕ, ◌-◌, Option, Some, None}
use Rattle.std.proofs.Math.Path.{refl, ap}
use Rattle.std.proofs.Common.{◌∙◌}
use mathlib.Core.List.{List, [], ◌∷◌}
use Rattle.placing.specs.declared.Place.{Place}
use Rattle.placing.specs.declared.Fit.{Fit}
use Rattle.placing.specs.Table.{Table}
use Rattle.placing.specs.Rule.{Choice, go, fits, choices, placed_at, first_of, step_of}
use Rattle.placing.specs.Answer.{stepped_answer, fit_answer, first_answer, place_answer}

module _ (at : ℕ) where
  fit_said : (p : Place) (level n : ℕ) (x : Option Fit) (others : Option Place) → stepped_answer at (option_or (placed_at p level n x) others) ≡ fit_answer p level n x (stepped_answer at others)
  fit_said p level n (Some f) others = refl
  fit_said p level n None others = refl

  first_said : (t : Table) (p : Place) (tag : ℕ) (l : List Choice) → stepped_answer at (first_of t p tag l) ≡ first_answer at t p tag l
  unfolding first_of first_answer
  first_said t p tag [] = refl
  first_said t p tag (go row level n ∷ l) =
      fit_said p level n (fits (4 - level) t tag row) (first_of t p tag l) ∙ ap (fit_answer p level n (fits (4 - level) t tag row)) (first_said t p tag l)

  pub place_said : (t : Table) (p : Place) (tag : ℕ) → stepped_answer at (step_of t p tag) ≡ place_answer at t p tag
  unfolding step_of
  place_said t p tag = first_said t p tag (choices t p)

pub step_said : (t : Table) (p : Place) (tag : ℕ) {x : Option Place} → x ≡ step_of t p tag → (x ≡ step_of t p tag) × ((at : ℕ) → stepped_answer at x ≡ place_answer at t p tag)
step_said t p tag e = (e, λ at. ap (stepped_answer at) e ∙ place_said at t p tag)
