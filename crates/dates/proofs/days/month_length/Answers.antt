-- `month_length` meets its contract.
-- Assumes nothing.
use mathlib.Core.Path.{sym, ◌∙◌}
use mathlib.Core.Logic.{⊎_elim, inl, inr}
use borrow.Author.Tests.{eq-eqb, ne_eqb}
use Rattle.dates.specs.Days.{month_length}
use Rattle.dates.proofs.days.month_length.Goals as goal

pub returns-then-leap_year : goal.returns-then-leap_year
unfolding month_length
returns-then-leap_year c = simp (eq-eqb _ _ c.in-2.is, sym c.leap_year.ensures ∙ c.if-leap_year.true)

pub returns-else-leap_year : goal.returns-else-leap_year
unfolding month_length
returns-else-leap_year c = simp (eq-eqb _ _ c.in-2.is, sym c.leap_year.ensures ∙ c.if-leap_year.false)

pub returns-in-4 : goal.returns-in-4
unfolding month_length
returns-in-4 c = ⊎_elim (λ e. rw e) (⊎_elim (λ e. rw e) (⊎_elim (λ e. rw e) (λ e. rw e))) c.in-4.is

pub returns-in_default : goal.returns-in_default
unfolding month_length
returns-in_default c =
    let r = c.in_default.in_default-own.rest in
    simp (ne_eqb _ 2 r.0.1, ne_eqb _ 4 (λ e. r.1 (inl e)), ne_eqb _ 6 (λ e. r.1 (inr (inl e))), ne_eqb _ 9 (λ e. r.1 (inr (inr (inl e)))), ne_eqb _ 11 (λ e. r.1 (inr (inr (inr e)))))
