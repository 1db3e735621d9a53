-- `read_form` meets its contract.
-- Assumes nothing.
use mathlib.Core.Path.{◌≡◌, sym, ◌∙◌}
use mathlib.Core.Bool.{true}
use mathlib.Core.List.{List}
use Prim.Native.Nat.{ℕ}
use Rattle.syntax.specs.Bytes.{plain}
use Rattle.period.specs.Period.{fits_days, rising_days}
use Rattle.period.specs.Tests.{bad_string, bad_weekdays, both_forms, by_string, by_weekdays, by_wish, neither_form}
use Rattle.period.proofs.forms.read_form.Goals.{After-is_present, Start}
use Rattle.period.proofs.forms.read_form.Goals as goal

-- each form is right by itself
module _ (p : After-is_present) where
  abbrev days : List ℕ
  days = plain p.args.days.now

  abbrev weekdays : List ℕ
  weekdays = plain p.args.weekdays.now

  fits : fits_days p.args.n days ≡ true
  fits = sym p.fits_days-fits.ensures ∙ p.if-not-fits.false

  rises : rising_days 48 weekdays ≡ true
  rises = sym p.is_rising-rises.ensures ∙ p.if-not-rises.false

pub returns-then-not-fits : goal.returns-then-not-fits
returns-then-not-fits c =
    let a = c.args in
    bad_string a.wish a.n (plain a.days.now) (plain a.weekdays.now) (sym c.fits_days-fits.ensures ∙ c.if-not-fits.true)

pub returns-then-not-rises : goal.returns-then-not-rises
returns-then-not-rises c =
    let a = c.args in
    bad_weekdays a.wish a.n (plain a.days.now) (plain a.weekdays.now) (sym c.fits_days-fits.ensures ∙ c.if-not-fits.false) (sym c.is_rising-rises.ensures ∙ c.if-not-rises.true)

pub returns-then-is_present-2 : goal.returns-then-is_present-2
returns-then-is_present-2 c =
    let a = c.args in
    both_forms a.wish a.n (days (goal.at.returns-then-is_present-2 c).After-is_present) (weekdays (goal.at.returns-then-is_present-2 c).After-is_present) (fits (goal.at.returns-then-is_present-2 c).After-is_present) (rises (goal.at.returns-then-is_present-2 c).After-is_present) (sym c.is_present.ensures ∙ c.if-is_present.true) (sym c.is_present-then-is_present.ensures ∙ c.if-is_present-2.true)

pub returns-then-is_present : goal.returns-then-is_present
returns-then-is_present c =
    let a = c.args in
    by_string a.wish a.n (days (goal.at.returns-then-is_present c).After-is_present) (weekdays (goal.at.returns-then-is_present c).After-is_present) (fits (goal.at.returns-then-is_present c).After-is_present) (rises (goal.at.returns-then-is_present c).After-is_present) (sym c.is_present.ensures ∙ c.if-is_present.true) (sym c.is_present-then-is_present.ensures ∙ c.if-is_present-2.false)

pub returns-then-is_present-3 : goal.returns-then-is_present-3
returns-then-is_present-3 c =
    let a = c.args in
    by_weekdays a.wish a.n (days (goal.at.returns-then-is_present-3 c).After-is_present) (weekdays (goal.at.returns-then-is_present-3 c).After-is_present) (fits (goal.at.returns-then-is_present-3 c).After-is_present) (rises (goal.at.returns-then-is_present-3 c).After-is_present) (sym c.is_present.ensures ∙ c.if-is_present.false) (sym c.is_present-2.ensures ∙ c.if-is_present-3.true)

pub returns-then-wish : goal.returns-then-wish
returns-then-wish c =
    let a = c.args in
    by_wish a.wish a.n (days (goal.at.returns-then-wish c).After-is_present) (weekdays (goal.at.returns-then-wish c).After-is_present) (fits (goal.at.returns-then-wish c).After-is_present) (rises (goal.at.returns-then-wish c).After-is_present) (sym c.is_present.ensures ∙ c.if-is_present.false) (sym c.is_present-2.ensures ∙ c.if-is_present-3.false) c.if-wish.true

pub returns : goal.returns
returns c =
    let a = c.args in
    neither_form a.wish a.n (days (goal.at.returns c).After-is_present) (weekdays (goal.at.returns c).After-is_present) (fits (goal.at.returns c).After-is_present) (rises (goal.at.returns c).After-is_present) (sym c.is_present.ensures ∙ c.if-is_present.false) (sym c.is_present-2.ensures ∙ c.if-is_present-3.false) c.if-wish.false
