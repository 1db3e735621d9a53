-- `fits_days` meets its contract.
-- Assumes nothing.
use mathlib.Core.Path.{sym, ◌∙◌}
use Rattle.syntax.specs.Bytes.{plain}
use Rattle.period.specs.Tests.{fits_present, fits_absent}
use Rattle.period.proofs.forms.fits_days.Goals as goal

pub returns-then-is_present : goal.returns-then-is_present
returns-then-is_present c =
    let a = c.args in
    c.is_day_string.ensures ∙ fits_present a.n (plain a.part.now) (sym c.is_present.ensures ∙ c.if-is_present.true)

pub returns : goal.returns
returns c =
    let a = c.args in
    fits_absent a.n (plain a.part.now) (sym c.is_present.ensures ∙ c.if-is_present.false)
