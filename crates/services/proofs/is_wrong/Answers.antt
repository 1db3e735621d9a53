-- `services::is_wrong` meets its contract.
-- Assumes nothing.
use mathlib.Core.Path.{◌≡◌, ap, ◌∙◌}
use mathlib.Core.List.{List}
use Prim.Native.Nat.{ℕ}
use lib.ListN.{length}
use Rattle.syntax.specs.Bytes.{plain}
use Rattle.parts.specs.Places.{bytes_of}
use Rattle.services.specs.Services.{number_fits}
use Rattle.services.specs.Ways.{wrong_number, wrong_removal, wrong_put}
use Rattle.services.proofs.is_wrong.Goals.{After-number_fits, Start}
use Rattle.services.proofs.is_wrong.Goals as goal

-- whether the number fits
module _ (p : After-number_fits) where
  fitting : p.number_fits.result ≡ number_fits (length (plain (bytes_of p.args.s.now p.args.service.number)))
  fitting = p.number_fits.ensures ∙ ap (λ (x : List ℕ). number_fits (length (plain x))) p.bytes_of.ensures

pub returns-then-not-number_fits : goal.returns-then-not-number_fits
returns-then-not-number_fits c =
    let a = c.args in
    wrong_number a.s.now a.rows.now a.service c.number_fits.result (fitting (goal.at.returns-then-not-number_fits c).After-number_fits) (c.if-not-number_fits.true)

pub returns-then-service : goal.returns-then-service
returns-then-service c =
    let a = c.args in
    wrong_removal a.s.now a.rows.now a.service c.number_fits.result (fitting (goal.at.returns-then-service c).After-number_fits) (c.if-not-number_fits.false) c.has_period-carries.result c.has_period-carries.ensures c.if-service.true

pub returns : goal.returns
returns c =
    let a = c.args in
    wrong_put a.s.now a.rows.now a.service c.number_fits.result (fitting (goal.at.returns c).After-number_fits) (c.if-not-number_fits.false) c.has_period-carries.result c.has_period-carries.ensures c.if-service.false
