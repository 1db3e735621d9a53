-- `read_pop` meets its contract.
-- Assumes nothing.
use Rattle.std.specs.Prelude.{ℕ, Result, Err}
use mathlib.Core.Path.{◌≡◌, refl, sym, ◌∙◌}
use Rattle.syntax.specs.declared.segment.ScanError.{ScanError}
use Rattle.syntax.specs.Segment.{body_at}
use Rattle.period.specs.Period.{period_of, pop_of, pop_at}
use Rattle.period.specs.Pops.{pop_is}
use Rattle.period.proofs.read_pop.Goals.{After-read_segment}
use Rattle.period.proofs.read_pop.Goals as goal

-- by what the scan found
told : (r : After-read_segment) (x : Result ℕ ScanError) → r.read_segment.result ≡ x
    → pop_of x (period_of r.args.wish (body_at r.args.s.now r.args.at)) ≡ pop_at r.args.wish r.args.s.now r.args.at
told r x e =
    let a = r.args in
    sym (pop_is a.wish a.s.now a.at (sym r.read_segment.ensures.scan ∙ e) refl)

pub read_whole-requires : goal.read_whole-requires
read_whole-requires c =
    sym c.read_segment.ensures.scan ∙ c.in-Ok.is

pub returns-in-Err : goal.returns-in-Err
returns-in-Err c = told (goal.at.returns-in-Err c).After-read_segment (Err c.in-Err.field-0) c.in-Err.is
