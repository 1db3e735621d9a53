-- `days_before_year` meets its contract.
-- Assumes nothing.
use native.Mathlib.Omega.{arith}
use Rattle.dates.specs.Formula.{years_before}
use Rattle.dates.proofs.days.days_before_year.Goals as goal

pub returns : goal.returns
returns c = (years_before c.args.year (omega arith) (omega arith), omega arith)
