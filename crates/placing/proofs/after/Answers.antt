-- `placing::after` meets its contract. Assumes nothing.
use mathlib.Core.Path.{sym}
use native.Mathlib.Omega.{arith}
use Rattle.placing.proofs.Walks.{after_last, after_least}
use Rattle.placing.proofs.after.Goals as goal

pub returns-then-rows-row : goal.returns-then-rows-row
returns-then-rows-row c = sym (after_last c.args.table.now c.args.row (omega arith))

pub returns : goal.returns
returns c = rw (c.min.ensures, c.entry.ensures) (after_least c.args.table.now c.args.row)
