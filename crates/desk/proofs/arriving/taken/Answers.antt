-- `desk::arriving::taken` tells the rows beside a refusal too.
-- Assumes nothing.
use mathlib.Core.Path.{sym, ap, ◌∙◌}
use Rattle.std.specs.Prelude.{ℕ, Result}
use Rattle.parcels.specs.declared.Fault.{Fault}
use Rattle.parcels.specs.Calls.{parcel_told}
use Rattle.desk.specs.Desk.{told_reply}
use borrow.Author.Rules.{rules}
use Rattle.desk.proofs.arriving.taken.Goals as goal

pub returns-in-Ok : goal.returns-in-Ok
returns-in-Ok c = c.done.ensures ∙ ap (λ (x : Result ℕ Fault). told_reply (parcel_told x)) (sym c.in-Ok.is)

pub returns-in-Err : goal.returns-in-Err
returns-in-Err c = ap (λ (x : Result ℕ Fault). told_reply (parcel_told x)) (sym c.in-Err.is)
