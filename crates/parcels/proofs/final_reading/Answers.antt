-- `parcels::final_reading` meets its contract.
-- Assumes nothing.
use mathlib.Core.Path.{sym, ap, ◌∙◌}
use Rattle.laws.specs.Choice.{false≢true}
use Rattle.parcel_store.specs.declared.Final.{Final}
use Rattle.parcel_store.specs.Store.{final_by}
use Rattle.parcels.specs.Whole.{is_awaited}
use Rattle.parcels.proofs.final_reading.Goals as goal

pub returns-in-Awaited : goal.returns-in-Awaited
returns-in-Awaited c = absurd (false≢true (sym c.requires ∙ ap is_awaited c.in-Awaited.is))

pub returns-in-Accepted : goal.returns-in-Accepted
returns-in-Accepted c = ap (λ (f : Final). final_by f c.args.count) (sym c.in-Accepted.is)

pub returns-in-Refused : goal.returns-in-Refused
returns-in-Refused c = ap (λ (f : Final). final_by f c.args.count) (sym c.in-Refused.is)
