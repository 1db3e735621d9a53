-- `parcels::told` meets its contract.
-- Assumes nothing.
use mathlib.Core.Path.{sym, ap}
use Rattle.parcel_store.specs.declared.Final.{Final}
use Rattle.parcel_store.specs.Store.{final_by}
use Rattle.parcels.specs.Calls.{telling, verdict_by}
use Rattle.parcels.proofs.told.Goals as goal

pub returns-in-Awaited : goal.returns-in-Awaited
returns-in-Awaited c = ap (λ (f : Final). telling c.args.rows (verdict_by (final_by f c.args.count))) (sym c.in-Awaited.is)

pub returns-in-Accepted : goal.returns-in-Accepted
returns-in-Accepted c = ap (λ (f : Final). telling c.args.rows (verdict_by (final_by f c.args.count))) (sym c.in-Accepted.is)

pub returns-in-Refused : goal.returns-in-Refused
returns-in-Refused c =
    ap (λ (f : Final). telling c.args.rows (verdict_by (final_by f c.args.count))) (sym c.in-Refused.is)
