-- `segment_tables::tables` meets its contract. Assumes nothing.
use mathlib.Core.Path.{refl}
use Rattle.placing.specs.Skdupd.{skdupd_table}
use Rattle.placing.specs.Tsdupd.{tsdupd_table}
use Rattle.placing.specs.Tables.{tables}
use Rattle.segment_tables.proofs.tables.Goals as goal

pub returns : goal.returns
unfolding tables skdupd_table tsdupd_table
returns c = refl
