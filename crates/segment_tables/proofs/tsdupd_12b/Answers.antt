-- `segment_tables::tsdupd_12b` meets its contract. Assumes nothing.
use mathlib.Core.Path.{refl}
use Rattle.placing.specs.Tsdupd12B.{tsdupd_12b_table}
use Rattle.segment_tables.proofs.tsdupd_12b.Goals as goal

pub returns : goal.returns
unfolding tsdupd_12b_table
returns c = refl
