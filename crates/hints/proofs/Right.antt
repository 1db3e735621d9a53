-- The hints are right for every table. Assumes nothing.
use Rattle.std.specs.Prelude.{T}
use Rattle.placing.specs.Table.{entry_of, after_of, end_of, places_on}
use Rattle.placing.specs.Rule.{in_group, reachable, first_fit}
use Rattle.placing.specs.Skdupd.{skdupd_table}
use Rattle.placing.specs.Tsdupd.{tsdupd_table}
use Rattle.placing.specs.Tsdupd12B.{tsdupd_12b_table}
use Rattle.hints.specs.Kinds.{kinds, number_from}
use Rattle.hints.specs.Hint.{slotted, laid_out}
use Rattle.hints.specs.Told.{right, right_from, hint_right, told_from, anew_from}
use Rattle.hints.specs.SkdupdHints.{skdupd_onward, skdupd_hints}
use Rattle.hints.specs.TsdupdHints.{tsdupd_onward, tsdupd_hints}

pub skdupd_right : T (right skdupd_table skdupd_hints)
unfolding right_from hint_right told_from anew_from in_group reachable first_fit places_on entry_of after_of end_of kinds number_from slotted laid_out skdupd_table skdupd_onward skdupd_hints
skdupd_right = tt

pub tsdupd_right : T (right tsdupd_table tsdupd_hints)
unfolding right_from hint_right told_from anew_from in_group reachable first_fit places_on entry_of after_of end_of kinds number_from slotted laid_out tsdupd_table tsdupd_onward tsdupd_hints
tsdupd_right = tt

-- those of TSDUPD are right for its table of D.12B too
pub tsdupd_12b_right : T (right tsdupd_12b_table tsdupd_hints)
unfolding right_from hint_right told_from anew_from in_group reachable first_fit places_on entry_of after_of end_of kinds number_from slotted laid_out tsdupd_table tsdupd_12b_table tsdupd_onward tsdupd_hints
tsdupd_12b_right = tt
