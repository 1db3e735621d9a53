-- `hints::tables::hints` meets its contract. Assumes nothing.
use mathlib.Core.Path.{refl}
use Rattle.placing.specs.Table.{entry_of}
use Rattle.placing.specs.Skdupd.{skdupd_table}
use Rattle.placing.specs.Tsdupd.{tsdupd_table}
use Rattle.hints.specs.Kinds.{kinds, number_from}
use Rattle.hints.specs.Hint.{slotted, laid_out}
use Rattle.hints.specs.SkdupdHints.{skdupd_onward, skdupd_hints}
use Rattle.hints.specs.TsdupdHints.{tsdupd_onward, tsdupd_hints}
use Rattle.hints.specs.Hints.{hints}
use Rattle.hints.proofs.tables.hints.Goals as goal

pub returns : goal.returns
unfolding hints skdupd_hints tsdupd_hints skdupd_onward tsdupd_onward laid_out slotted kinds number_from entry_of skdupd_table tsdupd_table
returns c = refl
