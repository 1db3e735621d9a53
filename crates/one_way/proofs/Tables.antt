-- The test on all tables of the project, computed: they pass. Assumes nothing.
use Rattle.std.proofs.Math.Path.{subst⁻¹}
use Rattle.std.specs.Prelude.{ℕ, T}
use Rattle.messages.specs.declared.MessageType.{MessageType}
use Rattle.messages.specs.declared.MessageType.TheVariants.{Skdupd, Tsdupd, Tsdupd12B}
use Rattle.placing.specs.Table.{Table, entry_of, after_of, end_of, places_on}
use Rattle.placing.specs.Rule.{reachable, again, later_ones, choices_from}
use Rattle.placing.proofs.Envelope.{MessageTable, skdupd_messages, tsdupd_messages, tsdupd_12b_messages}
use Rattle.placing.specs.Skdupd.{skdupd_table}
use Rattle.placing.specs.Tsdupd.{tsdupd_table}
use Rattle.placing.specs.Tsdupd12B.{tsdupd_12b_table}
use Rattle.placing.specs.Tables.{table_of, skdupd_own, tsdupd_own, tsdupd_12b_own}
use Rattle.one_way.specs.Placings.{first_choices}
use Rattle.one_way.specs.Test.{OneFits, differ, one_way}
use Rattle.one_way.proofs.Theorems.{tested}

-- what the theorems ask of a table of messages
pub record OneWayTable (t : Table) : Type 0 where
  pub last : ℕ
  pub table : MessageTable t last
  pub one : OneFits t

one_way_table : (t : Table) (last : ℕ) → MessageTable t last → T (one_way t) → OneWayTable t
one_way_table t last m h = record { last = last; table = m; one = tested t m.well h }

-- the test, computed on every table
pub skdupd_one_way : OneWayTable skdupd_table
unfolding one_way differ first_choices choices_from again later_ones reachable places_on after_of end_of entry_of skdupd_table
skdupd_one_way = one_way_table skdupd_table 54 skdupd_messages tt

pub tsdupd_one_way : OneWayTable tsdupd_table
unfolding one_way differ first_choices choices_from again later_ones reachable places_on after_of end_of entry_of tsdupd_table
tsdupd_one_way = one_way_table tsdupd_table 48 tsdupd_messages tt

pub tsdupd_12b_one_way : OneWayTable tsdupd_12b_table
unfolding one_way differ first_choices choices_from again later_ones reachable places_on after_of end_of entry_of tsdupd_12b_table
tsdupd_12b_one_way = one_way_table tsdupd_12b_table 48 tsdupd_12b_messages tt

pub own_one_way : (message : MessageType) → OneWayTable (table_of message)
own_one_way Skdupd = subst⁻¹ OneWayTable skdupd_own skdupd_one_way
own_one_way Tsdupd = subst⁻¹ OneWayTable tsdupd_own tsdupd_one_way
own_one_way Tsdupd12B = subst⁻¹ OneWayTable tsdupd_12b_own tsdupd_12b_one_way
