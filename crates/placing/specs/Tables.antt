-- The tables of D.04A, in one list of rows that is lent to every step, and the table of a type. Assumes nothing.
use Rattle.std.specs.Prelude.{◌≡◌, refl, true, false, [], ◌++◌}
use Rattle.laws.specs.Choice.{pick, false≢true}
use Rattle.laws.specs.Lists.{between}
use Rattle.messages.specs.declared.MessageType.{MessageType}
use Rattle.messages.specs.declared.MessageType.TheVariants.{Skdupd, Tsdupd, Tsdupd12B}
use Rattle.messages.specs.Types.{is_12b}
use Rattle.placing.specs.Table.{Table}
use Rattle.placing.specs.Skdupd.{skdupd_table}
use Rattle.placing.specs.Tsdupd.{tsdupd_table}
use Rattle.placing.specs.Tsdupd12B.{tsdupd_12b_table}

unfoldable pub tables : Table
tables = skdupd_table ++ tsdupd_table

-- the table of a type: among such rows 55 are SKDUPD's and 49 TSDUPD's; that of D.12B stands apart
unfoldable pub table_in : Table → MessageType → Table
table_in t Skdupd = between t 0 55
table_in t Tsdupd = between t 55 104
table_in t Tsdupd12B = tsdupd_12b_table

-- the table of a type
abbrev pub table_of : MessageType → Table
table_of message = table_in tables message

pub skdupd_own : table_of Skdupd ≡ skdupd_table
unfolding tables table_in skdupd_table tsdupd_table
skdupd_own = refl

pub tsdupd_own : table_of Tsdupd ≡ tsdupd_table
unfolding tables table_in skdupd_table tsdupd_table
tsdupd_own = refl

pub tsdupd_12b_own : table_of Tsdupd12B ≡ tsdupd_12b_table
unfolding table_in
tsdupd_12b_own = refl

-- what of a type's table is among the rows that are lent: all of it in D.04A, nothing in D.12B
unfoldable pub lent_in : Table → MessageType → Table
lent_in t message = pick (is_12b message) [] (table_in t message)

pub apart_own : (t : Table) (message : MessageType) → is_12b message ≡ true → tsdupd_12b_table ≡ table_in t message
unfolding table_in
apart_own t Skdupd h = absurd (false≢true h)
apart_own t Tsdupd h = absurd (false≢true h)
apart_own t Tsdupd12B h = refl

pub lent_own : (t : Table) (message : MessageType) → is_12b message ≡ false → lent_in t message ≡ table_in t message
unfolding lent_in
lent_own t message h = rw h
