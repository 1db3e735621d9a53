-- The tables of TSDUPD have no service, so that the type of a message is not asked.
-- Assumes nothing.
use Rattle.std.specs.Prelude.{ℕ, ◌≡◌, refl, Bool, true, not, List, eqb, get_or}
use Rattle.laws.specs.Choice.{both, all}
use Rattle.messages.specs.Tags.{PRD, MSD, POP}
use Rattle.placing.specs.Table.{Table}
use Rattle.placing.specs.Tsdupd.{tsdupd_table}
use Rattle.placing.specs.Tsdupd12B.{tsdupd_12b_table}

-- whether a row of a table is another than that of a tag in a group
abbrev pub elsewhere : ℕ → ℕ → List ℕ → Bool
elsewhere group tag row = not (both (eqb (get_or row 1 0) tag) (eqb (get_or row 4 0) group))

-- no PRD and no MSD stands in group 2, and no POP in group 4: what a service is made of stands nowhere in the table
pub record NoService (t : Table) : Type 0 where
  pub no_service : all (elsewhere 2 PRD) t ≡ true
  pub no_action : all (elsewhere 2 MSD) t ≡ true
  pub no_period : all (elsewhere 4 POP) t ≡ true

-- so it is in TSDUPD, of either directory
pub tsdupd_none : NoService tsdupd_table
unfolding tsdupd_table
tsdupd_none = record { no_service = refl; no_action = refl; no_period = refl }

pub tsdupd_12b_none : NoService tsdupd_12b_table
unfolding tsdupd_12b_table
tsdupd_12b_none = record { no_service = refl; no_action = refl; no_period = refl }
