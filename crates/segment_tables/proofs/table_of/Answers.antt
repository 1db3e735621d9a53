-- `segment_tables::table_of` meets its contract. Assumes nothing.
use mathlib.Core.Path.{sym, ap, ◌∙◌}
use Rattle.placing.specs.Tables.{table_in, lent_in}
use Rattle.segment_tables.proofs.table_of.Goals as goal

pub returns-in-Skdupd : goal.returns-in-Skdupd
unfolding lent_in table_in
returns-in-Skdupd c =
    c.rows_between.ensures ∙ sym (ap (lent_in c.args.tables.now) c.in-Skdupd.is)

pub returns-in-Tsdupd : goal.returns-in-Tsdupd
unfolding lent_in table_in
returns-in-Tsdupd c =
    c.rows_between-in-Tsdupd.ensures ∙ sym (ap (lent_in c.args.tables.now) c.in-Tsdupd.is)

pub returns-in-Tsdupd12B : goal.returns-in-Tsdupd12B
unfolding lent_in table_in
returns-in-Tsdupd12B c =
    c.rows_between-in-Tsdupd12B.ensures ∙ sym (ap (lent_in c.args.tables.now) c.in-Tsdupd12B.is)
