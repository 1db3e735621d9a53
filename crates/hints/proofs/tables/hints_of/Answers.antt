-- `hints::tables::hints_of` meets its contract. Assumes nothing.
use mathlib.Core.Path.{sym, ap, ◌∙◌}
use Rattle.hints.specs.Hints.{hints_in}
use Rattle.hints.proofs.tables.hints_of.Goals as goal

pub returns-in-Skdupd : goal.returns-in-Skdupd
unfolding hints_in
returns-in-Skdupd c =
    c.rows_between.ensures ∙ sym (ap (hints_in c.args.hints.now) c.in-Skdupd.is)

pub returns-in-Tsdupd : goal.returns-in-Tsdupd
unfolding hints_in
returns-in-Tsdupd c =
    c.rows_between-in-Tsdupd.ensures ∙ sym (ap (hints_in c.args.hints.now) c.in-Tsdupd.is)

pub returns-in-Tsdupd12B : goal.returns-in-Tsdupd12B
unfolding hints_in
returns-in-Tsdupd12B c =
    c.rows_between-in-Tsdupd12B.ensures ∙ sym (ap (hints_in c.args.hints.now) c.in-Tsdupd12B.is)
