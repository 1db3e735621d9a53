-- `placing::Place::once_more` meets its contract. Assumes nothing.
use mathlib.Core.Path.{sym, ap, ◌∙◌}
use Rattle.std.specs.Prelude.{Some, None}
use Rattle.placing.proofs.Walks.{more_fits, more_none}
use Rattle.placing.proofs.Place.once_more.Goals as goal

pub returns-in_err-fit : goal.returns-in_err-fit
returns-in_err-fit c =
    let a = c.args in
    c.from_residual.ensures
    ∙ sym (more_fits a.table.now a.self a.tag a.level a.row c.count-n.result c.entry.result c.depth_below.result None
    c.count-n.ensures c.entry.ensures c.if-n-entry.true c.depth_below.ensures (sym c.in_err-fit.was ∙ c.at_place.ensures))

pub returns-then-n-entry : goal.returns-then-n-entry
returns-then-n-entry c =
    let a = c.args in
    ap Some c.placed.ensures
    ∙ sym (more_fits a.table.now a.self a.tag a.level a.row c.count-n.result c.entry.result c.depth_below.result (Some c.in_ok-fit.fit)
    c.count-n.ensures c.entry.ensures c.if-n-entry.true c.depth_below.ensures (sym c.in_ok-fit.was ∙ c.at_place.ensures))

pub returns : goal.returns
returns c =
    let a = c.args in
    sym (more_none a.table.now a.self a.tag a.level a.row c.count-n.result c.entry.result c.count-n.ensures c.entry.ensures c.if-n-entry.false)
