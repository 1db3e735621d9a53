-- `services::rows::first_row` meets its contract: the search from here on finds what the whole search finds.
-- Assumes nothing.
use mathlib.Core.Path.{sym, ap, ◌∙◌}
use Rattle.std.specs.Prelude.{Some}
use native.Mathlib.Omega.{arith}
use Rattle.services.specs.Rows.{is_row}
use Rattle.services.specs.Search.{first_past, first_here, first_on, found_there, found_nowhere}
use Rattle.services.proofs.rows.first_row.Goals as goal

pub is_row-requires : goal.is_row-requires
is_row-requires c =
    let h = c.requires in
    omega arith

pub returns-then-is_row : goal.returns-then-is_row
returns-then-is_row c =
    let a = c.args in
    let e = sym (first_here (is_row a.rows.now a.group a.tag) c.loop-i.i a.to c.loop-i-test.true (sym c.is_row.ensures ∙ c.if-is_row.true)) ∙ c.loop-i.invariant in
    let h = c.loop-i-test.true in
    ap Some e ∙ found_there (is_row a.rows.now a.group a.tag) a.from a.to (omega arith)

pub loop-i-preserved : goal.loop-i-preserved
loop-i-preserved c =
    let a = c.args in
    sym (first_on (is_row a.rows.now a.group a.tag) c.loop-i.i a.to c.loop-i-test.true (sym c.is_row.ensures ∙ c.if-is_row.false))
    ∙ c.loop-i.invariant

pub returns : goal.returns
returns c =
    let a = c.args in
    let e = sym (first_past (is_row a.rows.now a.group a.tag) c.loop-i.i a.to c.loop-i-test.false) ∙ c.loop-i.invariant in
    let h = c.loop-i-test.false in
    found_nowhere (is_row a.rows.now a.group a.tag) a.from a.to (omega arith)
