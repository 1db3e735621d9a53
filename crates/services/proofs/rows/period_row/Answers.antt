-- `services::rows::period_row` meets its contract: the search from here on finds what the whole search finds.
-- Assumes nothing.
use mathlib.Core.Path.{◌≡◌, sym, ap, ◌∙◌}
use Rattle.std.specs.Prelude.{Some}
use native.Mathlib.Omega.{arith}
use Rattle.services.specs.Rows.{first_from}
use Rattle.services.specs.Services.{is_period_row}
use Rattle.services.specs.Search.{first_past, first_here, first_on, found_there, found_nowhere}
use Rattle.services.specs.Ways.{period_pass}
use Rattle.services.proofs.rows.period_row.Goals.{After-past_others-i}
use Rattle.services.proofs.rows.period_row.Goals as goal

pub past_others-i-requires : goal.past_others-i-requires
past_others-i-requires c =
    (omega arith, omega arith)

-- past inner rows the search is the same
module _ (c : After-past_others-i) where
  passed : first_from (is_period_row c.args.rows.now) c.past_others-i.result c.args.to ≡ first_from (is_period_row c.args.rows.now) c.args.from c.args.to
  passed =
      let a = c.args in
      period_pass a.rows.now c.loop-i.i a.to c.past_others-i.result c.requires c.past_others-i.ensures.0 c.past_others-i.ensures.1 ∙ c.loop-i.invariant

pub returns-then-to-i : goal.returns-then-to-i
returns-then-to-i c =
    let a = c.args in
    let e = sym (first_past (is_period_row a.rows.now) c.past_others-i.result a.to c.if-to-i.true) ∙ passed (goal.at.returns-then-to-i c).After-past_others-i in
    let h = c.if-to-i.true in
    found_nowhere (is_period_row a.rows.now) a.from a.to (omega arith)

pub is_row-requires : goal.is_row-requires
is_row-requires c =
    let h = c.requires in
    omega arith

pub returns-then-is_row : goal.returns-then-is_row
returns-then-is_row c =
    let a = c.args in
    let e = sym (first_here (is_period_row a.rows.now) c.past_others-i.result a.to c.if-to-i.false (sym c.is_row.ensures ∙ c.if-is_row.true)) ∙ passed (goal.at.returns-then-is_row c).After-past_others-i in
    let h = c.if-to-i.false in
    ap Some e ∙ found_there (is_period_row a.rows.now) a.from a.to (omega arith)

pub loop-i-smaller : goal.loop-i-smaller
loop-i-smaller c =
    let h = c.past_others-i.ensures.0.onward in
    omega arith

pub loop-i-preserved : goal.loop-i-preserved
loop-i-preserved c =
    let a = c.args in
    sym (first_on (is_period_row a.rows.now) c.past_others-i.result a.to c.if-to-i.false (sym c.is_row.ensures ∙ c.if-is_row.false)) ∙ passed (goal.at.loop-i-preserved c).After-past_others-i

pub returns : goal.returns
returns c =
    let a = c.args in
    let e = sym (first_past (is_period_row a.rows.now) c.loop-i.i a.to c.loop-i-test.false) ∙ c.loop-i.invariant in
    let h = c.loop-i-test.false in
    found_nowhere (is_period_row a.rows.now) a.from a.to (omega arith)
