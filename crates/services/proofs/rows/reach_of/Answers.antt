-- `services::rows::reach_of` meets its contract: one walk, and what it knows at each row.
-- Assumes nothing.
use mathlib.Core.Path.{sym, ◌∙◌}
use native.Mathlib.Omega.{arith}
use Rattle.services.specs.Extents.{walked_start, walked_past, walked_end, walked_own, walked_inner}
use Rattle.services.proofs.rows.reach_of.Goals as goal

pub loop-i-init : goal.loop-i-init
loop-i-init c = walked_start c.args.rows.now c.args.from c.args.n

pub group_of-requires : goal.group_of-requires
group_of-requires c =
    let h = c.requires in
    omega arith

pub is_end-requires : goal.is_end-requires
is_end-requires c =
    let h = c.requires in
    omega arith

pub returns-then-is_end : goal.returns-then-is_end
returns-then-is_end c =
    let a = c.args in
    walked_end a.rows.now a.from a.n c.loop-i.own c.loop-i.i c.loop-i.invariant c.loop-i-test.true (sym c.is_end.ensures ∙ c.if-is_end.true)

pub loop-i-preserved-then-group_of-lt3 : goal.loop-i-preserved-then-group_of-lt3
loop-i-preserved-then-group_of-lt3 c =
    let a = c.args in
    walked_own a.rows.now a.from a.n c.loop-i.own c.loop-i.i c.loop-i.invariant c.loop-i-test.true (sym c.is_end.ensures ∙ c.if-is_end.false)

pub past_others-i-requires : goal.past_others-i-requires
past_others-i-requires c = (omega arith, omega arith)

pub loop-i-smaller : goal.loop-i-smaller
loop-i-smaller c =
    let h = c.past_others-i.ensures.0.onward in
    omega arith

pub loop-i-preserved : goal.loop-i-preserved
loop-i-preserved c =
    let a = c.args in
    let e = c.group_of.ensures in
    let h = c.if-group_of-lt3.false in
    walked_inner a.rows.now a.from a.n c.loop-i.own c.loop-i.i c.loop-i.invariant c.past_others-i.result c.requires (omega arith) c.past_others-i.ensures.0 c.past_others-i.ensures.1

pub returns : goal.returns
returns c =
    let a = c.args in
    walked_past a.rows.now a.from a.n c.loop-i.own c.loop-i.i c.loop-i.invariant c.loop-i-test.false
