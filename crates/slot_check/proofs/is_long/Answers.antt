-- `slot_check::is_long` meets its contract.
-- Assumes nothing.
use native.Mathlib.Omega.{arith}
use Rattle.slot_check.specs.Number.{number_none, number_full, number_rest}
use Rattle.slot_check.proofs.is_long.Goals as goal

pub returns-then-end-eq0 : goal.returns-then-end-eq0
returns-then-end-eq0 c =
    number_none c.args.slot.now c.requires c.permitted_run-end.result c.permitted_run-end.ensures c.if-end-eq0.true

pub returns-then-end-ge-NUMBER : goal.returns-then-end-ge-NUMBER
returns-then-end-ge-NUMBER c =
    number_full c.args.slot.now c.requires c.permitted_run-end.result c.permitted_run-end.ensures c.if-end-ge-NUMBER.true

pub returns : goal.returns
returns c =
    number_rest c.args.slot.now c.requires c.permitted_run-end.result c.permitted_run-end.ensures c.if-end-eq0.false (let h = c.if-end-ge-NUMBER.false in omega arith) c.is_zero.result c.is_zero.ensures
