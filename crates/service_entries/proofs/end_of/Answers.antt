-- `end_of` meets its contract.
-- Assumes nothing.
use mathlib.Core.Path.{sym, ◌∙◌}
use Prim.Native.Nat.{◌*◌}
use native.Mathlib.Omega.{arith}
use Rattle.records.specs.Read.{used_within}
use Rattle.service_entries.specs.Front.{ends_zero, ends_whole}
use Rattle.service_entries.proofs.end_of.Goals as goal

pub overflow_mul-end : goal.overflow_mul-end
overflow_mul-end c =
    let h = used_within c.args.room.now c.used-end.result c.used-end.ensures in
    omega arith

pub slice_bounds-is_zero-count : goal.slice_bounds-is_zero-count
slice_bounds-is_zero-count c =
    let h = used_within c.args.room.now c.used-end.result c.used-end.ensures in
    omega arith

pub slice_bounds-is_zero-start : goal.slice_bounds-is_zero-start
slice_bounds-is_zero-start c =
    let h = used_within c.args.room.now c.used-end.result c.used-end.ensures in
    omega arith

pub returns-then-is_zero : goal.returns-then-is_zero
returns-then-is_zero c =
    let h = used_within c.args.room.now c.used-end.result c.used-end.ensures in
    ends_zero c.args.room.now (c.used-end.result * 140) (omega arith) (sym c.is_zero.ensures ∙ c.if-is_zero.true)

pub returns : goal.returns
returns c = ends_whole c.args.room.now
