-- `services::segments::number_at` meets its contract.
-- Assumes nothing.
use native.Mathlib.Omega.{arith}
use Rattle.services.specs.Numbers.{number_quick}
use Rattle.services.specs.Ways.{number_is}
use Rattle.services.proofs.segments.number_at.Goals as goal

pub overflow_add-from : goal.overflow_add-from
overflow_add-from c =
    let h = (c.is_product.ensures c.if-is_product.true).fits in
    omega arith

pub returns-in-Some : goal.returns-in-Some
returns-in-Some c =
    let a = c.args in
    number_quick a.s.now a.at (c.is_product.ensures c.if-is_product.true) c.in-Some.to c.in-Some.ensures

pub returns : goal.returns
returns c =
    let a = c.args in
    number_is a.s.now a.at c.segment_at.result c.part_at.result c.segment_at.ensures c.part_at.ensures
