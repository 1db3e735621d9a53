-- `services::service_at` meets its contract.
-- Assumes nothing.
use native.Mathlib.Omega.{arith}
use Rattle.services.specs.Extents.{reach_within}
use Rattle.services.specs.Ways.{service_is}
use Rattle.services.proofs.service_at.Goals as goal

pub is_removal-removal-requires : goal.is_removal-removal-requires
is_removal-removal-requires c =
    let h = reach_within c.args.rows.now c.args.k c.args.n c.reach_of-reach.result.own c.reach_of-reach.result.to c.requires.0 c.reach_of-reach.ensures in
    let n = c.requires.1 in
    omega arith

pub returns : goal.returns
returns c =
    let a = c.args in
    service_is a.s.now a.rows.now a.n a.k c.reach_of-reach.result.own c.reach_of-reach.result.to c.offset_of-prd.result c.number_at-number.result c.is_removal-removal.result
    c.reach_of-reach.ensures c.offset_of-prd.ensures c.number_at-number.ensures c.is_removal-removal.ensures
