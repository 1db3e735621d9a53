-- `is_quiet` meets its contract: as long as nothing is counted, none of the bytes so far is the mark.
-- Assumes nothing.
use mathlib.Core.Path.{refl}
use native.Mathlib.Omega.{arith}
use borrow.Author.Rules.{rules}
use borrow.Author.Tests.{eqb-true}
use Rattle.service_entries.specs.Numbers.{quiet_on, quiet_whole}
use Rattle.service_entries.proofs.numbers.is_quiet.Goals as goal

pub loop-b-init : goal.loop-b-init
loop-b-init c = (omega arith, λ q. refl)

pub overflow_add-count : goal.overflow_add-count
overflow_add-count c =
    let v = c.loop-b.invariant.0 in
    let h = c.released-count.ensures.0 in
    search rules

pub loop-b-preserved : goal.loop-b-preserved
loop-b-preserved c =
    let v = c.loop-b.invariant in
    let h = c.released-count.ensures in (
      omega (arith, v.0, h.0),
      λ q. quiet_on c.args.number.now c.loop-b.b-index (omega arith) (v.1 (omega arith)) (h.1 (omega arith)),
    )

pub returns : goal.returns
returns c =
    λ q. quiet_whole c.args.number.now c.loop-b.b-index (omega arith) (c.loop-b.invariant.1 (eqb-true c.loop-b.count 0 q))
