-- `cuts::search` passes a release and the byte behind it at once.
-- Assumes nothing.
use mathlib.Core.Path.{refl}
use native.Mathlib.Omega.{arith}
use lib.ListN.{length}
use Rattle.cuts.specs.Laws.{left_tells, left_end, left_over}
use Rattle.cuts.proofs.search.Goals as goal

pub loop-i-init : goal.loop-i-init
loop-i-init c =
    let h = c.requires in
    (omega arith, record { within = λ _. record { count = refl; last = refl }; beyond = λ g. absurd (omega arith) })

pub returns-then-s-i-eq39 : goal.returns-then-s-i-eq39
returns-then-s-i-eq39 c =
    let a = c.args in
    left_tells a.s.now a.from c.loop-i.i _ (left_end a.s.now c.loop-i.i _ _ (c.loop-i.invariant.1.within (omega arith)) (omega arith) c.if-s-i-eq39.true)

pub past-i-requires : goal.past-i-requires
past-i-requires c = (omega arith, c.if-s-i-eq39.false)

pub loop-i-preserved : goal.loop-i-preserved
loop-i-preserved c =
    (c.past-i.ensures.1, c.past-i.ensures.2 _ _ (c.loop-i.invariant.1.within (omega arith)))

pub returns-then-s-i : goal.returns-then-s-i
returns-then-s-i c =
    let a = c.args in
    left_tells a.s.now a.from (length a.s.now) _ (c.loop-i.invariant.1.beyond (omega arith))

pub returns : goal.returns
returns c =
    let a = c.args in
    left_tells a.s.now a.from c.loop-i.i _ (left_over a.s.now _ c.loop-i.i _ _ (c.loop-i.invariant.1.within (omega arith)) (omega arith))
