-- `services::eights::past_eights` meets its contract: what is passed so far.
-- Assumes nothing.
use Prim.Native.Nat.{◌+◌}
use native.Mathlib.Omega.{arith}
use Rattle.services.specs.Inner.{key_of, passes_start, passes_on, passes_less}
use Rattle.services.proofs.eights.past_eights.Goals as goal

pub loop-i-init : goal.loop-i-init
loop-i-init c =
    let g = c.args in
    passes_start (key_of g.rows.now g.sought.column g.sought.turned) g.sought.bound g.from

-- eight rows stand from a row of the loop on
pub least_of_eight-requires : goal.least_of_eight-requires
least_of_eight-requires c =
    let h = c.end_of_eights-end.ensures in
    (omega arith, c.requires)

pub first_of_eight-requires : goal.first_of_eight-requires
first_of_eight-requires c =
    let h = c.end_of_eights-end.ensures in
    (omega arith, c.requires)

pub returns-then-least_of_eight-sought : goal.returns-then-least_of_eight-sought
returns-then-least_of_eight-sought c =
    let g = c.args in
    passes_on (key_of g.rows.now g.sought.column g.sought.turned) g.sought.bound g.from c.loop-i.i c.first_of_eight.result c.loop-i.invariant c.first_of_eight.ensures

pub overflow_add-i : goal.overflow_add-i
overflow_add-i c =
    let h = c.end_of_eights-end.ensures in
    omega arith

pub loop-i-preserved : goal.loop-i-preserved
loop-i-preserved c =
    let g = c.args in
    let f = key_of g.rows.now g.sought.column g.sought.turned in
    let i = c.loop-i.i in
    passes_on f g.sought.bound g.from i (i + 8) c.loop-i.invariant (passes_less f g.sought.bound i (i + 8) c.least_of_eight.result c.least_of_eight.ensures c.if-least_of_eight-sought.false)

pub returns : goal.returns
returns c = c.loop-i.invariant
