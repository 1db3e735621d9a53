-- `services::numbers::plain_end` meets its contract: the number ends where what is left of it does.
-- Assumes nothing.
use mathlib.Core.Path.{sym, ◌∙◌}
use Rattle.services.specs.Numbers.{number_on, number_stops}
use Rattle.services.proofs.numbers.plain_end.Goals as goal

pub loop-i-init : goal.loop-i-init
loop-i-init c = sym c.past_plain-i.ensures

pub returns-then-is_closing : goal.returns-then-is_closing
returns-then-is_closing c =
    let a = c.args in
    sym (number_stops a.s.now c.loop-i.i c.loop-i-test.true (c.is_closing.ensures c.if-is_closing.true)) ∙ c.loop-i.invariant

pub loop-i-preserved : goal.loop-i-preserved
loop-i-preserved c =
    let a = c.args in
    sym (number_on a.s.now c.loop-i.i c.loop-i-test.true (c.is_plain.ensures (c.if-not-is_plain.false))) ∙ c.loop-i.invariant
