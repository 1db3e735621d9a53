-- `shown::before_zero` meets its contract. Invariant: the bytes passed and those before the next zero make up the answer.
-- Assumes nothing.
use mathlib.Core.Path.{◌≡◌, sym, ◌∙◌}
use native.Mathlib.Omega.{arith}
use native.Mathlib.Nat.{zero-add}
use lib.ListN.{length}
use Rattle.contents.specs.Written.{up_to_zero}
use Rattle.shown.specs.Laws.{zero_here, zero_later, zero_never}
use Rattle.shown.proofs.before_zero.Goals as goal

pub loop-i-init : goal.loop-i-init
loop-i-init c = zero-add (length (up_to_zero c.args.text.now))

pub returns-then-text-i-eq0 : goal.returns-then-text-i-eq0
returns-then-text-i-eq0 c = sym (zero_here c.args.text.now c.loop-i.i c.loop-i-test.true c.if-text-i-eq0.true) ∙ c.loop-i.invariant

pub loop-i-preserved : goal.loop-i-preserved
loop-i-preserved c = zero_later c.args.text.now c.loop-i.i c.loop-i-test.true c.if-text-i-eq0.false ∙ c.loop-i.invariant

pub returns : goal.returns
returns c =
    let x = c.args.text.now in
    let e : length x ≡ c.loop-i.i = omega arith in
    e ∙ sym (zero_never x c.loop-i.i c.loop-i-test.false) ∙ c.loop-i.invariant
