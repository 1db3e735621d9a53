-- `register::put_quotas` meets its contract. Invariant: the first k quotas stand behind the first two bytes.
-- Assumes nothing.
use mathlib.Core.Path.{◌∙◌}
use native.Mathlib.Omega.{arith}
use Rattle.register.specs.Opening.{quota_le, quotas_start, quotas_turn, quotas_end}
use Rattle.register.proofs.put_quotas.Goals as goal

pub loop-k-init : goal.loop-k-init
loop-k-init c = quotas_start c.args.quotas.now c.args.b.now (omega arith)

pub put_number-requires : goal.put_number-requires
put_number-requires c = let q = quota_le c.args.quotas.now c.loop-k.k in omega arith

pub loop-k-preserved : goal.loop-k-preserved
loop-k-preserved c =
    let l = c.loop-k in
    let a = c.args in
    c.put_number.ensures ∙ quotas_turn a.quotas.now a.b.now l.b l.k c.wide.result c.loop-k-test.true (omega arith) c.wide.ensures.0 l.invariant

pub returns : goal.returns
returns c = quotas_end c.args.quotas.now c.args.b.now c.loop-k.b c.loop-k.k c.loop-k-test.false c.loop-k.invariant
