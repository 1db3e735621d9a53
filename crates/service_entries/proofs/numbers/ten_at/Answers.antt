-- `ten_at` meets its contract: so far as much of the text is put as there is.
-- Assumes nothing.
use native.Mathlib.Omega.{arith}
use Rattle.service_entries.specs.Numbers.{ten_start, ten_step, ten_done}
use Rattle.service_entries.proofs.numbers.ten_at.Goals as goal

pub loop-i-init : goal.loop-i-init
loop-i-init c =
    let a = c.args in
    ten_start a.s.now a.from a.n c.requires.0 c.requires.1

pub loop-i-preserved : goal.loop-i-preserved
loop-i-preserved c =
    let a = c.args in
    ten_step a.s.now a.from a.n c.requires.0 c.requires.1 c.loop-i.i c.kept.result c.loop-i.ten (omega arith) c.kept.ensures c.loop-i.invariant

pub returns : goal.returns
returns c =
    let a = c.args in
    ten_done a.s.now a.from a.n c.requires.0 c.requires.1 c.loop-i.i c.loop-i.ten (omega arith) c.loop-i.invariant
