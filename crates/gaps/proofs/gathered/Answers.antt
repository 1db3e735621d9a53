-- `gaps::gathered` meets its contract. Invariant: the bits gathered are 0 and the rest is zero exactly when they were at the start.
-- Assumes nothing.
use Rattle.std.proofs.Common.{◌∙◌}
use Rattle.gaps.specs.Zero.{zero_step, zero_end}
use Rattle.gaps.proofs.gathered.Goals as goal

pub loop-byte-preserved : goal.loop-byte-preserved
loop-byte-preserved c = zero_step c.args.bytes.now c.loop-byte.byte-index c.loop-byte.all c.loop-byte-test.true ∙ c.loop-byte.invariant

pub returns : goal.returns
returns c = zero_end c.args.bytes.now c.loop-byte.byte-index c.loop-byte.all c.loop-byte-test.false ∙ c.loop-byte.invariant
