-- `gaps::clear_from` meets its contract.
-- Assumes nothing.
use Rattle.gaps.specs.Zero.{cleared, none_cleared}
use Rattle.gaps.proofs.clear_from.Goals as goal

pub returns-then-from-b : goal.returns-then-from-b
returns-then-from-b c = cleared c.args.b.now c.args.from c.fill.new.self c.if-from-b.true (c.fill.ensures.after (λ y q. q))

pub returns-else-from-b : goal.returns-else-from-b
returns-else-from-b c = none_cleared c.args.b.now c.args.from c.if-from-b.false
