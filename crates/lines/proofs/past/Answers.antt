-- `lines::past` stands past the next mark.
-- Assumes nothing.
use Rattle.lines.specs.Lines.{past_some, past_none}
use Rattle.lines.proofs.past.Goals as goal

pub returns-then-end-s : goal.returns-then-end-s
returns-then-end-s c = let a = c.args in past_some a.s.now a.from a.mark _ c.end_at-end.ensures c.if-end-s.true

pub returns-else-end-s : goal.returns-else-end-s
returns-else-end-s c = let a = c.args in past_none a.s.now a.from a.mark _ c.end_at-end.ensures c.if-end-s.false
