-- `short_count` meets its contract: the days left decide as all the days do.
-- Assumes nothing.
use mathlib.Core.Path.{◌≡◌}
use Rattle.calendar.specs.Written.{short_count}
use Rattle.calendar.proofs.day_string.short_count.Given as goal

abbrev pub invariant-loop-k : goal.invariant-loop-k
invariant-loop-k l = short_count l.days l.k ≡ short_count l.days l.n
