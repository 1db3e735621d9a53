-- `days_of` meets its contract.
-- Assumes nothing.
use mathlib.Core.Path.{◌≡◌}
use mathlib.Core.List.{map}
use lib.ListN.{length, replicate}
use Rattle.syntax.specs.Segment.{body_at}
use Rattle.joining.specs.Joined.{join_all}
use Rattle.services.specs.Services.{periods_from}
use Rattle.services.specs.Walks.{periods_left}
use Rattle.service_entries.proofs.days_of.Given as goal

abbrev pub invariant-loop-at : goal.invariant-loop-at
invariant-loop-at l =
    (join_all l.wish l.days l.first (map (body_at l.s) (periods_left l.at-iterator)) ≡ join_all l.wish (replicate 64 0) l.first (map (body_at l.s) (periods_from l.rows l.from l.to))) × (length l.days ≡ 64)
