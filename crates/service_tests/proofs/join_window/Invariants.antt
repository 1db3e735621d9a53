-- `join_window` meets its contract.
-- Assumes nothing.
use mathlib.Core.Path.{◌≡◌}
use mathlib.Core.Bool.{true}
use mathlib.Core.List.{map}
use lib.ListN.{length}
use Rattle.laws.specs.Choice.{either}
use Rattle.syntax.specs.Segment.{body_at}
use Rattle.joining.specs.Joined.{join_all}
use Rattle.services.specs.Services.{periods_from}
use Rattle.services.specs.Walks.{periods_left}
use Rattle.stages.specs.Stage.{first_outside}
use Rattle.service_tests.specs.Ways.{any_of}
use Rattle.service_tests.proofs.join_window.Given as goal

abbrev pub invariant-loop-at : goal.invariant-loop-at
invariant-loop-at l =
    (first_outside true l.first l.s (periods_left l.at-iterator) ≡ first_outside true l.first l.s (periods_from l.rows l.from l.to))
    × (join_all true l.days l.first (map (body_at l.s) (periods_left l.at-iterator)) ≡ join_all true l.initial.days l.first (map (body_at l.s) (periods_from l.rows l.from l.to)))
    × (length l.days ≡ length l.initial.days)
    × (either l.carries (any_of (periods_left l.at-iterator)) ≡ any_of (periods_from l.rows l.from l.to))
