-- `test_window` meets its contract.
-- Assumes nothing.
use mathlib.Core.Path.{◌≡◌}
use Rattle.services.specs.Services.{periods_from}
use Rattle.services.specs.Walks.{periods_left}
use Rattle.stages.specs.Stage.{first_outside}
use Rattle.service_tests.proofs.test_window.Given as goal

abbrev pub invariant-loop-at : goal.invariant-loop-at
invariant-loop-at l = first_outside l.wish l.first l.s (periods_left l.at-iterator) ≡ first_outside l.wish l.first l.s (periods_from l.rows l.from l.to)
