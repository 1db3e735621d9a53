-- `placing::Place::step` meets its contract. Assumes nothing.
use mathlib.Core.Path.{◌≡◌}
use Rattle.placing.specs.Rule.{choices_from, first_of, step_of}
use Rattle.placing.proofs.Place.step.Given as goal

abbrev pub invariant-loop-stepped : goal.invariant-loop-stepped
invariant-loop-stepped l = first_of l.table l.self l.tag (choices_from l.level l.table l.self l.row) ≡ step_of l.table l.self l.tag

abbrev pub decreases-loop-stepped : goal.decreases-loop-stepped
decreases-loop-stepped l = l.level
