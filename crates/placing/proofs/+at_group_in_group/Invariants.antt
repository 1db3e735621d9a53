-- The depth left falls from call to call; the loop has still to read what the group's reading is from here on.
use Rattle.std.proofs.Common.{◌-◌, ◌≡◌, ◌+◌}
use Rattle.placing.specs.Table.{places}
use Rattle.placing.specs.Rule.{fits}
use Rattle.placing.specs.Reading.{read, read_group}
use Rattle.placing.proofs.+at_group_in_group.Given as goal

abbrev pub decreases-at_place : goal.decreases-at_place
decreases-at_place l = l.depth + l.depth + l.depth + 2

abbrev pub decreases-at_group : goal.decreases-at_group
decreases-at_group l = l.depth + l.depth + l.depth + 1

abbrev pub decreases-in_group : goal.decreases-in_group
decreases-in_group l = l.depth + l.depth + l.depth

abbrev pub invariant-in_group-loop-row : goal.invariant-in_group-loop-row
invariant-in_group-loop-row l = read (fits (l.depth - 1) l.table l.tag) l.table (places l.table l.row l.end) ≡ read_group l.depth l.table l.tag l.from l.end

abbrev pub decreases-in_group-loop-row : goal.decreases-in_group-loop-row
decreases-in_group-loop-row l = l.end - l.row
