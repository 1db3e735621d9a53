use Rattle.std.proofs.Common.{◌≡◌, ◌+◌, ◌*◌, ◌≤◌, ◌<◌, length, ℕ, ◌-◌}
use Rattle.placing.specs.Tables as placing
use Rattle.hints.specs.Hints as hinting
use Rattle.steps.specs.State.{opening_state}
use Rattle.interchange.specs.Reader.{reading_of, read_answer, outcome_answer, rows_after}
use Rattle.interchange.specs.Room.{least_bytes}
use Rattle.interchange.specs.Chunks.{whole_from}
use Rattle.interchange.specs.Answers.{Behind}
use Rattle.interchange.proofs.reader.+read_on.Given as goal

-- proposed from what the function passes where it calls itself
abbrev pub decreases-read_on : goal.decreases-read_on
decreases-read_on l = l.calls
