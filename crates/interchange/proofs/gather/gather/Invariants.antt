use mathlib.Core.Path.{◌≡◌, refl, sym, ap, ◌∙◌}
use mathlib.Core.Bool.{Bool, false}
use mathlib.Core.List.{List}
use Prim.Native.Nat.{ℕ, ◌+◌, ◌-◌, ◌≤◌, ◌<◌}
use native.Mathlib.Omega.{arith}
use borrow.Author.Rules.{rules}
use lib.ListN.{length}
use Rattle.answers.specs.Answers.{wrong_envelope}
use Rattle.placing.specs.Table.{Table}
use Rattle.placing.specs.Tables.{tables as all}
use Rattle.steps.specs.declared.state.State.{State}
use Rattle.steps.specs.declared.state.Row.{Row}
use Rattle.interchange.specs.declared.turn.Turn.{Turn}
use Rattle.interchange.specs.Reader.{is_closed, turn_at}
use Rattle.interchange.specs.Laws.{length_put_row, put_row}
use Rattle.interchange.specs.Offsets.{turn_on}
use Rattle.interchange.specs.Room.{room_size}
use Rattle.interchange.specs.Moves.{Moved, moved_none, moved_both, moved_turn, moved_as}
use Rattle.interchange.specs.Passes.{passed_moved}
use Rattle.interchange.specs.Chunks.{gathered_by, ended_at, chunk_as, chunk_past, chunk_stop, chunk_ended, chunk_full}
use Rattle.interchange.proofs.gather.gather.Given as goal

abbrev pub invariant-loop-numbers : goal.invariant-loop-numbers
invariant-loop-numbers l = Moved l.s l.initial.st l.initial.at l.initial.numbers l.initial.room l.st l.at l.numbers l.room × (l.numbers ≤ room_size) × (l.at ≤ length l.s)

abbrev pub decreases-loop-numbers : goal.decreases-loop-numbers
decreases-loop-numbers l = room_size - l.numbers
