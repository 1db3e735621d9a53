use borrow.Author.Rules.{rules}
use mathlib.Core.Path.{◌≡◌, sym, ap, ◌∙◌}
use mathlib.Core.List.{List}
use Prim.Native.Nat.{ℕ, ◌+◌, ◌-◌, ◌≤◌, ◌<◌}
use native.Mathlib.Omega.{arith}
use borrow.Author.Tests.{not-true, not-false}
use lib.ListN.{length}
use Rattle.syntax.specs.Segment.{segment_at}
use Rattle.placing.specs.Table.{Table}
use Rattle.placing.specs.Tables.{tables as all}
use Rattle.steps.specs.declared.state.State.{State}
use Rattle.steps.specs.declared.state.Row.{Row}
use Rattle.interchange.specs.declared.turn.Turn.{Turn}
use Rattle.interchange.specs.Reader.{turn_with}
use Rattle.interchange.specs.Laws.{length_put_row}
use Rattle.interchange.specs.Offsets.{with_on}
use Rattle.interchange.specs.Room.{room_size, room_rows}
use Rattle.interchange.specs.Passes.{passed_moved}
use Rattle.interchange.specs.Stretch.{Stretched, stretch_on, halt_verdict}
use Rattle.interchange.specs.Stretches.{Rest, rest_start, rest_as, rest_size, rest_full, rest_passed, rest_stop, rest_on, rest_other, reached_as}
use Rattle.interchange.proofs.stretch.stretch_on.Given as goal

abbrev pub invariant-loop-numbers : goal.invariant-loop-numbers
invariant-loop-numbers l =
    ((w : Stretched) (lent : List ℕ) → length lent ≡ room_size → Rest l.s l.reference w lent l.initial.state l.initial.at l.initial.numbers l.initial.room → Rest l.s l.reference w lent l.state l.at l.numbers l.room)
    × (l.numbers ≤ room_size)
    × (l.at ≤ length l.s)

abbrev pub decreases-loop-numbers : goal.decreases-loop-numbers
decreases-loop-numbers l = room_size - l.numbers
