use mathlib.Core.Path.{◌≡◌, refl, sym, ap, subst, ◌∙◌}
use mathlib.Core.Bool.{Bool, true}
use mathlib.Core.List.{List}
use Prim.Native.Nat.{ℕ, ◌+◌, ◌-◌, ◌/◌, ◌≤◌, ◌<◌}
use native.Mathlib.Omega.{arith}
use borrow.Author.Rules.{rules}
use borrow.Author.Tests.{not-false}
use lib.Dec.{T, eqb}
use lib.ListN.{length, drop}
use Rattle.syntax.specs.Ends.{end_within}
use Rattle.laws.specs.Choice.{pick}
use Rattle.period.specs.Period.{is_good, period_of}
use Rattle.syntax.specs.Segment.{body_at, tag_number}
use Rattle.steps.specs.declared.state.Row.{Row}
use Rattle.placing.specs.Table.{Table, group_at}
use Rattle.hints.specs.Told.{right}
use Rattle.hints.specs.Laws.{Stood}
use Rattle.hints.specs.Packing.{place_of}
use Rattle.steps.specs.State.{moved_state}
use Rattle.interchange.specs.Laws.{put_row}
use Rattle.interchange.specs.Room.{room_size}
use Rattle.interchange.specs.Passes.{row_with, Passed, passed_as, passed_sized}
use Rattle.interchange.specs.declared.led.PeriodRow.{PeriodRow}
use Rattle.interchange.specs.Led.{Tells, led_known}
use Rattle.interchange.specs.Runs.{counted_of, counted_step, passed_start, passed_here, own_both, own_few, onward_capitals, passed_told}
use Rattle.interchange.proofs.run.run.Given as goal

abbrev pub invariant-loop-numbers : goal.invariant-loop-numbers
invariant-loop-numbers l =
    Passed l.s l.st l.initial.at l.initial.numbers l.initial.room (moved_state l.st (place_of l.place.row l.place.counts) (counted_of l.st.segments ((l.numbers - l.first) / 3))) l.at l.numbers l.room
    × (l.numbers ≤ room_size)
    × (l.first ≤ l.numbers)
    × (l.place.row < length l.hints)
    × Stood l.table (place_of l.place.row l.place.counts)
    × (l.place.counts < 18446744073709551616)
    × (l.at ≤ length l.s)

abbrev pub decreases-loop-numbers : goal.decreases-loop-numbers
decreases-loop-numbers l = room_size - l.numbers
