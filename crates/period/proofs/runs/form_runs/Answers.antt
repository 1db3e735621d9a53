-- `form_runs` meets its contract.
-- Assumes nothing.
use mathlib.Core.Path.{ap, ◌∙◌}
use native.Mathlib.Omega.{arith}
use mathlib.Core.List.{List}
use Prim.Native.Nat.{ℕ}
use Rattle.syntax.specs.Bytes.{plain}
use Rattle.parts.specs.Places.{bytes_of}
use Prim.Native.Nat.{◌+◌, ◌%◌}
use lib.ListN.{get_or}
use Rattle.laws.specs.Choice.{among}
use Rattle.dates.specs.Laws.{weekday_range}
use Rattle.period.specs.Tests.{runs_every, runs_string, runs_weekdays}
use Rattle.period.proofs.runs.form_runs.Goals as goal

pub overflow_add-weekday : goal.overflow_add-weekday
overflow_add-weekday c = let r = weekday_range (c.args.first % 7 + c.args.k % 7) in let e = c.weekday-weekday.ensures in omega arith

pub returns-in-Every : goal.returns-in-Every
returns-in-Every c =
    let a = c.args in
    runs_every (bytes_of a.s.now a.segment) a.first a.k c.in-Every.is

pub returns-in-ByString : goal.returns-in-ByString
returns-in-ByString c =
    let a = c.args in
    runs_string (bytes_of a.s.now a.segment) a.first a.k c.in-ByString.is (c.character_at.ensures ∙ ap (λ (x : List ℕ). get_or (plain x) a.k 0) c.part_of.ensures)

pub returns-in-ByWeekdays : goal.returns-in-ByWeekdays
returns-in-ByWeekdays c =
    let a = c.args in
    runs_weekdays (bytes_of a.s.now a.segment) a.first a.k c.in-ByWeekdays.is c.weekday-weekday.ensures (c.has_character.ensures ∙ ap (λ (x : List ℕ). among (48 + c.weekday-weekday.result) (plain x)) c.part_of-in-ByWeekdays.ensures)
