use Rattle.answers.specs.declared.Refusal.{Refusal}
use Rattle.std.specs.Prelude.{Result, Ok, Err}
use borrow.Author.Rules.{rules}
use mathlib.Core.Path.{◌≡◌, sym, ap, ◌∙◌}
use mathlib.Core.List.{List}
use Prim.Native.Nat.{ℕ, ◌+◌, ◌-◌, ◌≤◌, ◌<◌}
use native.Mathlib.Omega.{arith}
use borrow.Author.Tests.{not-true, not-false}
use lib.ListN.{length}
use Rattle.syntax.specs.Segment.{segment_at}
use Rattle.placing.specs.Table.{Table}
use Rattle.placing.specs.Tables.{tables as all}
use Rattle.steps.specs.declared.state.State.{State}
use Rattle.steps.specs.declared.state.Row.{Row}
use Rattle.interchange.specs.declared.turn.Turn.{Turn}
use Rattle.interchange.specs.Reader.{turn_with}
use Rattle.interchange.specs.Laws.{length_put_row}
use Rattle.interchange.specs.Offsets.{with_on}
use Rattle.interchange.specs.Room.{room_size, room_rows}
use Rattle.interchange.specs.Passes.{passed_moved}
use Rattle.interchange.specs.Stretch.{Stretched, stretch_on, halt_verdict}
use Rattle.interchange.specs.Stretches.{Rest, rest_start, rest_as, rest_size, rest_full, rest_passed, rest_stop, rest_on, rest_other, reached_as}
use Rattle.interchange.proofs.stretch.stretch_on.Goals.{After-put_row, After-turn_with, At-loop-numbers, In-Ok}
use Rattle.interchange.proofs.stretch.stretch_on.Goals as goal

-- where the loop stands
module _ (o : At-loop-numbers) where
  abbrev whole : Stretched
  whole = stretch_on room_rows o.args.s.now o.args.reference.now o.args.from 0

  -- the first segments that only move the place on
  began : Rest o.args.s.now o.args.reference.now whole o.args.room.now o.led-state.result o.run_on-begun.result.at o.run_on-begun.result.numbers o.run_on-begun.new.room
  began =
      rest_as o.args.s.now o.args.reference.now whole o.args.room.now o.led-state.ensures
      (rest_passed o.args.s.now o.args.reference.now whole o.args.room.now o.requires.3 o.args.from 0 0 o.args.room.now (rest_start o.args.s.now o.args.reference.now o.args.from o.args.room.now) o.run_on-begun.ensures)

  so_far : Rest o.args.s.now o.args.reference.now whole o.args.room.now o.loop-numbers.state o.loop-numbers.at o.loop-numbers.numbers o.loop-numbers.room
  so_far = o.loop-numbers.invariant.0 whole o.args.room.now o.requires.3 began

  size : length o.loop-numbers.room ≡ room_size
  size = rest_size o.args.s.now o.args.reference.now whole o.args.room.now o.requires.3 o.loop-numbers.state o.loop-numbers.at o.loop-numbers.numbers o.loop-numbers.room so_far

-- the turn that was taken
module _ (t : After-turn_with) where
  turned : (x : Result Turn Refusal) → t.turn_with.result ≡ x → turn_with all t.args.s.now t.args.reference.now t.args.reference.now t.loop-numbers.state t.loop-numbers.at (segment_at t.args.s.now t.loop-numbers.at) ≡ x
  turned x e =
      ap (λ (u : Table). turn_with u t.args.s.now t.args.reference.now t.args.reference.now t.loop-numbers.state t.loop-numbers.at (segment_at t.args.s.now t.loop-numbers.at)) (sym t.requires.0)
      ∙ sym t.turn_with.ensures ∙ e

-- the row, and where the next segment starts
module _ (k : In-Ok) (on : turn_with all k.args.s.now k.args.reference.now k.args.reference.now k.loop-numbers.state k.loop-numbers.at (segment_at k.args.s.now k.loop-numbers.at) ≡ Ok k.in-Ok.turn) where
  placed : (k.in-Ok.turn.row.offset ≡ k.loop-numbers.at) × (k.loop-numbers.at + 4 ≤ k.in-Ok.turn.then) × (k.in-Ok.turn.then ≤ length k.args.s.now)
  placed = with_on all k.args.s.now k.args.reference.now k.args.reference.now k.loop-numbers.state k.loop-numbers.at k.in-Ok.turn.state k.in-Ok.turn.row k.in-Ok.turn.then on

-- the row is put
module _ (p : After-put_row) (size : length p.loop-numbers.room ≡ room_size) where
  put_size : length p.put_row.new.to ≡ room_size
  put_size = ap length p.put_row.ensures ∙ length_put_row p.loop-numbers.room p.loop-numbers.numbers p.in-Ok.turn.row ∙ size

pub run_on-begun-requires : goal.run_on-begun-requires
run_on-begun-requires c =
    let p = c.requires in
    (p.0, p.1, p.2, p.3, omega arith)

pub loop-numbers-init : goal.loop-numbers-init
loop-numbers-init c =
    let f = c.run_on-begun.ensures.fits in
    let z = c.requires.3 in
    (λ w lent z v. v, omega arith, (passed_moved c.args.s.now c.run_on-begun.ensures).within (omega arith))

pub overflow_cast-at : goal.overflow_cast-at
overflow_cast-at c =
    let p = c.requires.2 in
    let l = c.loop-numbers.invariant.2 in
    omega arith

pub put_row-requires : goal.put_row-requires
put_row-requires c =
    let w = size (goal.at.put_row-requires c).At-loop-numbers in
    let l = c.loop-numbers-test.true in
    (omega arith, sym (placed (goal.at.put_row-requires c).In-Ok (turned (goal.at.put_row-requires c).After-turn_with (Ok c.in-Ok.turn) c.in-Ok.is)).0)

pub overflow_add-numbers : goal.overflow_add-numbers
overflow_add-numbers c =
    let l = c.loop-numbers-test.true in
    let w = size (goal.at.overflow_add-numbers c).At-loop-numbers in
    omega arith

pub shape_of-room-then-not-is_same : goal.shape_of-room-then-not-is_same
shape_of-room-then-not-is_same c = put_size (goal.at.shape_of-room-then-not-is_same c).After-put_row (size (goal.at.shape_of-room-then-not-is_same c).At-loop-numbers) ∙ sym c.requires.3

pub returns-then-not-is_same : goal.returns-then-not-is_same
returns-then-not-is_same c =
    let q = c.halted.ensures in
    let d = c.is_same.ensures in
    reached_as (whole (goal.at.returns-then-not-is_same c).At-loop-numbers) c.args.room.now q.0 q.1 q.2 (ap halt_verdict q.3)
    (rest_other c.args.s.now c.args.reference.now (whole (goal.at.returns-then-not-is_same c).At-loop-numbers) c.args.room.now c.requires.3 c.loop-numbers.state c.loop-numbers.at c.loop-numbers.numbers c.loop-numbers.room (so_far (goal.at.returns-then-not-is_same c).At-loop-numbers)
    c.loop-numbers-test.true c.in-Ok.turn.state c.in-Ok.turn.row c.in-Ok.turn.then (turned (goal.at.returns-then-not-is_same c).After-turn_with (Ok c.in-Ok.turn) c.in-Ok.is) c.put_row.new.to c.put_row.ensures (sym d ∙ c.if-not-is_same.true))

pub run_on-ran-requires : goal.run_on-ran-requires
run_on-ran-requires c =
    let q = c.requires in
    let l = c.loop-numbers-test.true in
    let w = size (goal.at.run_on-ran-requires c).At-loop-numbers in
    (q.0, q.1, q.2, put_size (goal.at.run_on-ran-requires c).After-put_row (size (goal.at.run_on-ran-requires c).At-loop-numbers), omega arith)

pub loop-numbers-smaller : goal.loop-numbers-smaller
loop-numbers-smaller c =
    let n = c.run_on-ran.ensures.count in
    let l = c.loop-numbers-test.true in
    omega arith

pub loop-numbers-preserved : goal.loop-numbers-preserved
loop-numbers-preserved c =
    let m = c.run_on-ran.ensures in
    let f = m.fits in
    let z = put_size (goal.at.loop-numbers-preserved c).After-put_row (size (goal.at.loop-numbers-preserved c).At-loop-numbers) in
    let d = sym c.is_same.ensures ∙ c.if-not-is_same.false in (
      λ w lent z v.
          rest_as c.args.s.now c.args.reference.now w lent c.led-state-in-Ok.ensures
          (rest_passed c.args.s.now c.args.reference.now w lent z c.in-Ok.turn.state c.in-Ok.turn.then (c.loop-numbers.numbers + 3) c.put_row.new.to
          (rest_on c.args.s.now c.args.reference.now w lent z c.loop-numbers.state c.loop-numbers.at c.loop-numbers.numbers c.loop-numbers.room (c.loop-numbers.invariant.0 w lent z v)
          c.loop-numbers-test.true c.in-Ok.turn.state c.in-Ok.turn.row c.in-Ok.turn.then (turned (goal.at.loop-numbers-preserved c).After-turn_with (Ok c.in-Ok.turn) c.in-Ok.is) c.put_row.new.to c.put_row.ensures d)
          m),
      omega arith,
      (passed_moved c.args.s.now m).within (placed (goal.at.loop-numbers-preserved c).In-Ok (turned (goal.at.loop-numbers-preserved c).After-turn_with (Ok c.in-Ok.turn) c.in-Ok.is)).2,
    )

pub halt_at-halt-requires : goal.halt_at-halt-requires
halt_at-halt-requires c = c.loop-numbers.invariant.2

pub shape_of-room-in-Err : goal.shape_of-room-in-Err
shape_of-room-in-Err c = size (goal.at.shape_of-room-in-Err c).At-loop-numbers ∙ sym c.requires.3

pub returns-in-Err : goal.returns-in-Err
returns-in-Err c =
    let q = c.halted-in-Err.ensures in
    reached_as (whole (goal.at.returns-in-Err c).At-loop-numbers) c.args.room.now q.0 q.1 q.2 (ap halt_verdict q.3 ∙ c.halt_at-halt.ensures)
    (rest_stop c.args.s.now c.args.reference.now (whole (goal.at.returns-in-Err c).At-loop-numbers) c.args.room.now c.requires.3 c.loop-numbers.state c.loop-numbers.at c.loop-numbers.numbers c.loop-numbers.room (so_far (goal.at.returns-in-Err c).At-loop-numbers)
    c.loop-numbers-test.true c.in-Err.refusal (turned (goal.at.returns-in-Err c).After-turn_with (Err c.in-Err.refusal) c.in-Err.is))

pub shape_of-room : goal.shape_of-room
shape_of-room c = size (goal.at.shape_of-room c).At-loop-numbers ∙ sym c.requires.3

pub returns : goal.returns
returns c =
    let q = c.halted-2.ensures in
    reached_as (whole (goal.at.returns c).At-loop-numbers) c.args.room.now q.0 q.1 q.2 (ap halt_verdict q.3)
    (rest_full c.args.s.now c.args.reference.now (whole (goal.at.returns c).At-loop-numbers) c.args.room.now c.requires.3 c.loop-numbers.state c.loop-numbers.at c.loop-numbers.numbers c.loop-numbers.room (so_far (goal.at.returns c).At-loop-numbers) c.loop-numbers-test.false)
