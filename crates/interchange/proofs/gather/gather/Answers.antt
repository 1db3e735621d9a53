use Rattle.std.proofs.lemmas.Result.{err_from_is_err_and}
use Rattle.answers.specs.declared.Refusal.{Refusal}
use Rattle.std.specs.Prelude.{Result, Ok, Err}
use mathlib.Core.Path.{◌≡◌, refl, sym, ap, ◌∙◌}
use mathlib.Core.Bool.{Bool, false}
use mathlib.Core.List.{List}
use Prim.Native.Nat.{ℕ, ◌+◌, ◌-◌, ◌≤◌, ◌<◌}
use native.Mathlib.Omega.{arith}
use borrow.Author.Rules.{rules}
use lib.ListN.{length}
use Rattle.answers.specs.Answers.{wrong_envelope}
use Rattle.placing.specs.Table.{Table}
use Rattle.placing.specs.Tables.{tables as all}
use Rattle.steps.specs.declared.state.State.{State}
use Rattle.steps.specs.declared.state.Row.{Row}
use Rattle.interchange.specs.declared.turn.Turn.{Turn}
use Rattle.interchange.specs.Reader.{is_closed, turn_at}
use Rattle.interchange.specs.Laws.{length_put_row, put_row}
use Rattle.interchange.specs.Offsets.{turn_on}
use Rattle.interchange.specs.Room.{room_size}
use Rattle.interchange.specs.Moves.{Moved, moved_none, moved_both, moved_turn, moved_as}
use Rattle.interchange.specs.Passes.{passed_moved}
use Rattle.interchange.specs.Chunks.{gathered_by, ended_at, chunk_as, chunk_past, chunk_stop, chunk_ended, chunk_full}
use Rattle.interchange.proofs.gather.gather.Goals.{After-put_row, After-take_turn, At-loop-numbers, In_ok-turn}
use Rattle.interchange.proofs.gather.gather.Goals as goal

-- where the loop stands
module _ (o : At-loop-numbers) where
  so_far : Moved o.args.s.now o.args.start o.args.from 0 o.args.room.now o.loop-numbers.st o.loop-numbers.at o.loop-numbers.numbers o.loop-numbers.room
  so_far = moved_both o.args.s.now (moved_as o.args.s.now o.led-st.ensures refl (passed_moved o.args.s.now o.run_on-begun.ensures)) o.loop-numbers.invariant.0

  size : length o.loop-numbers.room ≡ room_size
  size = so_far.sized ∙ o.requires.3

-- the turn that was taken
module _ (t : After-take_turn) where
  open_still : is_closed t.loop-numbers.st.phase ≡ false
  open_still = sym t.is_closed.ensures ∙ t.if-is_closed.false

  turned : (x : Result Turn Refusal) → t.take_turn.result ≡ x → turn_at all t.args.s.now t.loop-numbers.st t.loop-numbers.at ≡ x
  turned x e =
      let p = t.requires in
      ap (λ (u : Table). turn_at u t.args.s.now t.loop-numbers.st t.loop-numbers.at) (sym p.0)
      ∙ sym t.take_turn.ensures ∙ e

-- the row, and where the next segment starts
module _ (k : In_ok-turn) (on : turn_at all k.args.s.now k.loop-numbers.st k.loop-numbers.at ≡ Ok k.in_ok-turn.turn) (size : length k.loop-numbers.room ≡ room_size) where
  placed : (k.in_ok-turn.turn.row.offset ≡ k.loop-numbers.at) × (k.loop-numbers.at + 4 ≤ k.in_ok-turn.turn.then) × (k.in_ok-turn.turn.then ≤ length k.args.s.now)
  placed = turn_on all k.args.s.now k.loop-numbers.st k.loop-numbers.at k.in_ok-turn.turn.state k.in_ok-turn.turn.row k.in_ok-turn.turn.then on

  fits : k.loop-numbers.numbers + 2 < length k.loop-numbers.room
  fits =
      let l = k.loop-numbers-test.true in
      omega arith

-- the row is put
module _ (p : After-put_row) (still : is_closed p.loop-numbers.st.phase ≡ false) (on : turn_at all p.args.s.now p.loop-numbers.st p.loop-numbers.at ≡ Ok p.in_ok-turn.turn) (size : length p.loop-numbers.room ≡ room_size) where
  put_size : length p.put_row.new.to ≡ room_size
  put_size = ap length p.put_row.ensures ∙ length_put_row p.loop-numbers.room p.loop-numbers.numbers p.in_ok-turn.turn.row ∙ size

  put_moved : Moved p.args.s.now p.loop-numbers.st p.loop-numbers.at p.loop-numbers.numbers p.loop-numbers.room p.in_ok-turn.turn.state p.in_ok-turn.turn.then (p.loop-numbers.numbers + 3) p.put_row.new.to
  put_moved =
      let l = p.loop-numbers-test.true in
      moved_as p.args.s.now refl p.put_row.ensures
      (moved_turn p.args.s.now p.loop-numbers.st p.loop-numbers.at p.loop-numbers.numbers p.loop-numbers.room p.in_ok-turn.turn.state p.in_ok-turn.turn.row p.in_ok-turn.turn.then
      still p.if-s-at.false on (omega arith))

pub run_on-begun-requires : goal.run_on-begun-requires
run_on-begun-requires c =
    let p = c.requires in
    (p.0, p.1, p.2, p.3, omega arith)

pub loop-numbers-init : goal.loop-numbers-init
loop-numbers-init c =
    let a = c.args in
    let f = c.run_on-begun.ensures.fits in
    let z = c.requires.3 in
    (moved_none a.s.now c.led-st.result c.run_on-begun.result.at c.run_on-begun.result.numbers c.run_on-begun.new.room, omega arith, (moved_as a.s.now c.led-st.ensures refl (passed_moved a.s.now c.run_on-begun.ensures)).within c.requires.4)

pub shape_of-room-then-s-at : goal.shape_of-room-then-s-at
shape_of-room-then-s-at c = (so_far (goal.at.shape_of-room-then-s-at c).At-loop-numbers).sized

pub returns-then-s-at : goal.returns-then-s-at
returns-then-s-at c =
    let a = c.args in
    let l = c.loop-numbers in (
      chunk_as c.args.s.now a.start a.from (ended_at (is_closed l.st.phase) l.numbers (length c.args.s.now)) c.ended.result l.room (sym c.ended.ensures)
          (chunk_ended c.args.s.now a.start a.from a.room.now l.st l.at l.numbers l.room (so_far (goal.at.returns-then-s-at c).At-loop-numbers) c.if-s-at.true l.invariant.2 l.invariant.1 (is_closed l.st.phase) refl),
      size (goal.at.returns-then-s-at c).At-loop-numbers,
    )

pub shape_of-room-then-is_closed : goal.shape_of-room-then-is_closed
shape_of-room-then-is_closed c = (so_far (goal.at.shape_of-room-then-is_closed c).At-loop-numbers).sized

pub returns-then-is_closed : goal.returns-then-is_closed
returns-then-is_closed c =
    let a = c.args in
    let l = c.loop-numbers in (
      chunk_as c.args.s.now a.start a.from (gathered_by (wrong_envelope l.at)) c.past_end.result l.room (sym c.past_end.ensures)
          (chunk_past c.args.s.now a.start a.from a.room.now l.st l.at l.numbers l.room (so_far (goal.at.returns-then-is_closed c).At-loop-numbers) c.if-s-at.false (sym c.is_closed.ensures ∙ c.if-is_closed.true)),
      size (goal.at.returns-then-is_closed c).At-loop-numbers,
    )

pub overflow_cast-at : goal.overflow_cast-at
overflow_cast-at c =
    let p = c.requires.2 in
    let l = c.if-s-at.false in
    omega arith

pub put_row-requires : goal.put_row-requires
put_row-requires c = (fits (goal.at.put_row-requires c).In_ok-turn (turned (goal.at.put_row-requires c).After-take_turn (Ok c.in_ok-turn.turn) c.in_ok-turn.was) (size (goal.at.put_row-requires c).At-loop-numbers), sym (placed (goal.at.put_row-requires c).In_ok-turn (turned (goal.at.put_row-requires c).After-take_turn (Ok c.in_ok-turn.turn) c.in_ok-turn.was) (size (goal.at.put_row-requires c).At-loop-numbers)).0)

pub overflow_add-after : goal.overflow_add-after
overflow_add-after c =
    let l = fits (goal.at.overflow_add-after c).In_ok-turn (turned (goal.at.overflow_add-after c).After-take_turn (Ok c.in_ok-turn.turn) c.in_ok-turn.was) (size (goal.at.overflow_add-after c).At-loop-numbers) in
    let w = size (goal.at.overflow_add-after c).At-loop-numbers in
    omega arith

pub run_on-ran-requires : goal.run_on-ran-requires
run_on-ran-requires c =
    let q = c.requires in
    let l = fits (goal.at.run_on-ran-requires c).In_ok-turn (turned (goal.at.run_on-ran-requires c).After-take_turn (Ok c.in_ok-turn.turn) c.in_ok-turn.was) (size (goal.at.run_on-ran-requires c).At-loop-numbers) in
    let w = size (goal.at.run_on-ran-requires c).At-loop-numbers in
    (q.0, q.1, q.2, put_size (goal.at.run_on-ran-requires c).After-put_row (open_still (goal.at.run_on-ran-requires c).After-take_turn) (turned (goal.at.run_on-ran-requires c).After-take_turn (Ok c.in_ok-turn.turn) c.in_ok-turn.was) (size (goal.at.run_on-ran-requires c).At-loop-numbers), omega arith)

pub loop-numbers-smaller : goal.loop-numbers-smaller
loop-numbers-smaller c =
    let e = c.run_on-ran.ensures in
    let n = e.count in
    let l = c.loop-numbers-test.true in
    omega arith

pub loop-numbers-preserved : goal.loop-numbers-preserved
loop-numbers-preserved c =
    let e = c.run_on-ran.ensures in
    let m = moved_as c.args.s.now c.led-st-in-loop-numbers.ensures refl (moved_both c.args.s.now (put_moved (goal.at.loop-numbers-preserved c).After-put_row (open_still (goal.at.loop-numbers-preserved c).After-take_turn) (turned (goal.at.loop-numbers-preserved c).After-take_turn (Ok c.in_ok-turn.turn) c.in_ok-turn.was) (size (goal.at.loop-numbers-preserved c).At-loop-numbers)) (passed_moved c.args.s.now e)) in
    let f = e.fits in
    let z = put_size (goal.at.loop-numbers-preserved c).After-put_row (open_still (goal.at.loop-numbers-preserved c).After-take_turn) (turned (goal.at.loop-numbers-preserved c).After-take_turn (Ok c.in_ok-turn.turn) c.in_ok-turn.was) (size (goal.at.loop-numbers-preserved c).At-loop-numbers) in
    (moved_both c.args.s.now c.loop-numbers.invariant.0 m, omega arith, m.within c.loop-numbers.invariant.2)

pub shape_of-room-in_err-turn : goal.shape_of-room-in_err-turn
shape_of-room-in_err-turn c = (so_far (goal.at.shape_of-room-in_err-turn c).At-loop-numbers).sized

pub returns-in_err-turn : goal.returns-in_err-turn
returns-in_err-turn c =
    let a = c.args in
    let q = err_from_is_err_and c.from_residual.result c.from_residual.ensures.1 in
    let l = c.loop-numbers in (
      rw (q.1, q.2) (chunk_stop c.args.s.now a.start a.from a.room.now l.st l.at l.numbers l.room (so_far (goal.at.returns-in_err-turn c).At-loop-numbers) c.if-s-at.false (open_still (goal.at.returns-in_err-turn c).After-take_turn) c.in_err-turn.field-0.0 (turned (goal.at.returns-in_err-turn c).After-take_turn (Err c.in_err-turn.field-0.0) c.in_err-turn.was)),
      size (goal.at.returns-in_err-turn c).At-loop-numbers,
    )

pub shape_of-room : goal.shape_of-room
shape_of-room c = (so_far (goal.at.shape_of-room c).At-loop-numbers).sized

pub returns : goal.returns
returns c =
    let a = c.args in
    let l = c.loop-numbers in
    (chunk_full c.args.s.now a.start a.from a.room.now l.st l.at l.numbers l.room (so_far (goal.at.returns c).At-loop-numbers) l.invariant.2 l.invariant.1 c.loop-numbers-test.false, size (goal.at.returns c).At-loop-numbers)
