use mathlib.Core.Path.{◌≡◌, refl, sym, ap, subst, ◌∙◌}
use mathlib.Core.Bool.{Bool, true}
use mathlib.Core.List.{List}
use Prim.Native.Nat.{ℕ, ◌+◌, ◌-◌, ◌/◌, ◌≤◌, ◌<◌}
use native.Mathlib.Omega.{arith}
use borrow.Author.Rules.{rules}
use borrow.Author.Tests.{not-false}
use lib.Dec.{T, eqb}
use lib.ListN.{length, drop}
use Rattle.syntax.specs.Ends.{end_within}
use Rattle.laws.specs.Choice.{pick}
use Rattle.period.specs.Period.{is_good, period_of}
use Rattle.syntax.specs.Segment.{body_at, tag_number}
use Rattle.steps.specs.declared.state.Row.{Row}
use Rattle.placing.specs.Table.{Table, group_at}
use Rattle.hints.specs.Told.{right}
use Rattle.hints.specs.Laws.{Stood}
use Rattle.hints.specs.Packing.{place_of}
use Rattle.steps.specs.State.{moved_state}
use Rattle.interchange.specs.Laws.{put_row}
use Rattle.interchange.specs.Room.{room_size}
use Rattle.interchange.specs.Passes.{row_with, Passed, passed_as, passed_sized}
use Rattle.interchange.specs.declared.led.PeriodRow.{PeriodRow}
use Rattle.interchange.specs.Led.{Tells, led_known}
use Rattle.interchange.specs.Runs.{counted_of, counted_step, passed_start, passed_here, own_both, own_few, onward_capitals, passed_told}
use Rattle.interchange.proofs.run.run.Goals.{At-loop-numbers, In-Some-lead_on, Start}
use Rattle.interchange.proofs.run.run.Goals as goal

-- where the loop stands
module _ (o : At-loop-numbers) where
  hinted : (length o.args.hints.now ≡ length o.args.table.now) × T (right o.args.table.now o.args.hints.now)
  hinted =
      let a = o.args in
      own_both a.from.state.message a.table.now a.hints.now o.requires.1 o.requires.2

  size : length o.loop-numbers.room ≡ room_size
  size = passed_sized o.args.s.now o.loop-numbers.invariant.0 ∙ o.requires.5

-- where the segment led
module _ (k : In-Some-lead_on) where
  -- the row of the period, by the caller's wish
  told : Tells k.args.s.now k.loop-numbers.at k.args.table.now k.loop-numbers.place.row k.loop-numbers.place.counts k.args.period k.in-Some-lead_on.led.place.row k.in-Some-lead_on.led.place.counts k.in-Some-lead_on.led.end
  told = led_known k.args.s.now k.loop-numbers.at k.args.table.now k.loop-numbers.place.row k.loop-numbers.place.counts k.args.period k.lead_on.ensures k.in-Some-lead_on.is

  within : (k.loop-numbers.at + 3 ≤ k.in-Some-lead_on.led.end) × (k.in-Some-lead_on.led.end < length k.args.s.now)
  within = end_within k.args.s.now k.loop-numbers.at k.in-Some-lead_on.led.end told.whole

pub returns-then-not-is_within : goal.returns-then-not-is_within
returns-then-not-is_within c =
    let a = c.args in
    let r = c.stay.result in
    let e = c.stay.ensures in
    let l = c.requires.6 in
    let z = c.requires.5 in
    passed_here a.s.now a.from.state a.from.at a.from.numbers a.room.now (omega arith) r.place r.segments r.at r.numbers e.0 e.1 e.2 e.3

pub returns-in_default : goal.returns-in_default
returns-in_default c =
    let a = c.args in
    let r = c.stay-in_default.result in
    let e = c.stay-in_default.ensures in
    let l = c.requires.6 in
    let z = c.requires.5 in
    passed_here a.s.now a.from.state a.from.at a.from.numbers a.room.now (omega arith) r.place r.segments r.at r.numbers e.0 e.1 e.2 e.3

pub overflow_sub-last : goal.overflow_sub-last
overflow_sub-last c =
    (c.is_within.ensures (c.if-not-is_within.false)).0

pub loop-numbers-init : goal.loop-numbers-init
loop-numbers-init c =
    let a = c.args in
    let p = c.requires in
    let r = c.in-Some.start in
    let q = c.in-Some.ensures in
    let w = (own_both a.from.state.message a.table.now a.hints.now p.1 p.2).0 in
    let i = q.inside in
    let u = (c.is_within.ensures (c.if-not-is_within.false)).1 in
    let z = p.5 in
    let f = p.6 in
    (passed_start a.s.now a.from.state a.from.at a.from.numbers a.room.now (omega arith) (place_of r.row r.counts) q.same, p.6, omega arith, omega arith, q.stood, q.fits, u)

pub overflow_add-at : goal.overflow_add-at
overflow_add-at c =
    let p = c.requires.4 in
    let l = c.loop-numbers.invariant.6 in
    omega arith

pub lead_on-requires : goal.lead_on-requires
lead_on-requires c =
    let a = c.args in
    let h = hinted (goal.at.lead_on-requires c).At-loop-numbers in
    (omega arith, c.loop-numbers.invariant.3, h.0, h.1, c.loop-numbers.invariant.4, onward_capitals a.from.state.message a.table.now c.requires.1, own_few a.from.state.message a.table.now c.requires.1)

pub overflow_cast-at : goal.overflow_cast-at
overflow_cast-at c =
    let p = c.requires.4 in
    let l = c.loop-numbers.invariant.6 in
    omega arith

pub placed-requires : goal.placed-requires
placed-requires c = (told (goal.at.placed-requires c).In-Some-lead_on).inside

pub put_row-requires : goal.put_row-requires
put_row-requires c =
    let w = size (goal.at.put_row-requires c).At-loop-numbers in
    let l = c.loop-numbers-test.true in
    (omega arith, sym (ap (λ (r : Row). r.offset) c.placed.ensures))

pub overflow_add-at-in-loop-numbers : goal.overflow_add-at-in-loop-numbers
overflow_add-at-in-loop-numbers c =
    let p = c.requires.4 in
    let l = (within (goal.at.overflow_add-at-in-loop-numbers c).In-Some-lead_on).1 in
    omega arith

pub loop-numbers-preserved : goal.loop-numbers-preserved
loop-numbers-preserved c =
    let a = c.args in
    let st = a.from.state in
    let t = told (goal.at.loop-numbers-preserved c).In-Some-lead_on in
    let w = size (goal.at.loop-numbers-preserved c).At-loop-numbers in
    let l = c.loop-numbers-test.true in
    let y = (hinted (goal.at.loop-numbers-preserved c).At-loop-numbers).0 in
    let u = t.inside in
    let p = c.requires in
    let i = c.loop-numbers.invariant in
    let e = (within (goal.at.loop-numbers-preserved c).In-Some-lead_on).1 in (
      passed_as c.args.s.now (ap (moved_state st (place_of c.in-Some-lead_on.led.place.row c.in-Some-lead_on.led.place.counts)) (counted_step st.segments a.from.numbers c.loop-numbers.numbers i.2)) refl
          (passed_told c.args.s.now st a.from.at a.from.numbers a.room.now st p.0 c.args.table.now p.1
          c.loop-numbers.place.row c.loop-numbers.place.counts (counted_of st.segments ((c.loop-numbers.numbers - a.from.numbers) / 3)) c.loop-numbers.at c.loop-numbers.numbers c.loop-numbers.room i.0
          c.in-Some-lead_on.led.end t.whole (tag_number (drop c.loop-numbers.at c.args.s.now)) refl c.in-Some-lead_on.led.place.row c.in-Some-lead_on.led.place.counts t.on
          a.period.row p.3 (subst (λ (u : Bool). pick (eqb c.in-Some-lead_on.led.place.row a.period.row) (is_good (period_of u (body_at c.args.s.now c.loop-numbers.at))) true ≡ true) p.7 t.good)
          (group_at c.args.table.now c.in-Some-lead_on.led.place.row) refl
          (omega arith) c.put_row.new.to
          (c.put_row.ensures ∙ ap (put_row c.loop-numbers.room c.loop-numbers.numbers) (c.placed.ensures ∙ ap (row_with c.loop-numbers.at (group_at c.args.table.now c.in-Some-lead_on.led.place.row)) t.tagged))),
      omega arith,
      omega arith,
      omega arith,
      t.on.stood,
      t.fits,
      omega arith,
    )

pub overflow_sub-numbers : goal.overflow_sub-numbers
overflow_sub-numbers c = c.loop-numbers.invariant.2

pub shape_of-room : goal.shape_of-room
shape_of-room c = passed_sized c.args.s.now c.loop-numbers.invariant.0

pub returns : goal.returns
returns c =
    let i = c.loop-numbers.invariant in
    passed_as c.args.s.now (rw (c.unpack.ensures, c.counted.ensures)) refl i.0
