-- `weekday_digits` meets its contract: the digits placed, and those of the weekdays left, are all the digits.
-- Assumes nothing.
use mathlib.Core.Path.{refl, sym, ◌∙◌}
use Prim.Native.Nat.{◌%◌}
use native.Mathlib.Omega.{arith}
use lib.ListN.{take, length-set}
use Rattle.calendar.specs.Days.{has_bit}
use Rattle.calendar.specs.WeekLaws.{one_small, digit_step, digits_end}
use Rattle.calendar.proofs.weekdays.weekday_digits.Goals as goal

pub loop-weekday-init : goal.loop-weekday-init
loop-weekday-init c = (omega arith, omega arith, refl)

pub overflow_add-count : goal.overflow_add-count
overflow_add-count c = omega (arith, one_small (has_bit c.args.week (c.loop-weekday.weekday % 8)) c.one_if-count.ensures)

pub loop-weekday-preserved : goal.loop-weekday-preserved
loop-weekday-preserved c =
    let a = c.args in
    let l = c.loop-weekday in
    let v = l.invariant in
    let r = one_small (has_bit a.week (l.weekday % 8)) c.one_if-count.ensures in (
      omega arith,
      simp length-set v.1,
      digit_step (has_bit a.week) l.bytes l.count l.weekday (omega arith) (omega arith) c.one_if-count.ensures ∙ v.2,
    )

pub returns : goal.returns
returns c =
    let l = c.loop-weekday in
    let v = l.invariant in
    sym (digits_end (has_bit c.args.week) (take l.count l.bytes) l.weekday c.loop-weekday-test.false) ∙ v.2
