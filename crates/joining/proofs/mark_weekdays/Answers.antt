-- `mark_weekdays` meets its contract.
-- Assumes nothing.
use mathlib.Core.Path.{◌≡◌, refl, sym, ap, ◌∙◌}
use Prim.Native.Nat.{ℕ, ◌+◌, ◌-◌, ◌*◌, ◌/◌, ◌%◌, ◌≤◌}
use native.Mathlib.Omega.{arith}
use lib.Bits.{bit_or}
use lib.ListN.{length, get_or, set, length-set}
use Rattle.dates.specs.Days.{weekday_of}
use Rattle.calendar.specs.Days.{has_bit}
use Rattle.joining.specs.Joined.{marked}
use Rattle.joining.specs.Marks.{mark_ends}
use Rattle.joining.specs.Eights.{lead_on, byte_on, rest_on, next_days}
use Rattle.joining.proofs.mark_weekdays.Invariants.{on}
use Rattle.joining.proofs.mark_weekdays.Goals.{At-loop-i, Start}
use Rattle.joining.proofs.mark_weekdays.Goals as goal

shifted : (week first k j : ℕ) → has_bit week (weekday_of (first + k + j)) ≡ on week first (k + j)
shifted week first k j = let e : first + k + j ≡ first + (k + j) = omega arith in rw e

-- the days up to the first byte's end
lead_is : (at : ℕ) → 8 - at % 8 ≡ 8 * ((at + (8 - at % 8)) / 8) - at
lead_is at = omega arith

-- and those up to a byte's end, and eight more
byte_more : (at i : ℕ) → at ≤ 8 * i → 8 * (i + 1) - at ≡ 8 * i - at + 8
byte_more at i h = omega arith

-- where the loop stands: the days fit in the calendar, and those up to the first byte's end are marked
module _ (o : At-loop-i) where
  room : o.args.at + o.args.n ≤ 8 * length o.loop-i.days
  room =
      let e = o.loop-i.invariant.2 in
      let k = o.mark_bits.auto.days in
      let p = o.requires in
      omega arith

  led : marked (on o.args.week o.args.first) o.mark_bits.new.days o.args.at (8 * ((o.args.at + (8 - o.args.at % 8)) / 8) - o.args.at)
      (o.args.n - (8 * ((o.args.at + (8 - o.args.at % 8)) / 8) - o.args.at))
      ≡ marked (on o.args.week o.args.first) o.args.days.now o.args.at 0 o.args.n
  led =
      let a = o.args in
      ap (λ (k : ℕ). marked (on a.week a.first) o.mark_bits.new.days a.at k (a.n - k)) (sym (lead_is a.at))
      ∙ lead_on (on a.week a.first) a.days.now a.at a.n o.eight_days.result (8 - a.at % 8)
      (λ j h. o.eight_days.ensures j (omega arith))
      (o.mark_bits.ensures ∙ ap (marked (has_bit o.eight_days.result) a.days.now a.at 0) o.shorter.ensures)

pub mark_bits-requires : goal.mark_bits-requires
mark_bits-requires c =
    let s = c.shorter.ensures in
    (omega arith, omega arith, omega arith)

pub loop-i-init : goal.loop-i-init
loop-i-init c =
    let e = c.eight_days-eight.ensures in
    let a = c.args in
    (omega arith, omega arith, refl, omega (arith, c.eight_days-eight.type_inv), λ j h. e j h ∙ shifted a.week a.first (8 - a.at % 8) j ∙ ap (λ (k : ℕ). on a.week a.first (k + j)) (lead_is a.at), refl)

pub bounds-days-i : goal.bounds-days-i
bounds-days-i c = let r = room (goal.at.bounds-days-i c).At-loop-i in omega arith

pub bounds-days-i-in-loop-i : goal.bounds-days-i-in-loop-i
bounds-days-i-in-loop-i c = let r = room (goal.at.bounds-days-i-in-loop-i c).At-loop-i in omega arith

pub loop-i-preserved : goal.loop-i-preserved
loop-i-preserved c =
    let a = c.args in
    let l = c.loop-i in
    let m = byte_more a.at l.i l.invariant.0 in (
      omega arith,
      omega arith,
      simp length-set l.invariant.2,
      omega (arith, c.next_eight-eight.type_inv),
      λ j h. next_days a.week a.first (8 * l.i - a.at) l.eight c.next_eight-eight.result l.invariant.4 c.next_eight-eight.ensures j h ∙ ap (λ (k : ℕ). on a.week a.first (k + j)) (sym m),
      ap (λ (k : ℕ). marked (on a.week a.first) (set l.days l.i (bit_or (get_or l.days l.i 0) l.eight)) a.at k (a.n - k)) m
          ∙ byte_on (on a.week a.first) l.days a.at a.n l.eight (8 * l.i - a.at) l.i (λ i. omega (arith, c.slice_known-in-loop-i-1.given i)) l.invariant.3 (omega arith) (omega arith) (omega arith) (room (goal.at.loop-i-preserved c).At-loop-i) l.invariant.4
          ∙ l.invariant.5,
    )

pub shape_of-days-then-n-k : goal.shape_of-days-then-n-k
shape_of-days-then-n-k c = c.loop-i.invariant.2 ∙ c.mark_bits.auto.days

pub returns-then-n-k : goal.returns-then-n-k
returns-then-n-k c =
    let a = c.args in
    sym (mark_ends (on a.week a.first) a.at c.loop-i.days (8 * c.loop-i.i - a.at) a.n c.if-n-k.true) ∙ c.loop-i.invariant.5 ∙ led (goal.at.returns-then-n-k c).At-loop-i

pub mark_bits-requires-2 : goal.mark_bits-requires-2
mark_bits-requires-2 c =
    let r = room (goal.at.mark_bits-requires-2 c).At-loop-i in
    (omega arith, omega arith, omega arith)

pub shape_of-days : goal.shape_of-days
shape_of-days c =
    c.mark_bits-2.auto.days ∙ c.loop-i.invariant.2 ∙ c.mark_bits.auto.days

pub returns : goal.returns
returns c =
    let a = c.args in
    rest_on (on a.week a.first) c.loop-i.days a.at a.n c.loop-i.eight (8 * c.loop-i.i - a.at) (λ j h. c.loop-i.invariant.4 j (omega arith)) c.mark_bits-2.ensures ∙ c.loop-i.invariant.5 ∙ led (goal.at.returns c).At-loop-i
