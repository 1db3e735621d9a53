-- `mark_text` meets its contract.
-- Assumes nothing.
use mathlib.Core.Path.{◌≡◌, refl, sym, ap, ◌∙◌}
use Prim.Native.Nat.{ℕ, ◌+◌, ◌-◌, ◌*◌, ◌/◌, ◌%◌, ◌≤◌, ◌<◌}
use native.Mathlib.Omega.{arith}
use lib.ListN.{length, length-set}
use Rattle.raw_bytes.specs.Eights.{Eights, eights_known, fewer_known}
use Rattle.calendar.specs.Days.{has_bit}
use Rattle.joining.specs.Joined.{marked}
use Rattle.joining.specs.Marks.{mark_ends}
use Rattle.joining.specs.Eights.{lead_on, byte_on, rest_on}
use Rattle.joining.specs.Gathered.{eight_days}
use Rattle.joining.proofs.mark_text.Invariants.{on}
use Rattle.joining.proofs.mark_text.Goals.{At-loop-word, In-Some, In_default, Start}
use Rattle.joining.proofs.mark_text.Goals as goal

-- where the loop stands: the days fit in the calendar, and those up to the first byte's end are marked
module _ (o : At-loop-word) where
  room : o.args.at + length o.args.text.now ≤ 8 * length o.loop-word.days
  room =
      let e = o.loop-word.invariant.1 in
      let k = o.mark_bits.auto.days in
      let p = o.requires in
      omega arith

  led : marked (on o.args.text.now) o.mark_bits.new.days o.args.at (8 - o.args.at % 8) (length o.args.text.now - (8 - o.args.at % 8))
      ≡ marked (on o.args.text.now) o.args.days.now o.args.at 0 (length o.args.text.now)
  led =
      let a = o.args in
      let m = o.shorter-m.ensures in
      let d = o.day_bits in
      lead_on (on a.text.now) a.days.now a.at (length a.text.now) d.result (8 - a.at % 8)
      (λ j h. d.ensures j (omega arith) ∙ ap (on a.text.now) (omega arith))
      (o.mark_bits.ensures ∙ ap (marked (has_bit d.result) a.days.now a.at 0) m)

-- eight characters were found
module _ (t : In-Some) where
  found : Eights t.args.text.now t.loop-word.k t.in-Some.word
  found = eights_known t.args.text.now t.loop-word.k t.eight_at.ensures t.in-Some.is

-- fewer than eight are left
module _ (e : In_default) where
  few : length e.args.text.now < e.loop-word.k + 8
  few = fewer_known e.args.text.now e.loop-word.k e.eight_at.ensures e.in_default.is

pub day_bits-requires : goal.day_bits-requires
day_bits-requires c =
    let s = c.shorter-m.ensures in
    (omega arith, omega arith, c.requires.3)

pub mark_bits-requires : goal.mark_bits-requires
mark_bits-requires c =
    let s = c.shorter-m.ensures in
    (omega arith, omega arith, omega arith)

pub loop-word-init : goal.loop-word-init
loop-word-init c = (omega arith, refl, refl)

pub shape_of-days-then-n-k : goal.shape_of-days-then-n-k
shape_of-days-then-n-k c =
    c.loop-word.invariant.1 ∙ c.mark_bits.auto.days

pub returns-then-n-k : goal.returns-then-n-k
returns-then-n-k c =
    let a = c.args in
    sym (mark_ends (on a.text.now) a.at c.loop-word.days c.loop-word.k (length a.text.now) c.if-n-k.true) ∙ c.loop-word.invariant.2 ∙ led (goal.at.returns-then-n-k c).At-loop-word

pub day_bits-requires-in_default : goal.day_bits-requires-in_default
day_bits-requires-in_default c =
    let f = few (goal.at.day_bits-requires-in_default c).In_default in
    (omega arith, omega arith, c.requires.3)

pub mark_bits-requires-in_default : goal.mark_bits-requires-in_default
mark_bits-requires-in_default c =
    let f = few (goal.at.mark_bits-requires-in_default c).In_default in
    let r = room (goal.at.mark_bits-requires-in_default c).At-loop-word in
    (omega arith, omega arith, omega arith)

pub shape_of-days-in_default : goal.shape_of-days-in_default
shape_of-days-in_default c =
    c.mark_bits-in_default.auto.days ∙ c.loop-word.invariant.1 ∙ c.mark_bits.auto.days

pub returns-in_default : goal.returns-in_default
returns-in_default c =
    let a = c.args in
    let d = c.day_bits-in_default in
    rest_on (on a.text.now) c.loop-word.days a.at (length a.text.now) d.result c.loop-word.k d.ensures c.mark_bits-in_default.ensures ∙ c.loop-word.invariant.2 ∙ led (goal.at.returns-in_default c).At-loop-word

pub overflow_add-i : goal.overflow_add-i
overflow_add-i c = let f = (found (goal.at.overflow_add-i c).In-Some).inside in omega arith

pub bounds-days-i : goal.bounds-days-i
bounds-days-i c =
    let f = (found (goal.at.bounds-days-i c).In-Some).inside in
    let r = room (goal.at.bounds-days-i c).At-loop-word in
    omega arith

pub bounds-days-i-in-loop-word : goal.bounds-days-i-in-loop-word
bounds-days-i-in-loop-word c =
    let f = (found (goal.at.bounds-days-i-in-loop-word c).In-Some).inside in
    let r = room (goal.at.bounds-days-i-in-loop-word c).At-loop-word in
    omega arith

pub overflow_add-k : goal.overflow_add-k
overflow_add-k c = let f = (found (goal.at.overflow_add-k c).In-Some).inside in omega arith

pub loop-word-smaller : goal.loop-word-smaller
loop-word-smaller c = let f = (found (goal.at.loop-word-smaller c).In-Some).inside in omega arith

pub loop-word-preserved : goal.loop-word-preserved
loop-word-preserved c =
    let a = c.args in
    let l = c.loop-word in (
      omega arith,
      simp length-set l.invariant.1,
      byte_on (on a.text.now) l.days a.at (length a.text.now) c.eight_bits.result l.k ((a.at + l.k) / 8) (λ i. omega (arith, c.slice_known-in-loop-word-1.given i)) (omega (arith, c.eight_bits.type_inv)) refl l.invariant.0 (found (goal.at.loop-word-preserved c).In-Some).inside (room (goal.at.loop-word-preserved c).At-loop-word)
          (λ j h. ap (λ (x : ℕ). has_bit x j) c.eight_bits.ensures ∙ eight_days a.text.now l.k (found (goal.at.loop-word-preserved c).In-Some) c.requires.3 j h) ∙ l.invariant.2,
    )
