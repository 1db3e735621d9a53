-- `slot_check::is_number` meets its contract. Invariant: the word left is that of the bytes behind those seen.
-- Assumes nothing.
use mathlib.Core.Path.{◌≡◌, sym, ◌∙◌, subst⁻¹}
use mathlib.Core.Bool.{true}
use mathlib.Core.List.{List}
use Prim.Native.Nat.{ℕ, ◌/◌}
use native.Mathlib.Omega.{arith}
use lib.ListN.{length, take}
use lib.Seq.{length-take-le}
use Rattle.syntax.specs.Bytes.{permitted_of}
use Rattle.slots.specs.Words.{Bytes, high_of, low_of, bytes_take, high_take, low_take}
use Rattle.slot_check.specs.Word.{Rest, rest_start, rest_end, rest_not, rest_on, rest_less, rest_below, top_permitted, word_none, word_clean}
use Rattle.slot_check.proofs.is_number.Goals.{Else-low-ne0, Joined-left-ne3, then-left-ne3+else-not-permitted, else-left-ne3}
use Rattle.slot_check.proofs.is_number.Goals as goal

pub returns-then-low-ne0 : goal.returns-then-low-ne0
returns-then-low-ne0 c = c.is_long.ensures

-- its last two bytes are 0
module _ (e : Else-low-ne0) where
  abbrev number : List ℕ
  number = take 10 e.args.slot.now

  bytes : Bytes number
  bytes = bytes_take 10 e.args.slot.now (λ i. omega (arith, e.type_inv.slot i))

  ten : length number ≡ 10
  ten = let h = e.requires in length-take-le 10 e.args.slot.now (omega arith)

  ends : low_of number ≡ 0
  ends = low_take 10 e.args.slot.now (omega arith) ∙ sym e.low.ensures ∙ e.if-low-ne0.false

  word : e.high-left.result ≡ high_of number
  word = e.high-left.ensures ∙ sym (high_take 10 e.args.slot.now (omega arith))

pub returns-then-left-eq0 : goal.returns-then-left-eq0
returns-then-left-eq0 c =
    let e = (goal.at.returns-then-left-eq0 c).Else-low-ne0 in
    word_none (number e) (bytes e) (ten e) (ends e) (sym (word e) ∙ c.if-left-eq0.true)

pub loop-left-init : goal.loop-left-init
loop-left-init c =
    let e = (goal.at.loop-left-init c).Else-low-ne0 in
    subst⁻¹ (Rest (number e)) (word e) (rest_start (number e) (bytes e) (ten e))

pub overflow_cast-left : goal.overflow_cast-left
overflow_cast-left c =
    let l = c.loop-left in
    let h = rest_below (number (goal.at.overflow_cast-left c).Else-low-ne0) l.left l.invariant in
    omega arith

-- what the loop found is what was asked
some : (e : Else-low-ne0) → (e.high-left.result ≡ 0 → ⊥) → high_of (number e) ≡ 0 → ⊥
some e n z = n (word e ∙ z)

pub returns-then-not-permitted : goal.returns-then-not-permitted
returns-then-not-permitted c =
    let e = (goal.at.returns-then-not-permitted c).Else-low-ne0 in
    let l = c.loop-left in
    rest_not (number e) l.left c.loop-left-test.true (sym c.permitted.ensures ∙ c.if-not-permitted.true) l.invariant ∙ word_clean (number e) (bytes e) (ten e) (ends e) (some e c.if-left-eq0.false)

pub loop-left-smaller : goal.loop-left-smaller
loop-left-smaller c =
    let l = c.loop-left in
    rest_less (number (goal.at.loop-left-smaller c).Else-low-ne0) l.left c.loop-left-test.true l.invariant

-- its highest byte is permitted, in either way
seen : (c : Joined-left-ne3) → permitted_of (c.loop-left.left / 72057594037927936) ≡ true
seen c =
    elim c.if-left-ne3.branch [
      | then-left-ne3+else-not-permitted w ↦ sym w.permitted.ensures ∙ w.if-not-permitted.false
      | else-left-ne3 w ↦ top_permitted c.loop-left.left w.if-left-ne3.false
    ]

pub loop-left-preserved : goal.loop-left-preserved
loop-left-preserved c =
    let l = c.loop-left in
    rest_on (number (goal.at.loop-left-preserved c).Else-low-ne0) l.left c.loop-left-test.true (seen (goal.at.loop-left-preserved c).Joined-left-ne3) l.invariant

pub returns : goal.returns
returns c =
    let e = (goal.at.returns c).Else-low-ne0 in
    rest_end (number e) c.loop-left.left c.loop-left-test.false c.loop-left.invariant ∙ word_clean (number e) (bytes e) (ten e) (ends e) (some e c.if-left-eq0.false)
