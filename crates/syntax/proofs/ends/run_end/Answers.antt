-- `run_end` meets its contract.
-- Assumes nothing.
use mathlib.Core.Path.{◌≡◌, refl, sym, ap, ◌∙◌}
use mathlib.Core.List.{List}
use Prim.Native.Nat.{ℕ, ◌+◌, ◌/◌, ◌≤◌}
use native.Mathlib.Omega.{arith}
use lib.Bits.{bit_xor, xor_self}
use lib.Count.{count_trailing_zeros, trailing_le}
use lib.ListN.{drop}
use Rattle.laws.specs.Choice.{pick}
use Rattle.laws.specs.Words.{word_by, xor_zero}
use Rattle.laws.specs.Eight.{eight_at}
use Rattle.laws.specs.Leads.{run_of, eight_lead, eight_inside, eight_clear}
use Rattle.syntax.specs.Passed.{goes, passes_word}
use Rattle.syntax.specs.Found.{end_from, end_run}
use Rattle.syntax.proofs.ends.run_end.Goals.{After-passes_in-passes, At-loop-i}
use Rattle.syntax.proofs.ends.run_end.Goals as goal

pub returns-then-s-lt8 : goal.returns-then-s-lt8
returns-then-s-lt8 c = (omega arith, refl)

pub loop-i-init : goal.loop-i-init
loop-i-init c = (omega arith, omega arith, refl)

-- after it is known which of eight bytes are passed over
module _ (t : After-passes_in-passes) where
  abbrev list : List ℕ
  list = t.args.s.now

  abbrev zeros : ℕ
  zeros = count_trailing_zeros 64 (bit_xor t.passes_in-passes.result 9259542123273814144)

  few : zeros ≤ 64
  few = trailing_le 64 (bit_xor t.passes_in-passes.result 9259542123273814144)

  goes_by : (k : ℕ) → k ≤ run_of goes (drop t.loop-i.i list) → end_from list (t.loop-i.i + k) ≡ end_from list t.args.from
  goes_by k h = sym (end_run list t.loop-i.i k h) ∙ t.loop-i.invariant.2

  stops : bit_xor t.passes_in-passes.result 9259542123273814144 ≡ word_by (λ b. pick (goes b) 0 128) (eight_at list t.loop-i.i)
  stops =
      passes_word list t.loop-i.i t.eight_at.result t.eight_at.ensures t.passes_in-passes.result t.passes_in-passes.ensures

pub overflow_cast-result : goal.overflow_cast-result
overflow_cast-result c = let h = few (goal.at.overflow_cast-result c).After-passes_in-passes in omega arith

pub overflow_add-result : goal.overflow_add-result
overflow_add-result c = let h = few (goal.at.overflow_add-result c).After-passes_in-passes in omega arith

pub returns-then-passes : goal.returns-then-passes
returns-then-passes c =
    let i = c.loop-i.i in
    let y = bit_xor c.passes_in-passes.result 9259542123273814144 in
    let n = eight_inside goes (list (goal.at.returns-then-passes c).After-passes_in-passes) i y (omega arith) (stops (goal.at.returns-then-passes c).After-passes_in-passes) (λ z. c.if-passes.true (xor_zero c.passes_in-passes.result 9259542123273814144 z)) in
    (omega arith, omega arith, goes_by (goal.at.returns-then-passes c).After-passes_in-passes (zeros (goal.at.returns-then-passes c).After-passes_in-passes / 8) (eight_lead goes (list (goal.at.returns-then-passes c).After-passes_in-passes) i y (omega arith) (stops (goal.at.returns-then-passes c).After-passes_in-passes)))

pub loop-i-preserved : goal.loop-i-preserved
loop-i-preserved c =
    let z = ap (λ (y : ℕ). bit_xor y 9259542123273814144) c.if-passes.false ∙ xor_self 9259542123273814144 in
    (c.loop-i.invariant.0, omega arith, goes_by (goal.at.loop-i-preserved c).After-passes_in-passes 8 (eight_clear goes (list (goal.at.loop-i-preserved c).After-passes_in-passes) c.loop-i.i (bit_xor c.passes_in-passes.result 9259542123273814144) (omega arith) (stops (goal.at.loop-i-preserved c).After-passes_in-passes) z))

pub returns : goal.returns
returns c = (c.loop-i.invariant.1, c.loop-i.invariant.2)
