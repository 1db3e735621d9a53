-- `slots::find_words` meets its contract. Invariant: halving between lo and hi, with halvings left, leads to the answer.
-- Assumes nothing.
use Rattle.std.proofs.Common.{◌≡◌, ◌+◌, ◌-◌, ◌/◌, length, sym, refl, ◌∙◌, arith}
use Rattle.std.specs.declared.cmp.Ordering.{Ordering}
use Rattle.std.specs.declared.cmp.Ordering.TheVariants.{Less, Equal, Greater}
use Rattle.slots.specs.Find.{slot_order, halve, half_of, find_of, slot_order_lem, halve_end, halve_step}
use Rattle.slots.proofs.find_words.Goals.{After-number_order}
use Rattle.slots.proofs.find_words.Goals as goal

pub loop-lo-init : goal.loop-lo-init
unfolding find_of
loop-lo-init c =
    let n = length c.args.room.now / 140 in
    (omega arith, (n, omega arith, refl))

pub number_order-requires : goal.number_order-requires
number_order-requires c = (omega arith, c.requires)

-- the slot in the middle was looked at
module _ (b : After-number_order) where
  stepped : (o : Ordering) → b.number_order.result ≡ o → half_of (halve (slot_order b.args.room.now b.args.number.now) (b.loop-lo.invariant.1.0 - 1)) b.loop-lo.lo b.loop-lo.hi (b.loop-lo.lo + (b.loop-lo.hi - b.loop-lo.lo) / 2) o ≡ find_of b.args.room.now b.args.number.now
  stepped o q =
      halve_step (slot_order b.args.room.now b.args.number.now) b.loop-lo.invariant.1.0 b.loop-lo.lo b.loop-lo.hi o b.loop-lo-test.true b.loop-lo.invariant.1.1
      (sym q ∙ b.number_order.ensures ∙ sym (slot_order_lem b.args.room.now b.args.number.now (b.loop-lo.lo + (b.loop-lo.hi - b.loop-lo.lo) / 2) (omega arith)))
      ∙ b.loop-lo.invariant.1.2

pub loop-lo-preserved-in-Less : goal.loop-lo-preserved-in-Less
loop-lo-preserved-in-Less c =
    (omega arith, (c.loop-lo.invariant.1.0 - 1, omega arith, stepped (goal.at.loop-lo-preserved-in-Less c).After-number_order Less c.in-Less.is))

pub returns-in-Equal : goal.returns-in-Equal
returns-in-Equal c = stepped (goal.at.returns-in-Equal c).After-number_order Equal c.in-Equal.is

pub loop-lo-preserved : goal.loop-lo-preserved
loop-lo-preserved c =
    (omega arith, (c.loop-lo.invariant.1.0 - 1, omega arith, stepped (goal.at.loop-lo-preserved c).After-number_order Greater c.in-Greater.is))

pub returns : goal.returns
returns c =
    let l = c.loop-lo in
    let a = c.args in
    halve_end (slot_order a.room.now a.number.now) l.invariant.1.0 l.lo l.hi c.loop-lo-test.false ∙ l.invariant.1.2
