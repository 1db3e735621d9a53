-- `slots::number_order` meets its contract.
-- Assumes nothing.
use Rattle.std.proofs.Common.{◌≡◌, ℕ, ◌+◌, ◌-◌, ◌%◌, ◌^◌, length, take, drop, sym, ap, ◌∙◌, ap₂, arith}
use Rattle.std.specs.declared.cmp.Ordering.{Ordering}
use Rattle.std.specs.declared.cmp.Ordering.TheVariants.{Equal}
use Rattle.std.specs.Ordering.{ordering_then}
use Rattle.slots.specs.Order.{order_by, by_cmp, cmp_by}
use Rattle.slots.specs.Words.{Bytes, high_of}
use Rattle.slots.specs.Steps.{Step, high_least, level_told, before_told, after_told}
use Rattle.slots.proofs.number_order.Goals.{After-wrapping_sub_usize-behind}
use Rattle.slots.proofs.number_order.Goals as goal

-- how far the number is behind the slot's was told
module _ (b : After-wrapping_sub_usize-behind) where
  number_bytes : Bytes b.args.number.now
  number_bytes i = omega (arith, b.type_inv.number i)

  behind_is : (b.wrapping_sub_usize-behind.result + high_of (take (b.args.at + 10 - b.args.at) (drop b.args.at b.args.room.now))) % 2 ^ 64 ≡ b.args.high
  behind_is = sym (ap (λ (h : ℕ). (b.wrapping_sub_usize-behind.result + h) % 2 ^ 64) b.high.ensures) ∙ b.wrapping_sub_usize-behind.ensures.value

  abbrev step : Step b.args.room.now b.args.number.now b.args.at (b.args.at + 10 - b.args.at) b.args.high b.args.low b.wrapping_sub_usize-behind.result
  step = record {
    ten = omega arith;
    room = b.requires.0;
    slot = λ i. omega (arith, b.type_inv.room i);
    bytes = number_bytes;
    words = b.requires.1;
    is = behind_is;
    fits = omega (arith, b.wrapping_sub_usize-behind.type_inv);
  }

pub returns-then-behind-eq0 : goal.returns-then-behind-eq0
returns-then-behind-eq0 c =
    let lengths : Ordering = order_by Equal 10 (length c.args.number.now) in
    c.then.ensures
    ∙ ap₂ ordering_then c.cmp.ensures (c.cmp-lengths.ensures ∙ cmp_by 10 (length c.args.number.now))
    ∙ by_cmp lengths c.low.result c.args.low
    ∙ ap (λ (m : ℕ). order_by lengths m c.args.low) c.low.ensures
    ∙ level_told (step (goal.at.returns-then-behind-eq0 c).After-wrapping_sub_usize-behind) c.if-behind-eq0.true

pub overflow_sub-high : goal.overflow_sub-high
overflow_sub-high c = omega (arith, high_least c.args.number.now (number_bytes (goal.at.overflow_sub-high c).After-wrapping_sub_usize-behind) c.requires.1)

pub returns-then-behind-high : goal.returns-then-behind-high
returns-then-behind-high c = before_told (step (goal.at.returns-then-behind-high c).After-wrapping_sub_usize-behind) c.if-behind-eq0.false c.if-behind-high.true

pub returns : goal.returns
returns c = after_told (step (goal.at.returns c).After-wrapping_sub_usize-behind) c.if-behind-eq0.false c.if-behind-high.false
