-- `put_orders` meets its contract.
-- Assumes nothing.
use mathlib.Core.Path.{◌≡◌, refl, sym, ap, ◌∙◌}
use Prim.Native.Nat.{ℕ, ◌-◌}
use native.Mathlib.Omega.{arith}
use Rattle.service_entries.specs.Orders.{put_orders, order_length, order_part, orders_none, orders_on}
use Rattle.service_entries.proofs.orders.put_orders.Goals as goal

pub loop-k-init : goal.loop-k-init
loop-k-init c =
    let e : c.min-count.result - 0 ≡ c.min-count.result = omega arith in
    (rw e, refl, c.end_of-end.ensures)

pub overflow_mul-at : goal.overflow_mul-at
overflow_mul-at c =
    let h = c.min-count.ensures in
    omega arith

pub overflow_add-to : goal.overflow_add-to
overflow_add-to c =
    let h = c.min-count.ensures in
    omega arith

pub slice_bounds-enter_order-count : goal.slice_bounds-enter_order-count
slice_bounds-enter_order-count c =
    let h = c.min-count.ensures in
    omega arith

pub slice_bounds-enter_order-start : goal.slice_bounds-enter_order-start
slice_bounds-enter_order-start c =
    let h = c.min-count.ensures in
    omega arith

pub slice_bounds-enter_order-end : goal.slice_bounds-enter_order-end
slice_bounds-enter_order-end c =
    let h = c.min-count.ensures in
    omega arith

pub enter_order-end-requires : goal.enter_order-end-requires
enter_order-end-requires c =
    let h = c.min-count.ensures in
    let a = c.args in
    (order_length a.orders.now c.loop-k.k (omega arith), c.loop-k.invariant.2)

pub loop-k-preserved : goal.loop-k-preserved
loop-k-preserved c =
    let a = c.args in
    let v = c.loop-k.invariant in (
      orders_on a.orders.now c.loop-k.k c.min-count.result c.loop-k.room c.loop-k-test.true (order_part a.orders.now c.loop-k.k) c.enter_order-end.ensures.left ∙ v.0,
      c.enter_order-end.auto.room ∙ v.1,
      c.enter_order-end.ensures.zeros,
    )

pub returns : goal.returns
returns c =
    let a = c.args in
    sym (orders_none a.orders.now c.loop-k.k c.min-count.result c.loop-k.room c.loop-k-test.false) ∙ c.loop-k.invariant.0 ∙ ap (λ (x : ℕ). put_orders a.orders.now 0 x a.room.now) c.min-count.ensures
