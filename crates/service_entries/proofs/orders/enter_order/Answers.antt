-- `enter_order` meets its contract.
-- Assumes nothing.
use mathlib.Core.Path.{refl, sym}
use native.Mathlib.Omega.{arith}
use lib.Seq.{length-take-le}
use Rattle.laws.specs.Lists.{rest_is}
use Rattle.service_entries.specs.Orders.{order_not, order_puts}
use Rattle.service_entries.proofs.orders.enter_order.Goals as goal

pub returns-then-order-ne1 : goal.returns-then-order-ne1
returns-then-order-ne1 c =
    let a = c.args in
    record {
      left = order_not a.order.now a.room.now c.if-order-ne1.true;
      zeros = c.requires.1;
    }

pub slice_bounds-put_bytes-end-2 : goal.slice_bounds-put_bytes-end-2
slice_bounds-put_bytes-end-2 c =
    let h = c.requires.0 in
    sym (length-take-le 10 c.args.order.now (omega arith))

pub returns : goal.returns
returns c =
    let a = c.args in
    record {
      left = order_puts a.order.now a.room.now c.requires.0 c.if-order-ne1.false refl (rest_is a.order.now 10) c.put_bytes.ensures.1 c.put_bytes-2.ensures.1 c.put_service.ensures.left;
      zeros = c.put_service.ensures.zeros;
    }
