-- `put_orders` meets its contract.
-- Assumes nothing.
use mathlib.Core.Path.{◌≡◌}
use Prim.Native.Nat.{◌-◌}
use lib.ListN.{length}
use Rattle.service_entries.specs.Front.{Ends}
use Rattle.service_entries.specs.Orders.{put_orders}
use Rattle.service_entries.proofs.orders.put_orders.Given as goal

abbrev pub invariant-loop-k : goal.invariant-loop-k
invariant-loop-k l =
    (put_orders l.orders l.k (l.count - l.k) l.room ≡ put_orders l.orders 0 l.count l.initial.room) × (length l.room ≡ length l.initial.room) × Ends l.room l.end
