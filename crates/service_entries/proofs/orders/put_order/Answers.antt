-- `put_order` meets its contract.
-- Assumes nothing.
use mathlib.Core.Path.{◌≡◌, ap, ◌∙◌}
use mathlib.Core.List.{◌∷◌, ◌++◌}
use Prim.Native.Nat.{ℕ}
use lib.ListN.{length}
use Rattle.service_entries.specs.Orders.{flag_of, ordered_not, ordered_is}
use borrow.Author.Rules.{rules}
use Rattle.service_entries.proofs.orders.put_order.Goals.{Start}
use Rattle.service_entries.proofs.orders.put_order.Goals as goal

pub returns-then-orders-k : goal.returns-then-orders-k
returns-then-orders-k c =
    let a = c.args in
    ordered_not a.orders.now a.k (a.number ++ (flag_of a.removal ∷ a.days)) c.if-orders-k.true

ten : (i : Start) → length i.args.number ≡ 10
ten i = search rules

pub returns : goal.returns
returns c =
    let a = c.args in
    let y : length c.entry_of-entry.result ≡ 65 = search rules in
    ordered_is a.orders.now a.k a.number (flag_of a.removal ∷ a.days) c.if-orders-k.false
    c.put_bytes.ensures.1 c.put_bytes-2.ensures.1 (c.entry_of-entry.ensures ∙ ap (λ (z : ℕ). z ∷ a.days) c.flag_of.ensures) (ten (goal.at.returns c).Start) y
