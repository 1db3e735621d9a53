-- `put_decimal` meets its contract: the digits still to be written stand before those that are.
-- Assumes nothing.
use mathlib.Core.Path.{◌≡◌}
use mathlib.Core.List.{◌++◌}
use Prim.Native.Nat.{◌≤◌}
use lib.ListN.{length, drop}
use Rattle.laws.specs.Decimal.{decimal_on, decimal_of}
use Rattle.raw_bytes.proofs.put_decimal.Given as goal

abbrev pub invariant-loop-from : goal.invariant-loop-from
invariant-loop-from l = (l.out ≡ l.initial.out) × (l.from ≤ 20) × (length l.digits ≡ 20) × (decimal_on l.from l.left ++ drop l.from l.digits ≡ decimal_of l.n)
