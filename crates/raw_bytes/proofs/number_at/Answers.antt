-- `bytes::number_at` meets its contract.
-- Assumes nothing.
use Prim.Native.Nat.{◌+◌, ◌≤◌}
use native.Mathlib.Omega.{arith}
use lib.ListN.{length, get_or-eq_default}
use Rattle.raw_bytes.proofs.number_at.Goals as goal

pub returns-then-b-at : goal.returns-then-b-at
returns-then-b-at c =
    let a = c.args in
    let h = c.if-b-at.true in
    let x = get_or-eq_default a.b.now 0 h in
    let k : length a.b.now ≤ a.at + 1 = omega arith in
    let y = get_or-eq_default a.b.now 0 k in
    (omega arith, omega arith)
