-- `stops_in` meets its contract.
-- Assumes nothing.
use mathlib.Core.Path.{ap}
use Prim.Native.Nat.{ℕ, ◌+◌, ◌^◌, ◌<◌}
use native.Mathlib.Omega.{arith}
use lib.Bits.{bit_and, bit_or, bit_xor, and_le_r, xor_lt}
use lib.Dec.{lit≤}
use Rattle.syntax.specs.Passed.{stops_of}
use Rattle.syntax.proofs.ends.stops_in.Goals as goal

pub overflow_add-result : goal.overflow_add-result
overflow_add-result c =
    let h : bit_and c.args.x 9187201950435737471 < 2 ^ 63 = let k = and_le_r c.args.x 9187201950435737471 in omega arith in
    let k = xor_lt 63 (bit_and c.args.x 9187201950435737471) 2314885530818453536 h (lit≤ tt) in
    omega arith

pub returns : goal.returns
unfolding stops_of
returns c =
    let x = c.args.x in
    ap (λ (y : ℕ). bit_and (bit_xor y 9259542123273814144) (bit_or (bit_xor (bit_and x 9187201950435737471) 2314885530818453536 + 9187201950435737471) x)) c.passes_in.ensures
