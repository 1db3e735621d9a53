-- `mark_bits` meets its contract.
-- Assumes nothing.
use native.Mathlib.Omega.{arith}
use Prim.Native.Nat.{◌/◌, ◌%◌}
use Rattle.calendar.specs.Days.{has_bit}
use Rattle.joining.specs.Eights.{mark_byte, moved_among, moved_small}
use Rattle.joining.proofs.mark_bits.Goals as goal

pub returns : goal.returns
returns c =
    let a = c.args in
    let p = c.requires in
    mark_byte (has_bit a.bits) a.days.now a.at 0 a.m (a.at / 8) _ (λ i. omega (arith, c.slice_known-1.given i)) (moved_small a.bits a.m (a.at % 8) p.0 p.1) (omega arith) (omega arith) (omega arith) (moved_among a.bits a.at a.m p.0 p.1)
