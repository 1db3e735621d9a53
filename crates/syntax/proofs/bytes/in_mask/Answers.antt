use borrow.Author.Tests.{lt-ltb, le-ltb}
use Prim.Native.Nat.{◌-◌, ◌/◌, ◌^◌}
use lib.Bits.{and_mask}
use Rattle.syntax.specs.Masks.{in_mask}
use Rattle.syntax.proofs.bytes.in_mask.Goals as goal

pub returns-then-b-lt64 : goal.returns-then-b-lt64
unfolding in_mask
returns-then-b-lt64 c =
    let a = c.args in
    rw (lt-ltb _ 64 c.if-b-lt64.true, and_mask (a.low / 2 ^ a.b) 1)

pub returns-then-b-lt128 : goal.returns-then-b-lt128
unfolding in_mask
returns-then-b-lt128 c =
    let a = c.args in
    rw (le-ltb _ 64 c.if-b-lt64.false, lt-ltb _ 128 c.if-b-lt128.true, and_mask (a.high / 2 ^ (a.b - 64)) 1)

pub returns : goal.returns
unfolding in_mask
returns c = rw (le-ltb _ 64 c.if-b-lt64.false, le-ltb _ 128 c.if-b-lt128.false)
