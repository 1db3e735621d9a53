-- `put_decimal` meets its contract: the digits still to be written stand before those that are.
-- Assumes nothing.
use mathlib.Core.Path.{refl, ◌∙◌}
use mathlib.Core.List.{append-nil}
use Prim.Native.Nat.{◌+◌, ◌%◌}
use native.Mathlib.Omega.{arith}
use lib.ListN.{length-set}
use Rattle.laws.specs.Decimal.{decimal_on}
use Rattle.laws.specs.Digits.{last_written, one_written, all_written, digits_put}
use Rattle.raw_bytes.proofs.put_decimal.Goals as goal

pub loop-from-init : goal.loop-from-init
loop-from-init c = (refl, omega arith, refl, append-nil (decimal_on 20 c.args.n))

pub put_from-requires : goal.put_from-requires
put_from-requires c = simp length-set (omega arith)

pub returns-then-left-lt10 : goal.returns-then-left-lt10
returns-then-left-lt10 c =
    let a = c.args in
    let e = last_written c.loop-from.digits c.loop-from.left (48 + c.loop-from.left % 10) refl c.loop-from.from c.loop-from-test.true (omega arith) c.if-left-lt10.true ∙ c.loop-from.invariant.3 in record { told = (digits_put a.out.now a.at a.n c.put_from.ensures.told c.put_from.ensures.left e c.loop-from.invariant.0).0; left = (digits_put a.out.now a.at a.n c.put_from.ensures.told c.put_from.ensures.left e c.loop-from.invariant.0).1 }

pub loop-from-preserved : goal.loop-from-preserved
loop-from-preserved c = (
  c.loop-from.invariant.0,
  omega arith,
  simp length-set c.loop-from.invariant.2,
  one_written c.loop-from.digits c.loop-from.left (48 + c.loop-from.left % 10) refl c.loop-from.from c.loop-from-test.true (omega arith) c.if-left-lt10.false ∙ c.loop-from.invariant.3,
)

pub returns : goal.returns
returns c =
    let a = c.args in
    let e = all_written c.loop-from.digits c.loop-from.from c.loop-from.left c.loop-from-test.false ∙ c.loop-from.invariant.3 in record { told = (digits_put a.out.now a.at a.n c.put_from-2.ensures.told c.put_from-2.ensures.left e c.loop-from.invariant.0).0; left = (digits_put a.out.now a.at a.n c.put_from-2.ensures.told c.put_from-2.ensures.left e c.loop-from.invariant.0).1 }
