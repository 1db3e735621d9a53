-- `put_bytes` meets its contract.
-- Assumes nothing.
use mathlib.Core.Path.{◌≡◌, sym}
use Prim.Native.Nat.{◌+◌, ◌-◌, ◌≤◌}
use native.Mathlib.Omega.{arith}
use Rattle.std.proofs.Common.{drop-drop}
use lib.ListN.{length}
use borrow.Author.Tests.{le-leb}
use Rattle.laws.specs.Put.{put_is, put_refused}
use Rattle.raw_bytes.proofs.put_bytes.Goals.{then-out-bytes-via-then-out-bytes, then-out-bytes-via-else-out-bytes+then-out-bytes-2}
use Rattle.raw_bytes.proofs.put_bytes.Goals as goal

pub returns-then-out-bytes : goal.returns-then-out-bytes
returns-then-out-bytes c =
    let a = c.args in
    elim c.then-out-bytes.branch [
      | then-out-bytes-via-then-out-bytes w ↦ put_refused a.at a.out.now a.bytes.now (omega (arith, w.if-out-bytes.true))
      | then-out-bytes-via-else-out-bytes+then-out-bytes-2 w ↦ put_refused a.at a.out.now a.bytes.now (omega (arith, w.if-out-bytes.false, w.if-out-bytes-2.true))
    ]

pub returns : goal.returns
returns c =
    let a = c.args in
    let h : a.at + length a.bytes.now ≤ length a.out.now = omega arith in
    let e : a.at + (a.at + length a.bytes.now - a.at) ≡ a.at + length a.bytes.now = omega arith in
    (sym (le-leb _ _ h), rw (c.copy_from_slice.ensures.after, put_is a.out.now a.at a.bytes.now h, drop-drop (a.at + length a.bytes.now - a.at) a.at a.out.now, e))
