-- `put_from` meets its contract.
-- Assumes nothing.
use mathlib.Core.Path.{sym, ap, ◌∙◌}
use Prim.Native.Nat.{◌-◌}
use native.Mathlib.Omega.{arith}
use lib.ListN.{length, drop, length-drop}
use lib.Seq.{take_all}
use Rattle.laws.specs.Put.{put_at}
use Rattle.raw_bytes.proofs.put_from.Goals as goal

pub returns : goal.returns
returns c =
    let a = c.args in
    let d = length-drop a.from a.bytes.now in
    record {
      told = sym (length-drop a.from a.bytes.now);
      left = c.put_bytes.ensures.1 ∙ ap (put_at a.out.now a.at) (take_all (length a.bytes.now - a.from) (drop a.from a.bytes.now) (omega arith));
    }
