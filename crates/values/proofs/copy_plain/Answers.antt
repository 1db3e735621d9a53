use mathlib.Core.Path.{◌≡◌, sym, ap, ◌∙◌}
use mathlib.Core.Bool.{true, false}
use native.Mathlib.Omega.{arith}
use borrow.Author.Tests.{lt-ltb, le-ltb}
use lib.Dec.{ltb}
use lib.ListN.{length}
use Rattle.laws.specs.Put.{put_no_room}
use Rattle.std.proofs.Common.{Some}
use Rattle.syntax.specs.Bytes.{plain}
use Rattle.values.proofs.copy_plain.Goals as goal

pub returns-then-to-n : goal.returns-then-to-n
returns-then-to-n c =
    let a = c.args in
    let e = c.plain_length-n.ensures in
    let s : ltb (length a.to.now) (length (plain a.part.now)) ≡ true = lt-ltb (length a.to.now) (length (plain a.part.now)) (omega arith) in
    record {
      told = rw s;
      left = sym (put_no_room a.to.now 0 (plain a.part.now) (omega arith));
    }

pub returns : goal.returns
returns c =
    let a = c.args in
    let e = c.plain_length-n.ensures in
    let s : ltb (length a.to.now) (length (plain a.part.now)) ≡ false = le-ltb (length a.to.now) (length (plain a.part.now)) (omega arith) in
    record {
      told = ap Some e ∙ rw s;
      left = c.fill.ensures;
    }
