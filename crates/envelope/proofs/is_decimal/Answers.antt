-- `envelope::is_decimal` meets its contract: the digits put at the front of the buffer are those that the part is held to.
-- Assumes nothing.
use mathlib.Core.Path.{sym, ap, ◌∙◌}
use lib.ListN.{replicate}
use Rattle.laws.specs.Put.{take_put}
use Rattle.laws.specs.Decimal.{decimal_of}
use Rattle.laws.specs.Digits.{decimal_length}
use Rattle.syntax.specs.Bytes.{plain}
use Rattle.values.specs.Values.{same_text}
use Rattle.envelope.proofs.is_decimal.Goals as goal

pub returns-then-is_digits : goal.returns-then-is_digits
returns-then-is_digits c = sym (c.is_digits.ensures c.if-is_digits.true)

pub returns : goal.returns
returns c =
    let a = c.args in
    c.says_first.ensures
    ∙ ap (same_text (plain a.part.now)) (take_put (replicate 20 0) (decimal_of a.n) c.put_decimal-count.new.out c.put_decimal-count.result c.put_decimal-count.ensures.left c.put_decimal-count.ensures.told.1 (decimal_length 20 a.n))
