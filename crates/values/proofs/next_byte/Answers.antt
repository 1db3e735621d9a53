use Rattle.values.specs.Laws.{next_past, next_bare, next_none, next_released}
use Rattle.values.proofs.next_byte.Goals as goal

pub returns-then-part-i : goal.returns-then-part-i
returns-then-part-i c =
    let a = c.args in
    next_past a.part.now a.i c.if-part-i.true

pub returns-then-byte-ne63 : goal.returns-then-byte-ne63
returns-then-byte-ne63 c =
    let a = c.args in
    next_bare a.part.now a.i c.if-part-i.false c.if-byte-ne63.true

pub returns-then-part-k : goal.returns-then-part-k
returns-then-part-k c =
    let a = c.args in
    next_none a.part.now a.i c.if-part-i.false c.if-byte-ne63.false c.if-part-k.true

pub returns : goal.returns
returns c =
    let a = c.args in
    next_released a.part.now a.i c.if-part-i.false c.if-byte-ne63.false c.if-part-k.false
