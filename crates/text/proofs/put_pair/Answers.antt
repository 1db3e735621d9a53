-- `put_pair` meets its contract.
-- Assumes nothing.
use Rattle.text.specs.Laws.{pair_put}
use Rattle.text.proofs.put_pair.Goals as goal

pub returns : goal.returns
returns c =
    let a = c.args in record { told = (pair_put a.out.now a.at a.a a.b a.tail.now c.put_decimal-i.result c.put_decimal-j.result c.requires c.put_decimal-i.ensures.told.1 c.put_decimal-j.ensures.told.1 c.put_decimal-i.ensures.left c.put_bytes.ensures.1 c.put_decimal-j.ensures.left c.put_bytes-2.ensures.1).0; left = (pair_put a.out.now a.at a.a a.b a.tail.now c.put_decimal-i.result c.put_decimal-j.result c.requires c.put_decimal-i.ensures.told.1 c.put_decimal-j.ensures.told.1 c.put_decimal-i.ensures.left c.put_bytes.ensures.1 c.put_decimal-j.ensures.left c.put_bytes-2.ensures.1).1 }
