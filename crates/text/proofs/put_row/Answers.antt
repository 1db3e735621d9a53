-- `put_row` meets its contract.
-- Assumes nothing.
use Rattle.text.specs.Laws.{row_put}
use Rattle.text.proofs.put_row.Goals as goal

pub returns : goal.returns
returns c =
    let a = c.args in
    let w = row_put a.out.now c.put_pair.new.out a.offset a.group a.tag c.put_pair.result c.requires c.put_pair.ensures.told.0 c.wide.ensures.0 c.wide-2.ensures.0 c.put_pair.ensures.told.1 c.put_pair.ensures.left in
    record { told = w.0; left = w.1 }
