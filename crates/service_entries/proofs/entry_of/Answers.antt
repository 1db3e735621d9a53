-- `entry_of` meets its contract.
-- Assumes nothing.
use mathlib.Core.Path.{◌≡◌}
use borrow.Author.Rules.{rules}
use lib.ListN.{length}
use Rattle.service_entries.specs.Ways.{entry_is}
use Rattle.service_entries.proofs.entry_of.Goals as goal

pub returns : goal.returns
returns c =
    let a = c.args in
    let l : length a.days ≡ 64 = search rules in
    entry_is a.flag a.days c.put_bytes.new.out l c.put_bytes.ensures.1
