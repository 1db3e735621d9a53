-- `insert_slot` meets its contract.
-- Assumes nothing.
use mathlib.Core.Path.{◌≡◌, sym}
use native.Mathlib.Omega.{arith}
use borrow.Author.Rules.{rules}
use lib.ListN.{length}
use lib.Seq.{length-take-le}
use Rattle.service_entries.specs.Front.{slot_inserted}
use Rattle.service_entries.proofs.insert_slot.Goals as goal

pub slice_bounds-insert-end-2 : goal.slice_bounds-insert-end-2
slice_bounds-insert-end-2 c =
    let t = c.slot_more-top.ensures in
    sym (length-take-le c.slot_more-top.result c.args.room.now (omega arith))

pub returns : goal.returns
returns c =
    let l : length c.args.slot ≡ 140 = search rules in record {
      left = (slot_inserted c.args.room.now c.args.end c.slot_more-top.result c.requires.1 c.args.at c.max.result c.args.slot c.insert.new.b
          c.requires.0 c.max.ensures c.slot_more-top.ensures l c.insert.auto.b c.insert.ensures).0;
      zeros = (slot_inserted c.args.room.now c.args.end c.slot_more-top.result c.requires.1 c.args.at c.max.result c.args.slot c.insert.new.b
          c.requires.0 c.max.ensures c.slot_more-top.ensures l c.insert.auto.b c.insert.ensures).1;
    }
