use mathlib.Core.Path.{ap, ◌∙◌}
use Rattle.desk.specs.Desk.{reply_of}
use Rattle.desk.specs.Services.{part_from, number_told, number_left}
use borrow.Author.Rules.{rules}
use Rattle.desk.proofs.reading.drumcallisto_number.Goals as goal

-- src/reading.rt:72:1
pub returns : goal.returns
returns c =
    let a = c.args in
    let b = c.bytes_of.ensures in
    let w = c.copy_plain.ensures in
    record {
      told = c.told.ensures ∙ ap reply_of (number_told a.s.now (part_from a.from a.to) a.out.now _ b _ w.told);
      left = number_left a.s.now (part_from a.from a.to) a.out.now _ b _ w.left;
    }
