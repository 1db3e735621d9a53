use borrow.Author.Rules.{rules}
use Rattle.desk.proofs.calendars.drumcallisto_write_day_string.Goals as goal

-- src/calendars.rt:47:1
pub returns : goal.returns
returns c =
    let d = c.date_of.ensures in
    let e = c.date_of-2.ensures in
    let w = c.write_day_string.ensures in
    let t = c.told.ensures in
    record {
      told = cc;
      left = cc;
    }
