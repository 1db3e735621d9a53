use borrow.Author.Rules.{rules}
use Rattle.desk.proofs.registers.drumcallisto_open.Goals.{After-open}
use Rattle.desk.proofs.registers.drumcallisto_open.Goals as goal

-- src/registers.rt:40:1
pub returns : goal.returns
returns c =
    let d = c.date_of.ensures in
    let w = (goal.at.returns c).After-open.«open».ensures in
    let t = c.opened.ensures in
    record {
      told = cc;
      left = cc;
    }
