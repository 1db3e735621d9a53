use mathlib.Core.Path.{ap, ◌∙◌}
use Rattle.desk.specs.Desk.{reply_of}
use borrow.Author.Rules.{rules}
use Rattle.desk.proofs.registers.drumcallisto_show.Goals as goal

-- src/registers.rt:120:1
pub returns : goal.returns
returns c =
    record {
      told = c.shown.ensures ∙ ap reply_of c.show.ensures.told;
      left = c.show.ensures.left;
    }
