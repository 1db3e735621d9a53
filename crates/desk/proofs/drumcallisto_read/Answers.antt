use borrow.Author.Rules.{rules}
use mathlib.Core.Path.{ap, ◌∙◌}
use Rattle.desk.specs.Desk.{reply_of}
use Rattle.desk.proofs.drumcallisto_read.Goals as goal

pub returns : goal.returns
returns c =
    record {
      told = c.told.ensures ∙ ap reply_of c.read.ensures.told;
      left = c.read.ensures.left;
    }
