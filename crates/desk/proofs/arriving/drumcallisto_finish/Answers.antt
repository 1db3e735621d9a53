-- `drumcallisto_finish` hands on what `finish` answers.
-- Assumes nothing.
use mathlib.Core.Path.{ap, ◌∙◌}
use Rattle.desk.specs.Desk.{reply_of}
use borrow.Author.Rules.{rules}
use Rattle.desk.proofs.arriving.drumcallisto_finish.Goals as goal

pub returns : goal.returns
returns c =
    record {
      told = c.told.ensures ∙ ap reply_of c.finish.ensures.told;
      left = c.finish.ensures.left;
    }
