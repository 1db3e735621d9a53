-- `drumcallisto_begin` hands on what `begin` tells.
-- Assumes nothing.
use mathlib.Core.Path.{ap, ◌∙◌}
use Rattle.desk.specs.Desk.{told_reply}
use borrow.Author.Rules.{rules}
use Rattle.desk.proofs.arriving.drumcallisto_begin.Goals as goal

pub returns : goal.returns
returns c =
    record {
      told = c.taken.ensures ∙ ap told_reply c.begin.ensures.told;
      left = c.begin.ensures.left;
    }
