-- `drumcallisto_take` hands on what `take` tells.
-- Assumes nothing.
use mathlib.Core.Path.{ap, ◌∙◌}
use Rattle.desk.specs.Desk.{told_reply}
use borrow.Author.Rules.{rules}
use Rattle.desk.proofs.arriving.drumcallisto_take.Goals as goal

pub returns : goal.returns
returns c =
    record {
      told = c.taken.ensures ∙ ap told_reply c.take.ensures.told;
      left = c.take.ensures.left;
      out = c.take.ensures.out;
    }
