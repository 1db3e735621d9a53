use mathlib.Core.Path.{ap, ◌∙◌}
use Rattle.desk.specs.Desk.{reply_of}
use borrow.Author.Rules.{rules}
use Rattle.desk.proofs.registers.drumcallisto_release.Goals as goal

-- src/registers.rt:79:1
pub returns : goal.returns
returns c =
    record {
      told = c.released.ensures ∙ ap reply_of c.release.ensures.told;
      left = c.release.ensures.left;
    }
