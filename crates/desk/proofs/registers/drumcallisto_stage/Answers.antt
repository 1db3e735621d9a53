use mathlib.Core.Path.{ap, ◌∙◌}
use Rattle.desk.specs.Desk.{reply_of}
use borrow.Author.Rules.{rules}
use Rattle.desk.proofs.registers.drumcallisto_stage.Goals as goal

-- src/registers.rt:60:1
pub returns : goal.returns
returns c =
    record {
      told = c.staged.ensures ∙ ap reply_of c.stage.ensures.told;
      left = c.stage.ensures.left;
    }
