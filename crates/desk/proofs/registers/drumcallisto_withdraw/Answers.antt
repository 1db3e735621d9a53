use mathlib.Core.Path.{ap, ◌∙◌}
use Rattle.desk.specs.Desk.{reply_of}
use borrow.Author.Rules.{rules}
use Rattle.desk.proofs.registers.drumcallisto_withdraw.Goals as goal

-- src/registers.rt:99:1
pub returns : goal.returns
returns c =
    record {
      told = c.withdrawn.ensures ∙ ap reply_of c.withdraw.ensures.told;
      left = c.withdraw.ensures.left;
    }
