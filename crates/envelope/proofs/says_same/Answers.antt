-- `envelope::says_same` meets its contract.
-- Assumes nothing.
use mathlib.Core.Path.{sym, ◌∙◌}
use Rattle.envelope.specs.Counted.{same_written}
use Rattle.envelope.proofs.says_same.Goals as goal

pub returns-then-begins : goal.returns-then-begins
returns-then-begins c =
    let a = c.args in
    same_written a.a.now a.b.now c.if-a-b.true (sym c.begins.ensures ∙ c.if-begins.true)

pub returns : goal.returns
returns c = c.same.ensures
