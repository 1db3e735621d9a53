-- `placing::end` meets its contract. Assumes nothing.
use mathlib.Core.Path.{ap, ◌∙◌}
use borrow.Author.Tests.{eq-eqb, ne_eqb}
use Rattle.placing.specs.Table.{after_of, end_of}
use Rattle.placing.proofs.end.Goals as goal

pub returns-then-level-eq0 : goal.returns-then-level-eq0
unfolding end_of
returns-then-level-eq0 c = simp (eq-eqb _ _ c.if-level-eq0.true)

pub returns : goal.returns
unfolding end_of
returns c = simp (ne_eqb _ _ c.if-level-eq0.false) (c.after.ensures ∙ ap (after_of c.args.table.now) c.entry.ensures)
