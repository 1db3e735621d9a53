-- `is_small` meets its contract.
-- Assumes nothing.
use mathlib.Core.Path.{sym}
use borrow.Author.Tests.{le-leb}
use Rattle.syntax.specs.Few.{marks_in}
use Rattle.syntax.proofs.marks.is_small.Goals as goal

pub returns-then-has_text : goal.returns-then-has_text
returns-then-has_text c = sym (le-leb (marks_in c.args.p.now) 31 (c.has_text.ensures c.if-has_text.true))
