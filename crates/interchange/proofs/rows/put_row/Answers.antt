use native.Mathlib.Omega.{arith}
use lib.ListN.{length-set}
use Rattle.interchange.specs.Laws.{put_row}
use borrow.Author.Rules.{rules}
use Rattle.interchange.proofs.rows.put_row.Goals as goal

pub bounds-to-at-2 : goal.bounds-to-at-2
bounds-to-at-2 c = simp length-set (omega (arith, c.requires.0))

pub returns : goal.returns
unfolding put_row
returns c = rw c.requires.1
