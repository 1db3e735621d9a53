-- `gaps::close_gap` meets its contract.
-- Assumes nothing.
use mathlib.Core.Path.{sym, ◌∙◌}
use native.Mathlib.Omega.{arith}
use Rattle.gaps.specs.Move.{closed_fits, closed_past}
use Rattle.gaps.proofs.close_gap.Goals as goal

pub returns-then-b-n : goal.returns-then-b-n
returns-then-b-n c = let a = c.args in sym (closed_past a.b.now a.at a.n (omega arith))

pub returns-then-b-n-2 : goal.returns-then-b-n-2
returns-then-b-n-2 c = let a = c.args in sym (closed_past a.b.now a.at a.n (omega arith))

pub returns : goal.returns
returns c =
    let a = c.args in
    c.close_within.ensures ∙ sym (closed_fits a.b.now a.at a.n (omega arith))
