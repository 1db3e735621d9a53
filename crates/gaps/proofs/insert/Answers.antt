-- `gaps::insert` meets its contract.
-- Assumes nothing.
use mathlib.Core.Path.{sym, ◌∙◌}
use native.Mathlib.Omega.{arith}
use Rattle.gaps.specs.Move.{filled, inserted_past}
use Rattle.gaps.proofs.insert.Goals as goal

pub returns-then-b-part : goal.returns-then-b-part
returns-then-b-part c = let a = c.args in sym (inserted_past a.b.now a.at a.part.now (omega arith))

pub returns-then-b-part-2 : goal.returns-then-b-part-2
returns-then-b-part-2 c = let a = c.args in sym (inserted_past a.b.now a.at a.part.now (omega arith))

pub returns : goal.returns
returns c =
    let a = c.args in
    c.put_bytes.ensures.1 ∙ filled c.open_gap.new.b a.b.now a.part.now a.at c.open_gap.ensures c.open_gap.auto.b (omega arith)
