use borrow.Author.Rules.{rules}
use mathlib.Core.Path.{◌≡◌, sym, ap₂}
use native.Mathlib.Omega.{arith}
use Rattle.placing.proofs.Walks.{entry_in}
use Rattle.interchange.specs.Passes.{row_with}
use Rattle.interchange.proofs.run.placed.Goals as goal

pub returns : goal.returns
returns c =
    let a = c.args in
    ap₂ (row_with a.at) (sym (entry_in a.table.now a.to 4 (omega arith))) (sym (entry_in a.table.now a.to 1 (omega arith)))
