-- `placing::entry` meets its contract. Assumes nothing.
use mathlib.Core.Path.{sym, ap, ◌∙◌}
use Rattle.std.proofs.Common.{get_or, [], arith}
use Rattle.placing.proofs.Walks.{entry_found, entry_past}
use Rattle.placing.proofs.entry.Goals as goal

pub returns-in_default : goal.returns-in_default
returns-in_default c = sym (entry_past _ _ _ c.in_default.ensures.lookup.3)

pub returns : goal.returns
returns c =
    let row = c.in-Some.ensures.lookup in
    let number = c.get-2.ensures.lookup in
    rw (c.unwrap_or.ensures, c.copied.ensures) (number.4 (omega arith) 0 ∙ ap (λ x. get_or x c.args.column 0) (row.4 (omega arith) []) ∙ entry_found _ _ _ (c.told-table c.args.row row.3.0))
