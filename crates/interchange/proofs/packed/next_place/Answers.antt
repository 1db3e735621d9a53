use borrow.Author.Rules.{rules}
use mathlib.Core.Path.{◌≡◌, refl, sym, ◌∙◌}
use mathlib.Core.List.{List, []}
use Prim.Native.Nat.{ℕ, ◌%◌, ◌<◌}
use native.Mathlib.Omega.{arith}
use lib.ListN.{get_or}
use Rattle.placing.specs.Table.{rows}
use Rattle.hints.specs.Kinds.{row_in}
use Rattle.hints.proofs.Onward.{onward_row}
use Rattle.interchange.specs.Packs.{next_fits, leads}
use Rattle.interchange.proofs.packed.next_place.Goals.{After-slot_of}
use Rattle.interchange.proofs.packed.next_place.Goals as goal

-- the hint that is read leads to a row of the table
module _ (k : After-slot_of) where
  abbrev hint : ℕ
  hint = get_or (get_or k.args.hints.now k.args.place.row []) k.slot_of.result 0

  narrow : k.args.place.counts < 18446744073709551616
  narrow = omega arith

  inside : row_in hint < rows k.args.table.now
  inside =
      let a = k.args in
      onward_row a.table.now a.hints.now k.requires.2 a.place.row a.place.counts k.slot_of.result k.requires.3 narrow hint refl

pub overflow_cast-to : goal.overflow_cast-to
overflow_cast-to c = omega (arith, inside (goal.at.overflow_cast-to c).After-slot_of)

pub overflow_add-result : goal.overflow_add-result
overflow_add-result c =
    let f = next_fits (hint (goal.at.overflow_add-result c).After-slot_of % 32) _ c.bound_of.result c.more_of.result (omega arith) c.bound_of.ensures c.more_of.ensures c.if-bound_of-kept.false in
    omega arith

pub returns : goal.returns
returns c =
    let a = c.args in
    leads a.table.now a.hints.now c.requires.2 a.place.row a.place.counts c.slot_of.result c.requires.3 (narrow (goal.at.returns c).After-slot_of) (hint (goal.at.returns c).After-slot_of) refl
    c.kept_mask.result c.bound_of.result c.more_of.result c.kept_mask.ensures c.bound_of.ensures c.more_of.ensures c.if-bound_of-kept.false
