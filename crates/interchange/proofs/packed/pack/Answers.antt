use borrow.Author.Rules.{rules}
use mathlib.Core.Path.{◌≡◌, refl, sym, ◌∙◌}
use mathlib.Core.Bool.{true}
use Prim.Native.Nat.{◌<◌}
use native.Mathlib.Omega.{arith}
use borrow.Author.Tests.{not-false}
use Rattle.interchange.specs.Packs.{narrow, narrow_parts, packs}
use Rattle.interchange.proofs.packed.pack.Goals.{Else-not-is_narrow, Start}
use Rattle.interchange.proofs.packed.pack.Goals as goal

-- the counts have room
module _ (e : Else-not-is_narrow) where
  fine : narrow e.args.place ≡ true
  fine = sym e.is_narrow.ensures ∙ e.if-not-is_narrow.false

  parts : (e.args.place.c0 < 16384) × (e.args.place.c1 < 16384) × (e.args.place.c2 < 16384) × (e.args.place.c3 < 16384) × (e.args.place.c4 < 256)
  parts = narrow_parts e.args.place fine

pub overflow_mul-counts-3 : goal.overflow_mul-counts-3
overflow_mul-counts-3 c = omega (arith, parts (goal.at.overflow_mul-counts-3 c).Else-not-is_narrow)

pub overflow_add-counts-3 : goal.overflow_add-counts-3
overflow_add-counts-3 c = omega (arith, parts (goal.at.overflow_add-counts-3 c).Else-not-is_narrow)

pub overflow_mul-counts-4 : goal.overflow_mul-counts-4
overflow_mul-counts-4 c = omega (arith, parts (goal.at.overflow_mul-counts-4 c).Else-not-is_narrow)

pub overflow_add-counts-4 : goal.overflow_add-counts-4
overflow_add-counts-4 c = omega (arith, parts (goal.at.overflow_add-counts-4 c).Else-not-is_narrow)

pub returns : goal.returns
returns c =
    let a = c.args in
    packs a.table.now a.place _ refl (fine (goal.at.returns c).Else-not-is_narrow) c.entry-level.result c.entry-level.ensures c.if-level-gt4.false c.if-counts-level-eq0.false c.if-table-row.false
