-- `parcels::rows::put_rows` copies a row in each turn, its offset raised.
-- Assumes nothing.
use mathlib.Core.Path.{◌≡◌, refl, sym, ◌∙◌}
use Prim.Native.Nat.{◌+◌, ◌*◌}
use native.Mathlib.Omega.{arith}
use lib.ListN.{length-set}
use Rattle.parcels.specs.Rows.{raise_none, raise_start, raise_step, raise_done}
use Rattle.parcels.proofs.rows.put_rows.Goals as goal

pub returns-then-rows-n : goal.returns-then-rows-n
returns-then-rows-n c =
    let a = c.args in
    let p = c.requires in
    raise_none a.from.now a.n a.at a.base a.rows.now p.0 p.1 (omega arith)

pub returns-then-rows-n-2 : goal.returns-then-rows-n-2
returns-then-rows-n-2 c =
    let a = c.args in
    let p = c.requires in
    raise_none a.from.now a.n a.at a.base a.rows.now p.0 p.1 (omega arith)

pub loop-row-init : goal.loop-row-init
loop-row-init c =
    let a = c.args in
    (refl, raise_start a.from.now a.n a.at a.base a.rows.now)

pub bounds-rows-at-in-loop-row : goal.bounds-rows-at-in-loop-row
bounds-rows-at-in-loop-row c =
    let z = c.loop-row.invariant.0 in
    simp length-set (omega arith)

pub bounds-rows-at-in-loop-row-2 : goal.bounds-rows-at-in-loop-row-2
bounds-rows-at-in-loop-row-2 c =
    let z = c.loop-row.invariant.0 in
    simp length-set (omega arith)

pub loop-row-preserved : goal.loop-row-preserved
loop-row-preserved c =
    let a = c.args in
    let v = c.loop-row.invariant in
    let p = c.requires in
    let z = v.0 in
    let e : 3 * (c.loop-row.row + 1) ≡ 3 * c.loop-row.row + 3 = omega arith in (
      simp length-set v.0,
      rw (e, c.raised_by.ensures) (raise_step a.from.now a.n a.at a.base c.loop-row.rows (3 * c.loop-row.row) (omega arith) p.0 (omega arith) (omega arith)) ∙ v.1,
    )

pub shape_of-rows : goal.shape_of-rows
shape_of-rows c = c.loop-row.invariant.0

pub returns : goal.returns
returns c =
    let a = c.args in
    sym (raise_done a.from.now a.n a.at a.base c.loop-row.rows (3 * c.loop-row.row) (omega arith)) ∙ c.loop-row.invariant.1
