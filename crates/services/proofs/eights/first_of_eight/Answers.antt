-- `services::eights::first_of_eight` meets its contract: each step from the last row back.
-- Assumes nothing.
use native.Mathlib.Omega.{arith}
use Prim.Native.Nat.{◌+◌}
use Rattle.services.specs.Inner.{key_of, passes_start, passes_same}
use Rattle.services.proofs.eights.first_of_eight.Goals as goal

pub sooner-seventh-requires : goal.sooner-seventh-requires
sooner-seventh-requires c =
    let g = c.args in
    let f = key_of g.rows.now g.sought.column g.sought.turned in
    (omega (arith, c.requires.0), c.requires.1, passes_same f g.sought.bound (g.i + 7) (g.i + 6 + 1) (g.i + 7) (omega arith) (passes_start f g.sought.bound (g.i + 7)))

pub sooner-sixth-requires : goal.sooner-sixth-requires
sooner-sixth-requires c =
    let g = c.args in
    let f = key_of g.rows.now g.sought.column g.sought.turned in
    (omega (arith, c.requires.0), c.requires.1, passes_same f g.sought.bound (g.i + 6) (g.i + 5 + 1) c.sooner-seventh.result (omega arith) c.sooner-seventh.ensures)

pub sooner-fifth-requires : goal.sooner-fifth-requires
sooner-fifth-requires c =
    let g = c.args in
    let f = key_of g.rows.now g.sought.column g.sought.turned in
    (omega (arith, c.requires.0), c.requires.1, passes_same f g.sought.bound (g.i + 5) (g.i + 4 + 1) c.sooner-sixth.result (omega arith) c.sooner-sixth.ensures)

pub sooner-fourth-requires : goal.sooner-fourth-requires
sooner-fourth-requires c =
    let g = c.args in
    let f = key_of g.rows.now g.sought.column g.sought.turned in
    (omega (arith, c.requires.0), c.requires.1, passes_same f g.sought.bound (g.i + 4) (g.i + 3 + 1) c.sooner-fifth.result (omega arith) c.sooner-fifth.ensures)

pub sooner-third-requires : goal.sooner-third-requires
sooner-third-requires c =
    let g = c.args in
    let f = key_of g.rows.now g.sought.column g.sought.turned in
    (omega (arith, c.requires.0), c.requires.1, passes_same f g.sought.bound (g.i + 3) (g.i + 2 + 1) c.sooner-fourth.result (omega arith) c.sooner-fourth.ensures)

pub sooner-second-requires : goal.sooner-second-requires
sooner-second-requires c =
    let g = c.args in
    let f = key_of g.rows.now g.sought.column g.sought.turned in
    (omega (arith, c.requires.0), c.requires.1, passes_same f g.sought.bound (g.i + 2) (g.i + 1 + 1) c.sooner-third.result (omega arith) c.sooner-third.ensures)

pub returns : goal.returns
returns c = c.sooner.ensures
