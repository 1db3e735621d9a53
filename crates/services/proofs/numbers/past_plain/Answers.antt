-- `services::numbers::past_plain` meets its contract: each step from the last byte back.
-- Assumes nothing.
use mathlib.Core.Path.{◌≡◌, ap, ◌∙◌}
use Prim.Native.Nat.{◌+◌}
use native.Mathlib.Omega.{arith}
use Rattle.services.specs.Numbers.{number_end}
use Rattle.services.proofs.numbers.past_plain.Goals as goal

pub plain_from-sixth-requires : goal.plain_from-sixth-requires
plain_from-sixth-requires c =
    let a = c.args in
    let e : a.from + 5 + 1 ≡ a.from + 6 = omega arith in
    (omega arith, ap (number_end a.s.now) e)

pub plain_from-fifth-requires : goal.plain_from-fifth-requires
plain_from-fifth-requires c =
    let a = c.args in
    let e : a.from + 4 + 1 ≡ a.from + 5 = omega arith in
    (omega arith, ap (number_end a.s.now) e ∙ c.plain_from-sixth.ensures)

pub plain_from-fourth-requires : goal.plain_from-fourth-requires
plain_from-fourth-requires c =
    let a = c.args in
    let e : a.from + 3 + 1 ≡ a.from + 4 = omega arith in
    (omega arith, ap (number_end a.s.now) e ∙ c.plain_from-fifth.ensures)

pub plain_from-third-requires : goal.plain_from-third-requires
plain_from-third-requires c =
    let a = c.args in
    let e : a.from + 2 + 1 ≡ a.from + 3 = omega arith in
    (omega arith, ap (number_end a.s.now) e ∙ c.plain_from-fourth.ensures)

pub plain_from-second-requires : goal.plain_from-second-requires
plain_from-second-requires c =
    let a = c.args in
    let e : a.from + 1 + 1 ≡ a.from + 2 = omega arith in
    (omega arith, ap (number_end a.s.now) e ∙ c.plain_from-third.ensures)

pub returns : goal.returns
returns c = c.plain_from.ensures
