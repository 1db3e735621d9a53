-- `read_second` meets its contract.
-- Assumes nothing.
use mathlib.Core.Path.{◌≡◌, sym, subst, ◌∙◌}
use mathlib.Core.List.{List}
use Prim.Native.Nat.{ℕ, ◌<◌}
use native.Mathlib.Omega.{arith}
use lib.ListN.{length, get_or}
use Rattle.period.specs.Written.{Begins}
use Rattle.period.specs.Pops.{weekdays_pop}
use Rattle.period.proofs.written.read_second.Goals as goal

pub returns-in-Some : goal.returns-in-Some
returns-in-Some c =
    c.new.ensures ∙ weekdays_pop c.args.s.now c.args.at c.args.g.now (sym c.requires.0) c.requires.1 c.in-Some.end (c.in-Some.ensures) c.requires.3

pub read_passed-requires : goal.read_passed-requires
read_passed-requires c =
    let q = c.requires.0 in
    subst (λ (x : List ℕ). Begins x c.args.days.first c.args.days.count × (30 < length x) × (get_or x 29 0 ≡ 43) × (get_or x 30 0 ≡ 43)) c.requires.0 (c.requires.1, c.if-g-le30.false, c.requires.3, c.if-g-eq43.true)

pub returns-then-g-eq43 : goal.returns-then-g-eq43
returns-then-g-eq43 c = c.read_passed.ensures
