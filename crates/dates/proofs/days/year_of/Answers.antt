-- `year_of` meets its contract: the days of the whole years passed, and those left, are the number.
-- Assumes nothing.
use mathlib.Core.Path.{◌≡◌, ap, ◌∙◌}
use Prim.Native.Nat.{◌-◌}
use native.Mathlib.Omega.{arith}
use Rattle.dates.specs.Back.{no_years, next_year}
use Rattle.dates.specs.Days.{year_days}
use Rattle.dates.specs.Laws.{all_days}
use Rattle.dates.proofs.days.year_of.Goals as goal

pub loop-year-init : goal.loop-year-init
loop-year-init c = no_years c.args.number

pub loop-year-preserved : goal.loop-year-preserved
loop-year-preserved c =
    let l = c.loop-year in
    (next_year l.year l.left c.args.number c.requires l.auto.year (omega (arith, l.auto.year-end)) l.invariant c.year_length-length.ensures c.if-left-length.false).2

pub unreachable-requires : goal.unreachable-requires
unreachable-requires c =
    let l = c.loop-year in
    let q : l.year - 1990 ≡ 110 = omega (arith, l.auto.year-end) in
    omega (arith, ap year_days q ∙ all_days)
