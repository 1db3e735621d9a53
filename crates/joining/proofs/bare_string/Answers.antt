-- `bare_string` meets its contract.
-- Assumes nothing.
use mathlib.Core.Path.{sym, ap, ◌∙◌}
use Prim.Native.Nat.{◌-◌}
use native.Mathlib.Omega.{arith}
use lib.ListN.{drop, length, length-drop}
use lib.Seq.{take_all}
use Rattle.laws.specs.Choice.{all}
use Rattle.period.specs.Period.{zero_or_one}
use Rattle.joining.specs.Places.{string_place}
use Rattle.joining.proofs.bare_string.Goals as goal

pub slice_bounds-result-count : goal.slice_bounds-result-count
slice_bounds-result-count c = let l = (c.is_bare.ensures c.if-is_bare.true).long in omega arith

pub slice_bounds-result-start : goal.slice_bounds-result-start
slice_bounds-result-start c = let l = (c.is_bare.ensures c.if-is_bare.true).long in omega arith

pub returns-then-is_bare : goal.returns-then-is_bare
returns-then-is_bare c =
    let g = c.args.g.now in
    let b = c.is_bare.ensures c.if-is_bare.true in
    let l = length-drop 31 g in
    let t = take_all (length g - 31) (drop 31 g) (omega arith) in
    λ h. (t ∙ string_place g c.requires.0 c.requires.1 b, ap (all zero_or_one) t ∙ b.days)

pub returns-then-are_days : goal.returns-then-are_days
returns-then-are_days c =
    λ h. (c.part_in-part.ensures, sym c.are_days.ensures ∙ c.if-are_days.true)

pub returns : goal.returns
returns c = λ h. absurd (omega arith)
