-- `mark_string` meets its contract.
-- Assumes nothing.
use mathlib.Core.Path.{◌≡◌, ap, ◌∙◌}
use mathlib.Core.List.{List}
use mathlib.Core.Bool.{true}
use Prim.Native.Nat.{ℕ, ◌≤◌}
use native.Mathlib.Omega.{arith}
use lib.ListN.{length}
use Rattle.laws.specs.Choice.{all}
use Rattle.syntax.specs.Bytes.{plain}
use Rattle.syntax.specs.Pieces.{part_of}
use Rattle.period.specs.Period.{zero_or_one}
use Rattle.joining.specs.Joined.{marked}
use Rattle.joining.specs.Strings.{runs_on, bare_text, bare_marked}
use Rattle.joining.proofs.mark_string.Goals.{Else-text-eq0, Start}
use Rattle.joining.proofs.mark_string.Goals as goal

pub bare_string-text-requires : goal.bare_string-text-requires
bare_string-text-requires c = let p = c.requires.2 in (p.dates, p.some)

pub returns-then-text-eq0 : goal.returns-then-text-eq0
returns-then-text-eq0 c =
    let a = c.args in
    c.mark_released.ensures ∙ ap (λ (x : List ℕ). marked (runs_on (plain x)) a.days.now a.at 0 a.n) c.part_in.ensures

-- a string was found
module _ (e : Else-text-eq0) where
  some : 1 ≤ length e.bare_string-text.result.now
  some = let n = e.if-text-eq0.false in omega arith

  told : (e.bare_string-text.result.now ≡ part_of e.args.g.now 1 1 4) × (all zero_or_one e.bare_string-text.result.now ≡ true)
  told = e.bare_string-text.ensures some

  few : length e.bare_string-text.result.now ≤ e.args.n
  few = let l = ap length (bare_text e.args.g.now e.bare_string-text.result.now told.0 told.1) in let f = e.requires.2.few in omega arith

pub mark_text-requires : goal.mark_text-requires
mark_text-requires c =
    let p = c.requires in
    let f = few (goal.at.mark_text-requires c).Else-text-eq0 in
    (some (goal.at.mark_text-requires c).Else-text-eq0, omega arith, omega arith, (told (goal.at.mark_text-requires c).Else-text-eq0).1)

pub returns : goal.returns
returns c =
    let a = c.args in
    bare_marked c.args.g.now c.bare_string-text.result.now (told (goal.at.returns c).Else-text-eq0).0 (told (goal.at.returns c).Else-text-eq0).1 a.days.now a.at a.n c.requires.2.few c.mark_text.ensures
