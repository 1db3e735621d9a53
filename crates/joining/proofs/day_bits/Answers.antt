-- `day_bits` meets its contract.
-- Assumes nothing.
use native.Mathlib.Omega.{arith}
use mathlib.Core.Path.{◌≡◌, refl, ap, ◌∙◌}
use mathlib.Core.Bool.{Bool, true, false}
use Prim.Native.Nat.{ℕ, ◌+◌, ◌-◌}
use lib.Dec.{eqb}
use lib.ListN.{get_or}
use mir.Val.{bool_byte}
use Rattle.laws.specs.Choice.{pick}
use Rattle.calendar.specs.Days.{has_bit}
use Rattle.raw_bytes.specs.Eights.{eights_known}
use Rattle.joining.specs.Eights.{gather_on}
use Rattle.joining.specs.Gathered.{eight_days}
use Rattle.joining.proofs.day_bits.Goals as goal

as_digit : (w : Bool) → bool_byte w ≡ pick w 1 0
as_digit true = refl
as_digit false = refl

pub returns-in-Some : goal.returns-in-Some
returns-in-Some c = λ j h.
    let a = c.args in
    let e = eights_known a.text.now a.from c.eight_at.ensures c.in-Some.is in
    ap (λ (x : ℕ). has_bit x j) c.eight_bits.ensures ∙ eight_days a.text.now a.from e c.requires.2 j (omega arith)

pub loop-left-init : goal.loop-left-init
loop-left-init c = (omega arith, λ j h. absurd (omega arith))

pub loop-left-preserved : goal.loop-left-preserved
loop-left-preserved c =
    let a = c.args in
    let l = c.loop-left in
    (omega arith, gather_on a.text.now a.from l.left a.m l.bits _ (as_digit (eqb (get_or a.text.now (a.from + (l.left - 1)) 0) 49)) c.loop-left-test.true c.requires.0 l.invariant.1)

pub returns : goal.returns
returns c = λ j h.
    let a = c.args in
    let l = c.loop-left in
    let z : a.from + l.left + j ≡ a.from + j = omega arith in
    l.invariant.1 j (omega arith) ∙ ap (λ (i : ℕ). eqb (get_or a.text.now i 0) 49) z
