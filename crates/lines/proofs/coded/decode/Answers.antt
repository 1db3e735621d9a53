-- `lines::decode` writes what each sign says, as far as there is room.
-- Assumes nothing.
use mathlib.Core.Path.{sym, ◌∙◌}
use native.Mathlib.Omega.{arith}
use mathlib.Core.Logic.{inl, inr}
use Rattle.lines.specs.Coded.{writing_starts, writing_on, writing_ends, said_none, sign_forward, sign_inside}
use Rattle.lines.proofs.coded.decode.Goals as goal

pub loop-sign-init : goal.loop-sign-init
loop-sign-init c = writing_starts _ _

pub returns-then-out-n : goal.returns-then-out-n
returns-then-out-n c = let a = c.args in let w = writing_ends a.text.now a.out.now _ _ _ c.loop-sign.invariant (inr (omega arith)) in record { value = w.0; out_after = w.1 }

pub loop-sign-smaller : goal.loop-sign-smaller
loop-sign-smaller c =
    let q = sym c.sign_at.ensures ∙ c.in-Some.is in
    let h = sign_forward c.args.text.now c.loop-sign.i _ q in
    let k = sign_inside c.args.text.now c.loop-sign.i _ q in
    omega arith

pub loop-sign-preserved : goal.loop-sign-preserved
loop-sign-preserved c =
    let a = c.args in
    let l = c.loop-sign in
    writing_on a.text.now a.out.now l.n l.i l.out c.in-Some.sign l.invariant (omega arith) (sym c.sign_at.ensures ∙ c.in-Some.is)

pub returns : goal.returns
returns c =
    let a = c.args in
    let w = writing_ends a.text.now a.out.now _ _ _ c.loop-sign.invariant (inl (said_none a.text.now c.loop-sign.i (sym c.sign_at.ensures ∙ c.in_default.is))) in
    record { value = w.0; out_after = w.1 }
