use mathlib.Core.Path.{refl, sym, ◌∙◌}
use native.Mathlib.Omega.{arith}
use borrow.Author.Tests.{ne_eqb}
use Rattle.syntax.specs.Released.{release_short, release_two, release_other, release_bad}
use Rattle.syntax.proofs.bytes.released_end.Goals.{At-loop-i}
use Rattle.syntax.proofs.bytes.released_end.Goals as goal

pub returns-then-s-lt2 : goal.returns-then-s-lt2
returns-then-s-lt2 c =
    let a = c.args in
    let h = c.if-s-lt2.true in
    let z = release_short a.s.now a.from (omega arith) in
    omega arith

pub loop-i-init : goal.loop-i-init
loop-i-init c = (omega arith, refl)

pub bounds-s-i : goal.bounds-s-i
bounds-s-i c =
    let v = c.loop-i.invariant.0 in
    omega arith

pub returns-then-s-i-ne63 : goal.returns-then-s-i-ne63
returns-then-s-i-ne63 c =
    let v = c.loop-i.invariant in
    let l = c.loop-i-test.true in
    let z = release_other c.args.s.now c.loop-i.i (omega arith) (ne_eqb _ _ c.if-s-i-ne63.true) in
    omega arith

pub bounds-s-i-in-loop-i : goal.bounds-s-i-in-loop-i
bounds-s-i-in-loop-i c =
    let v = c.loop-i.invariant.0 in
    omega arith

pub returns-then-not-permitted : goal.returns-then-not-permitted
returns-then-not-permitted c =
    let v = c.loop-i.invariant in
    let l = c.loop-i-test.true in
    let z = release_bad c.args.s.now c.loop-i.i (omega arith) (sym c.permitted.ensures ∙ c.if-not-permitted.true) in
    omega arith

pub overflow_add-i-in-loop-i : goal.overflow_add-i-in-loop-i
overflow_add-i-in-loop-i c =
    let v = c.loop-i.invariant in
    let l = c.loop-i-test.true in
    omega arith

pub loop-i-smaller : goal.loop-i-smaller
loop-i-smaller c =
    let v = c.loop-i.invariant in
    let l = c.loop-i-test.true in
    omega arith

pub loop-i-preserved : goal.loop-i-preserved
loop-i-preserved c =
    let v = c.loop-i.invariant in
    let l = c.loop-i-test.true in
    (v.0, release_two c.args.s.now c.loop-i.i (omega arith) c.if-s-i-ne63.false (sym c.permitted.ensures ∙ c.if-not-permitted.false) ∙ v.1)

pub returns : goal.returns
returns c =
    let v = c.loop-i.invariant in
    let l = c.loop-i-test.false in
    let z = release_short c.args.s.now c.loop-i.i (omega arith) in
    omega arith
