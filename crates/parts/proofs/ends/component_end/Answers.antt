-- `component_end` meets its contract.
-- Assumes nothing.
use mathlib.Core.Path.{sym, ap, ◌∙◌}
use native.Mathlib.Omega.{arith}
use lib.ListN.{length, get_or}
use Prim.Native.Nat.{◌≤◌}
use Rattle.parts.specs.Component.{component_end, component_least, component_none, at_element, at_repetition, at_component, component_on, no_release}
use Rattle.parts.proofs.ends.component_end.Goals.{then-byte-eq43-via-then-byte-eq43, then-byte-eq43-via-else-byte-eq43+then-byte-eq42, then-byte-eq43-via-else-byte-eq43+else-byte-eq42+then-byte-eq58}
use Rattle.parts.proofs.ends.component_end.Goals as goal

pub pass_text-start-requires : goal.pass_text-start-requires
pass_text-start-requires c = omega (arith, c.min-end.ensures)

pub loop-i-init : goal.loop-i-init
loop-i-init c =
    let a = c.args in
    record {
      within = omega arith;
      left = c.pass_text-start.ensures ∙ ap (component_end a.s.now a.from) c.min-end.ensures ∙ component_least a.s.now a.from a.to;
    }

pub returns-then-byte-eq43 : goal.returns-then-byte-eq43
returns-then-byte-eq43 c =
    let v = c.loop-i.invariant.left in
    let m : c.min-end.result ≤ length c.args.s.now = omega (arith, c.min-end.ensures) in
    elim c.then-byte-eq43.branch [
      | then-byte-eq43-via-then-byte-eq43 w ↦ at_element c.args.s.now c.loop-i.i c.min-end.result c.loop-i-test.true m w.if-byte-eq43.true ∙ v
      | then-byte-eq43-via-else-byte-eq43+then-byte-eq42 w ↦
          at_repetition c.args.s.now c.loop-i.i c.min-end.result c.loop-i-test.true m w.if-byte-eq43.false w.if-byte-eq42.true ∙ v
      | then-byte-eq43-via-else-byte-eq43+else-byte-eq42+then-byte-eq58 w ↦
          at_component c.args.s.now c.loop-i.i c.min-end.result c.loop-i-test.true m w.if-byte-eq43.false w.if-byte-eq42.false w.if-byte-eq58.true ∙ v
    ]

pub returns-then-near_release : goal.returns-then-near_release
returns-then-near_release c = c.end_by_each.ensures ∙ c.loop-i.invariant.left

pub loop-i-preserved : goal.loop-i-preserved
loop-i-preserved c =
    let m : c.min-end.result ≤ length c.args.s.now = omega (arith, c.min-end.ensures) in
    let n = no_release (get_or c.args.s.now c.loop-i.i 0) (sym c.near_release.ensures ∙ c.if-near_release.false) in
    record {
      within = omega arith;
      left = component_on c.args.s.now c.loop-i.i c.min-end.result c.loop-i-test.true m c.if-byte-eq43.false c.if-byte-eq42.false c.if-byte-eq58.false n ∙ c.loop-i.invariant.left;
    }

pub returns : goal.returns
returns c =
    let e = component_none c.args.s.now c.loop-i.i c.min-end.result (omega arith) in
    let v = c.loop-i.invariant in
    let m = c.max.ensures in
    omega arith
