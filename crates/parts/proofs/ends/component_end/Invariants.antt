-- `component_end` meets its contract.
-- Assumes nothing.
use mathlib.Core.Path.{◌≡◌}
use Prim.Native.Nat.{◌≤◌, max}
use Rattle.parts.specs.Component.{component_end}
use Rattle.parts.proofs.ends.component_end.Given as goal

abbrev pub invariant-loop-i : goal.invariant-loop-i
invariant-loop-i l = record {
  within : l.i ≤ max l.start l.end;
  left : component_end l.s l.i l.end ≡ component_end l.s l.from l.to;
}
