-- `lines::field` passes so many tabs.
-- Assumes nothing.
use mathlib.Core.Path.{◌≡◌}
use Prim.Native.Nat.{◌-◌}
use Rattle.lines.specs.Lines.{start_at}
use Rattle.lines.proofs.field.Given as goal

abbrev pub invariant-loop : goal.invariant-loop
invariant-loop l = start_at l.line l.at 9 (l.k - l.counter) ≡ start_at l.line 0 9 l.k
