use mathlib.Core.Path.{◌≡◌}
use Prim.Native.Nat.{◌-◌}
use Rattle.laws.specs.Lists.{between}
use Rattle.syntax.specs.Pieces.{pieces}
use Rattle.parts.specs.Places.{span_of}
use Rattle.parts.proofs.rest_from.Given as goal

abbrev pub invariant-loop : goal.invariant-loop
invariant-loop l = span_of l.from (pieces l.mark (between l.s l.from l.to)) (l.n - l.counter) ≡ span_of l.initial.from (pieces l.mark (between l.s l.initial.from l.to)) l.n
