-- `week_in` meets its contract.
-- Assumes nothing.
use mathlib.Core.Path.{ap, ◌∙◌}
use mathlib.Core.List.{List}
use Prim.Native.Nat.{ℕ}
use native.Mathlib.Omega.{arith}
use Rattle.syntax.specs.Bytes.{plain}
use Rattle.joining.specs.Joined.{week_bits}
use Rattle.joining.specs.Weekdays.{week_found}
use Rattle.joining.proofs.week_in.Goals as goal

pub returns-then-not-is_marked : goal.returns-then-not-is_marked
returns-then-not-is_marked c = c.week_of.ensures ∙ ap (λ (x : List ℕ). week_bits 0 (plain x)) c.part_in.ensures

pub returns-then-week-eq0 : goal.returns-then-week-eq0
returns-then-week-eq0 c = c.week_of-then-week-eq0.ensures ∙ ap (λ (x : List ℕ). week_bits 0 (plain x)) c.part_in-then-week-eq0.ensures

pub returns : goal.returns
returns c =
    week_found c.args.g.now c.requires (c.is_marked.ensures (c.if-not-is_marked.false)) c.plain_week-week.ensures (omega arith)
