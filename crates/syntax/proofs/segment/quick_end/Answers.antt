-- `quick_end` meets its contract.
-- Assumes nothing.
use mathlib.Core.Path.{◌≡◌, sym, ◌∙◌}
use Prim.Native.Nat.{◌+◌, ◌-◌, ◌≤◌, ◌<◌}
use native.Mathlib.Omega.{arith}
use borrow.Author.Tests.{eqb-true, leb-true}
use lib.Dec.{eqb, leb}
use lib.ListN.{length, get_or}
use Rattle.laws.specs.Choice.{both_parts}
use Rattle.syntax.specs.Found.{end_from, end_quote, told_some, told_none}
use Rattle.syntax.specs.Ran.{stops_known}
use Rattle.syntax.specs.Quick.{quick_past, quick_short, quick_told}
use Rattle.syntax.proofs.segment.quick_end.Goals.{In-Stops}
use Rattle.syntax.proofs.segment.quick_end.Goals as goal

pub returns-then-s-lt4 : goal.returns-then-s-lt4
returns-then-s-lt4 c =
    let a = c.args in
    let s = a.s.now in
    told_none (length s) (length s) (omega arith) ∙ quick_told s a.at (length s) (quick_past s a.at (omega arith))

pub returns-then-s-at : goal.returns-then-s-at
returns-then-s-at c =
    let a = c.args in
    let s = a.s.now in
    told_none (length s) (length s) (omega arith) ∙ quick_told s a.at (length s) (quick_past s a.at (omega arith))

-- the run stopped at a byte
module _ (e : In-Stops) where
  stopped : (e.args.at + 4 ≤ e.in-Stops.j) × (e.in-Stops.j < length e.args.s.now) × (end_from e.args.s.now e.in-Stops.j ≡ end_from e.args.s.now (e.args.at + 4))
  stopped = stops_known e.args.s.now (e.args.at + 4) e.run_end.ensures e.in-Stops.is

  here : get_or e.args.s.now e.in-Stops.j 0 ≡ 39 → e.in-Stops.j ≡ end_from e.args.s.now (e.args.at + 4)
  here q = sym (end_quote e.args.s.now e.in-Stops.j stopped.1 q) ∙ stopped.2

pub returns-then-closes : goal.returns-then-closes
returns-then-closes c =
    let k = both_parts (eqb (get_or c.args.s.now c.in-Stops.j 0) 39) (leb (c.in-Stops.j - c.args.at) 34) (sym c.closes.ensures ∙ c.if-closes.true) in
    told_some (length c.args.s.now) c.in-Stops.j (stopped (goal.at.returns-then-closes c).In-Stops).1
    ∙ quick_told c.args.s.now c.args.at c.in-Stops.j (quick_short c.args.s.now c.args.at c.in-Stops.j (here (goal.at.returns-then-closes c).In-Stops (eqb-true _ 39 k.0)) (leb-true _ 34 k.1))
