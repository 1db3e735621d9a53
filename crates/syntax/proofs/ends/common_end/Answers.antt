-- `common_end` meets its contract.
-- Assumes nothing.
use mathlib.Core.Path.{◌≡◌, refl, sym, ◌∙◌}
use mathlib.Core.List.{List}
use Prim.Native.Nat.{ℕ, ◌+◌, ◌/◌, ◌≤◌}
use native.Mathlib.Omega.{arith}
use lib.Count.{count_trailing_zeros, trailing_le}
use lib.ListN.{drop}
use Rattle.laws.specs.Choice.{pick}
use Rattle.laws.specs.Words.{word_by}
use Rattle.laws.specs.Eight.{eight_at}
use Rattle.laws.specs.Leads.{run_of, eight_lead, eight_clear}
use Rattle.syntax.specs.Passed.{common, common_word}
use Rattle.syntax.specs.Found.{end_from, end_common}
use Rattle.syntax.proofs.ends.common_end.Goals.{After-stops_in-stops, At-loop-i}
use Rattle.syntax.proofs.ends.common_end.Goals as goal

pub returns-then-s-lt8 : goal.returns-then-s-lt8
returns-then-s-lt8 c = (omega arith, refl)

pub loop-i-init : goal.loop-i-init
loop-i-init c = (omega arith, omega arith, refl)

-- after it is known which of eight bytes stop it
module _ (t : After-stops_in-stops) where
  abbrev list : List ℕ
  list = t.args.s.now

  abbrev zeros : ℕ
  zeros = count_trailing_zeros 64 t.stops_in-stops.result

  few : zeros ≤ 64
  few = trailing_le 64 t.stops_in-stops.result

  goes_by : (k : ℕ) → k ≤ run_of common (drop t.loop-i.i list) → end_from list (t.loop-i.i + k) ≡ end_from list t.args.from
  goes_by k h = sym (end_common list t.loop-i.i k h) ∙ t.loop-i.invariant.2

  stops : t.stops_in-stops.result ≡ word_by (λ b. pick (common b) 0 128) (eight_at list t.loop-i.i)
  stops =
      common_word list t.loop-i.i t.eight_at.result t.eight_at.ensures t.stops_in-stops.result t.stops_in-stops.ensures

pub overflow_cast-result : goal.overflow_cast-result
overflow_cast-result c = let h = few (goal.at.overflow_cast-result c).After-stops_in-stops in omega arith

pub overflow_add-result : goal.overflow_add-result
overflow_add-result c = let h = few (goal.at.overflow_add-result c).After-stops_in-stops in omega arith

pub returns-then-stops-ne0 : goal.returns-then-stops-ne0
returns-then-stops-ne0 c =
    (omega arith, goes_by (goal.at.returns-then-stops-ne0 c).After-stops_in-stops (zeros (goal.at.returns-then-stops-ne0 c).After-stops_in-stops / 8) (eight_lead common (list (goal.at.returns-then-stops-ne0 c).After-stops_in-stops) c.loop-i.i c.stops_in-stops.result (omega arith) (stops (goal.at.returns-then-stops-ne0 c).After-stops_in-stops)))

pub loop-i-preserved : goal.loop-i-preserved
loop-i-preserved c =
    (c.loop-i.invariant.0, omega arith, goes_by (goal.at.loop-i-preserved c).After-stops_in-stops 8 (eight_clear common (list (goal.at.loop-i-preserved c).After-stops_in-stops) c.loop-i.i c.stops_in-stops.result (omega arith) (stops (goal.at.loop-i-preserved c).After-stops_in-stops) c.if-stops-ne0.false))

pub returns : goal.returns
returns c = (c.loop-i.invariant.1, c.loop-i.invariant.2)
