-- `words_end` meets its contract.
-- Assumes nothing.
use mathlib.Core.Path.{◌≡◌, refl, ◌∙◌}
use mathlib.Core.List.{List}
use Prim.Native.Nat.{ℕ, ◌+◌, ◌/◌, ◌≤◌}
use native.Mathlib.Omega.{arith}
use lib.Bits.{bit_or, bit_xor}
use lib.Count.{count_trailing_zeros, trailing_le}
use lib.ListN.{drop}
use Rattle.laws.specs.Choice.{pick}
use Rattle.laws.specs.Words.{word_by}
use Rattle.laws.specs.Eight.{eight_at}
use Rattle.laws.specs.Leads.{run_of, eight_lead, eight_clear}
use Rattle.syntax.specs.Runs.{text_run}
use Rattle.syntax.specs.Plain.{common_text, text_on, text_word}
use Rattle.syntax.proofs.texts.words_end.Goals.{After-texts_in, At-loop-i}
use Rattle.syntax.proofs.texts.words_end.Goals as goal

pub returns-then-s-lt8 : goal.returns-then-s-lt8
returns-then-s-lt8 c = (omega arith, refl)

pub loop-i-init : goal.loop-i-init
loop-i-init c = (omega arith, omega arith, refl)

-- after it is known which of eight bytes are no such text
module _ (t : After-texts_in) where
  abbrev list : List ℕ
  list = t.args.s.now

  abbrev stops : ℕ
  stops = bit_or t.stops_in.result (bit_xor t.texts_in.result 9259542123273814144)

  few : count_trailing_zeros 64 stops ≤ 64
  few = trailing_le 64 stops

  word : stops ≡ word_by (λ b. pick (common_text b) 0 128) (eight_at list t.loop-i.i)
  word =
      let e = t.eight_at-x in
      text_word list t.loop-i.i e.result e.ensures t.stops_in.result t.texts_in.result t.stops_in.ensures t.texts_in.ensures

  goes_by : (k : ℕ) → k ≤ run_of common_text (drop t.loop-i.i list)
      → t.loop-i.i + k + text_run (drop (t.loop-i.i + k) list) ≡ t.args.from + text_run (drop t.args.from list)
  goes_by k h = text_on list t.loop-i.i k h ∙ t.loop-i.invariant.2

pub overflow_cast-result : goal.overflow_cast-result
overflow_cast-result c = let h = few (goal.at.overflow_cast-result c).After-texts_in in omega arith

pub overflow_add-result : goal.overflow_add-result
overflow_add-result c = let h = few (goal.at.overflow_add-result c).After-texts_in in omega arith

pub returns-then-stops-ne0 : goal.returns-then-stops-ne0
returns-then-stops-ne0 c =
    (omega arith, goes_by (goal.at.returns-then-stops-ne0 c).After-texts_in (count_trailing_zeros 64 (stops (goal.at.returns-then-stops-ne0 c).After-texts_in) / 8) (eight_lead common_text (list (goal.at.returns-then-stops-ne0 c).After-texts_in) c.loop-i.i (stops (goal.at.returns-then-stops-ne0 c).After-texts_in) (omega arith) (word (goal.at.returns-then-stops-ne0 c).After-texts_in)))

pub loop-i-preserved : goal.loop-i-preserved
loop-i-preserved c =
    (c.loop-i.invariant.0, omega arith, goes_by (goal.at.loop-i-preserved c).After-texts_in 8 (eight_clear common_text (list (goal.at.loop-i-preserved c).After-texts_in) c.loop-i.i (stops (goal.at.loop-i-preserved c).After-texts_in) (omega arith) (word (goal.at.loop-i-preserved c).After-texts_in) c.if-stops-ne0.false))

pub returns : goal.returns
returns c = (c.loop-i.invariant.1, c.loop-i.invariant.2)
