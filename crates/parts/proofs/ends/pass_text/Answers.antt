-- `pass_text` meets its contract.
-- Assumes nothing.
use mathlib.Core.Path.{◌≡◌, refl, ◌∙◌}
use Prim.Native.Nat.{ℕ, ◌+◌, ◌/◌, ◌≤◌}
use native.Mathlib.Omega.{arith}
use lib.Bits.{bit_xor}
use lib.Count.{count_trailing_zeros, trailing_le}
use lib.ListN.{drop}
use Rattle.laws.specs.Leads.{run_of, eight_lead}
use Rattle.raw_bytes.specs.Eights.{Eights, eights_known}
use Rattle.parts.specs.Component.{component_end}
use Rattle.parts.specs.Texts.{is_text, text_goes, stops_word, eight_text}
use Rattle.parts.proofs.ends.pass_text.Goals.{After-text_bits-text, At-loop-i, In-Some}
use Rattle.parts.proofs.ends.pass_text.Goals as goal

pub loop-i-init : goal.loop-i-init
loop-i-init c = (c.requires, refl)

pub returns-then-to-i-lt8 : goal.returns-then-to-i-lt8
returns-then-to-i-lt8 c = c.loop-i.invariant.1

pub returns-in_default : goal.returns-in_default
returns-in_default c = c.loop-i.invariant.1

-- eight bytes were found
module _ (t : In-Some) where
  found : Eights t.args.s.now t.loop-i.i t.in-Some.word
  found = eights_known t.args.s.now t.loop-i.i t.eight_at.ensures t.in-Some.is

-- it is known which of them are passed over
module _ (t : After-text_bits-text) where
  abbrev zeros : ℕ
  zeros = count_trailing_zeros 64 (bit_xor t.text_bits-text.result 9259542123273814144)

  few : zeros ≤ 64
  few = trailing_le 64 (bit_xor t.text_bits-text.result 9259542123273814144)

  goes_by : (k : ℕ) → t.loop-i.i + k ≤ t.args.to → k ≤ run_of is_text (drop t.loop-i.i t.args.s.now)
      → component_end t.args.s.now (t.loop-i.i + k) t.args.to ≡ component_end t.args.s.now t.args.from t.args.to
  goes_by k h r =
      text_goes t.args.s.now t.args.to t.loop-i.invariant.0 k t.loop-i.i h r ∙ t.loop-i.invariant.1

pub overflow_cast-result : goal.overflow_cast-result
overflow_cast-result c = let h = few (goal.at.overflow_cast-result c).After-text_bits-text in omega arith

pub overflow_add-result : goal.overflow_add-result
overflow_add-result c = let h = few (goal.at.overflow_add-result c).After-text_bits-text in let f = (found (goal.at.overflow_add-result c).In-Some).inside in omega arith

pub returns-then-text : goal.returns-then-text
returns-then-text c =
    let h = few (goal.at.returns-then-text c).After-text_bits-text in
    let s = c.args.s.now in
    let i = c.loop-i.i in
    let f = found (goal.at.returns-then-text c).In-Some in
    goes_by (goal.at.returns-then-text c).After-text_bits-text (zeros (goal.at.returns-then-text c).After-text_bits-text / 8) (omega arith)
    (eight_lead is_text s i (bit_xor c.text_bits-text.result 9259542123273814144) f.inside (stops_word s i f c.text_bits-text.result c.text_bits-text.ensures))

pub overflow_add-i : goal.overflow_add-i
overflow_add-i c = let f = (found (goal.at.overflow_add-i c).In-Some).inside in omega arith

pub loop-i-preserved : goal.loop-i-preserved
loop-i-preserved c = (
  c.loop-i.invariant.0,
  goes_by (goal.at.loop-i-preserved c).After-text_bits-text 8 (omega arith) (eight_text c.args.s.now c.loop-i.i (found (goal.at.loop-i-preserved c).In-Some) c.text_bits-text.result c.text_bits-text.ensures c.if-text.false),
)

pub returns : goal.returns
returns c = c.loop-i.invariant.1
