-- `is_rest_good` meets its contract.
-- Assumes nothing.
use mathlib.Core.Path.{◌≡◌, sym, ap, ◌∙◌}
use mathlib.Core.Bool.{not}
use mathlib.Core.List.{List}
use Prim.Native.Nat.{ℕ}
use Rattle.laws.specs.Text.{bytes}
use Rattle.syntax.specs.Bytes.{plain}
use Rattle.values.specs.Values.{same_text}
use Rattle.period.specs.Elements.{text_in, other_qualifier, first_repeated, second_repeated}
use Rattle.period.proofs.any.is_rest_good.Goals.{After-equals}
use Rattle.period.proofs.any.is_rest_good.Goals as goal

-- what the test of the qualifier says
module _ (e : After-equals) where
  code : same_text (plain (text_in e.args.s.now e.args.first 1)) (bytes "273") ≡ e.equals.result
  code = sym (e.equals.ensures ∙ ap (λ (t : List ℕ). same_text (plain t) (bytes "273")) e.text_in.ensures)

pub returns-then-not-equals : goal.returns-then-not-equals
returns-then-not-equals c =
    other_qualifier c.args.s.now c.args.first c.args.second (code (goal.at.returns-then-not-equals c).After-equals ∙ c.if-not-equals.true)

pub returns-then-is_repeated : goal.returns-then-is_repeated
returns-then-is_repeated c =
    first_repeated c.args.s.now c.args.first c.args.second (code (goal.at.returns-then-is_repeated c).After-equals ∙ c.if-not-equals.false) (sym c.is_repeated.ensures ∙ c.if-is_repeated.true)

pub returns : goal.returns
returns c =
    ap not c.is_repeated-2.ensures
    ∙ second_repeated c.args.s.now c.args.first c.args.second (code (goal.at.returns c).After-equals ∙ c.if-not-equals.false) (sym c.is_repeated.ensures ∙ c.if-is_repeated.false)
