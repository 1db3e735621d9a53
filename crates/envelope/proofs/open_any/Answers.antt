-- `envelope::open_any` meets its contract.
-- Assumes nothing.
use Rattle.std.specs.Prelude.{Some}
use mathlib.Core.Path.{◌≡◌, sym, ap, ◌∙◌}
use mathlib.Core.List.{List}
use Prim.Native.Nat.{ℕ}
use lib.Dec.{leb}
use Rattle.parts.specs.declared.Part.{Part}
use Rattle.envelope.specs.Envelope.{says, value_of, place_of, UNOB, version4}
use Rattle.envelope.specs.Laws.{place_absent, place_present}
use Rattle.envelope.specs.Ways.{uib_level, uib_version, uib_absent, uib_good}
use Rattle.envelope.proofs.open_any.Goals.{After-equals, After-equals-2, After-is_absent}
use Rattle.envelope.proofs.open_any.Goals as goal

-- what the two comparisons and the test of the place say of the segment
module _ (e : After-equals) where
  level : says (value_of e.args.segment.now 1 1) UNOB ≡ e.equals.result
  level = sym (e.equals.ensures ∙ ap (λ (x : List ℕ). says x UNOB) e.value.ensures)

module _ (f : After-equals-2) where
  version : says (value_of f.args.segment.now 1 2) version4 ≡ f.equals-2.result
  version = sym (f.equals-2.ensures ∙ ap (λ (x : List ℕ). says x version4) f.value-2.ensures)

module _ (d : After-is_absent) where
  abbrev segment : List ℕ
  segment = d.args.segment.now

  found : leb (place_of segment 2 1).to (place_of segment 2 1).from ≡ d.is_absent.result
  found = sym (d.is_absent.ensures ∙ ap (λ (x : Part). leb x.to x.from) d.place-dialogue.ensures)

pub returns-then-not-equals : goal.returns-then-not-equals
returns-then-not-equals c =
    let g = c.args.segment.now in
    uib_level g (level (goal.at.returns-then-not-equals c).After-equals ∙ c.if-not-equals.true)

pub returns-then-not-equals-2 : goal.returns-then-not-equals-2
returns-then-not-equals-2 c =
    let g = c.args.segment.now in
    uib_version g (level (goal.at.returns-then-not-equals-2 c).After-equals ∙ c.if-not-equals.false) (version (goal.at.returns-then-not-equals-2 c).After-equals-2 ∙ c.if-not-equals-2.true)

pub returns-then-is_absent : goal.returns-then-is_absent
returns-then-is_absent c =
    let g = c.args.segment.now in
    uib_absent g
    (level (goal.at.returns-then-is_absent c).After-equals ∙ c.if-not-equals.false)
    (version (goal.at.returns-then-is_absent c).After-equals-2 ∙ c.if-not-equals-2.false)
    (place_absent g 2 1 (found (goal.at.returns-then-is_absent c).After-is_absent ∙ c.if-is_absent.true))

pub returns : goal.returns
returns c =
    let g = c.args.segment.now in
    ap Some c.place-dialogue.ensures
    ∙ uib_good g
    (level (goal.at.returns c).After-equals ∙ c.if-not-equals.false)
    (version (goal.at.returns c).After-equals-2 ∙ c.if-not-equals-2.false)
    (place_present g 2 1 (found (goal.at.returns c).After-is_absent ∙ c.if-is_absent.false))
