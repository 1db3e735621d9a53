-- `envelope::read_any` meets its contract.
-- Assumes nothing.
use mathlib.Core.Path.{◌≡◌, sym, ap, ◌∙◌}
use mathlib.Core.Bool.{true}
use mathlib.Core.List.{List, [], ◌∷◌}
use Prim.Native.Nat.{ℕ}
use lib.Dec.{leb}
use Rattle.laws.specs.Choice.{all}
use Rattle.parts.specs.declared.Part.{Part}
use Rattle.parts.specs.Places.{present}
use Rattle.envelope.specs.Envelope.{says, place_of, typed, typed_12b, release_04a, release_12b, type_of, version_of, release_number_of, sub_function_of, agency_of, reference_of}
use Rattle.envelope.specs.Laws.{place_absent, place_present}
use Rattle.envelope.specs.Ways.{of_three, of_four, besides_release, uih_absent, uih_missing, uih_unknown, uih_typed, uih_typed_12b, uih_other}
use Rattle.envelope.proofs.read_any.Goals.{After-equals, After-is_absent, After-is_complete, After-is_directory}
use Rattle.envelope.proofs.read_any.Goals as goal

-- what the test of the reference's place says of the segment
module _ (d : After-is_absent) where
  found : leb (place_of d.args.segment.now 2 1).to (place_of d.args.segment.now 2 1).from ≡ d.is_absent.result
  found = sym (d.is_absent.ensures ∙ ap (λ (x : Part). leb x.to x.from) d.place-reference.ensures)

-- what the tests of S306 say of it
module _ (t : After-is_complete) where
  reference : present (reference_of t.args.segment.now) ≡ true
  reference = place_present t.args.segment.now 2 1 (sym (t.is_absent.ensures ∙ ap (λ (x : Part). leb x.to x.from) t.place-reference.ensures) ∙ t.if-is_absent.false)

  identifier : all present (type_of t.args.segment.now ∷ version_of t.args.segment.now ∷ release_number_of t.args.segment.now ∷ agency_of t.args.segment.now ∷ []) ≡ t.is_complete.result
  identifier =
      sym (t.is_complete.ensures ∙ of_four (λ a b d e. all present (a ∷ b ∷ d ∷ e ∷ [])) t.value_in-message_type.ensures t.value_in-version.ensures t.value_in-release.ensures t.value_in-agency.ensures)

module _ (t : After-is_directory) where
  codes : besides_release (version_of t.args.segment.now) (sub_function_of t.args.segment.now) (agency_of t.args.segment.now) ≡ t.is_directory.result
  codes =
      sym (t.is_directory.ensures ∙ of_three besides_release t.value_in-version.ensures t.value_in.ensures t.value_in-agency.ensures)

-- and those of the release
module _ (e : After-equals) where
  release_said : (text : List ℕ) → says e.value_in-release.result.now text ≡ says (release_number_of e.args.segment.now) text
  release_said text = ap (λ (x : List ℕ). says x text) e.value_in-release.ensures

  earlier : says (release_number_of e.args.segment.now) release_04a ≡ e.equals.result
  earlier = sym (e.equals.ensures ∙ release_said release_04a)

pub returns-then-is_absent : goal.returns-then-is_absent
returns-then-is_absent c =
    uih_absent c.args.segment.now (place_absent c.args.segment.now 2 1 (found (goal.at.returns-then-is_absent c).After-is_absent ∙ c.if-is_absent.true))

pub value_in-message_type-requires : goal.value_in-message_type-requires
value_in-message_type-requires c = c.occurrence-identifier.ensures

pub value_in-version-requires : goal.value_in-version-requires
value_in-version-requires c = c.occurrence-identifier.ensures

pub value_in-release-requires : goal.value_in-release-requires
value_in-release-requires c = c.occurrence-identifier.ensures

pub value_in-agency-requires : goal.value_in-agency-requires
value_in-agency-requires c = c.occurrence-identifier.ensures

pub returns-then-not-is_complete : goal.returns-then-not-is_complete
returns-then-not-is_complete c =
    uih_missing c.args.segment.now (reference (goal.at.returns-then-not-is_complete c).After-is_complete) (identifier (goal.at.returns-then-not-is_complete c).After-is_complete ∙ c.if-not-is_complete.true)

pub value_in-requires : goal.value_in-requires
value_in-requires c = c.occurrence-identifier.ensures

pub returns-then-not-is_directory : goal.returns-then-not-is_directory
returns-then-not-is_directory c =
    uih_unknown c.args.segment.now (reference (goal.at.returns-then-not-is_directory c).After-is_complete) (identifier (goal.at.returns-then-not-is_directory c).After-is_complete ∙ c.if-not-is_complete.false) (codes (goal.at.returns-then-not-is_directory c).After-is_directory ∙ c.if-not-is_directory.true)

pub returns-then-equals : goal.returns-then-equals
returns-then-equals c =
    c.message.ensures
    ∙ ap (λ (x : List ℕ). typed x c.place-reference.result) c.value_in-message_type.ensures
    ∙ ap (typed (type_of c.args.segment.now)) c.place-reference.ensures
    ∙ uih_typed c.args.segment.now (reference (goal.at.returns-then-equals c).After-is_complete) (identifier (goal.at.returns-then-equals c).After-is_complete ∙ c.if-not-is_complete.false) (codes (goal.at.returns-then-equals c).After-is_directory ∙ c.if-not-is_directory.false) (earlier (goal.at.returns-then-equals c).After-equals ∙ c.if-equals.true)

pub returns-then-equals-2 : goal.returns-then-equals-2
returns-then-equals-2 c =
    c.message_12b.ensures
    ∙ ap (λ (x : List ℕ). typed_12b x c.place-reference.result) c.value_in-message_type.ensures
    ∙ ap (typed_12b (type_of c.args.segment.now)) c.place-reference.ensures
    ∙ uih_typed_12b c.args.segment.now (reference (goal.at.returns-then-equals-2 c).After-is_complete) (identifier (goal.at.returns-then-equals-2 c).After-is_complete ∙ c.if-not-is_complete.false) (codes (goal.at.returns-then-equals-2 c).After-is_directory ∙ c.if-not-is_directory.false) (earlier (goal.at.returns-then-equals-2 c).After-equals ∙ c.if-equals.false) (sym (release_said (goal.at.returns-then-equals-2 c).After-equals release_12b) ∙ sym c.equals-2.ensures ∙ c.if-equals-2.true)

pub returns : goal.returns
returns c =
    uih_other c.args.segment.now (reference (goal.at.returns c).After-is_complete) (identifier (goal.at.returns c).After-is_complete ∙ c.if-not-is_complete.false) (codes (goal.at.returns c).After-is_directory ∙ c.if-not-is_directory.false) (earlier (goal.at.returns c).After-equals ∙ c.if-equals.false) (sym (release_said (goal.at.returns c).After-equals release_12b) ∙ sym c.equals-2.ensures ∙ c.if-equals-2.false)
