-- `envelope::check_trailer` meets its contract.
-- Assumes nothing.
use mathlib.Core.Path.{◌≡◌, sym, ap, ◌∙◌}
use mathlib.Core.Bool.{true, false}
use mathlib.Core.List.{List}
use Prim.Native.Nat.{ℕ, ◌<◌}
use borrow.Author.Tests.{leb-false}
use lib.Dec.{leb}
use Rattle.syntax.specs.Bytes.{plain}
use Rattle.parts.specs.declared.Part.{Part}
use Rattle.parts.specs.Places.{bytes_of, present}
use Rattle.laws.specs.Decimal.{decimal_of}
use Rattle.envelope.specs.Envelope.{says, value_of, place_of, trailer_of}
use Rattle.envelope.specs.Laws.{value_at, place_absent, place_present}
use Rattle.envelope.specs.Written.{second_place}
use Rattle.envelope.proofs.check_trailer.Goals.{After-is_absent, After-is_present, After-says_same}
use Rattle.envelope.proofs.check_trailer.Goals as goal

-- what each test says of the segment
module _ (d : After-is_absent) where
  found : leb (place_of d.args.segment.now 1 1).to (place_of d.args.segment.now 1 1).from ≡ d.is_absent.result
  found = sym (d.is_absent.ensures ∙ ap (λ (x : Part). leb x.to x.from) d.repeated_at-first.ensures)

  given : d.is_absent.result ≡ false → present (value_of d.args.segment.now 1 1) ≡ true
  given stands = place_present d.args.segment.now 1 1 (found ∙ stands)

module _ (m : After-says_same) where
  repeated : says (value_of m.args.segment.now 1 1) (plain m.args.reference.now) ≡ m.says_same.result
  repeated =
      sym (m.says_same.ensures ∙ ap (λ (x : List ℕ). says x (plain m.args.reference.now)) (m.bytes_of.ensures ∙ ap (bytes_of m.args.segment.now) m.repeated_at-first.ensures ∙ value_at m.args.segment.now 1 1))

module _ (p : After-is_present) where
  some : p.repeated_at-first.result.from < p.repeated_at-first.result.to
  some = leb-false p.repeated_at-first.result.to p.repeated_at-first.result.from (sym p.is_absent.ensures ∙ p.if-is_absent.false)

  second : bytes_of p.args.segment.now p.behind.result ≡ value_of p.args.segment.now 2 1
  second =
      ap (bytes_of p.args.segment.now) (second_place p.args.segment.now p.repeated_at-first.ensures some p.behind.ensures)
      ∙ value_at p.args.segment.now 2 1

  counted : present (value_of p.args.segment.now 2 1) ≡ p.is_present.result
  counted = sym (p.is_present.ensures ∙ ap present (p.bytes_of-counted.ensures ∙ second))

pub returns-then-is_absent : goal.returns-then-is_absent
unfolding trailer_of
returns-then-is_absent c = rw (place_absent c.args.segment.now 1 1 (found (goal.at.returns-then-is_absent c).After-is_absent ∙ c.if-is_absent.true))

pub returns-then-not-says_same : goal.returns-then-not-says_same
unfolding trailer_of
returns-then-not-says_same c =
    rw (given (goal.at.returns-then-not-says_same c).After-is_absent c.if-is_absent.false, repeated (goal.at.returns-then-not-says_same c).After-says_same ∙ c.if-not-says_same.true)

pub returns-then-not-is_present : goal.returns-then-not-is_present
unfolding trailer_of
returns-then-not-is_present c =
    rw (given (goal.at.returns-then-not-is_present c).After-is_absent c.if-is_absent.false, repeated (goal.at.returns-then-not-is_present c).After-says_same ∙ c.if-not-says_same.false, counted (goal.at.returns-then-not-is_present c).After-is_present ∙ c.if-not-is_present.true)

pub returns : goal.returns
unfolding trailer_of
returns c =
    rw (given (goal.at.returns c).After-is_absent c.if-is_absent.false, repeated (goal.at.returns c).After-says_same ∙ c.if-not-says_same.false, counted (goal.at.returns c).After-is_present ∙ c.if-not-is_present.false)
    (c.is_decimal.ensures ∙ ap (λ (x : List ℕ). says x (decimal_of c.args.count)) (c.bytes_of-counted.ensures ∙ second (goal.at.returns c).After-is_present))
