-- The references of UIB and UIH as the reading remembers them: a part of the text from the segment's start is the same part of the segment.
-- Assumes nothing.
use Rattle.std.specs.Prelude.{◌≡◌, List, ◌++◌, ℕ, ◌-◌, ◌≤◌, length, take, drop, Some, None}
use Rattle.std.proofs.Common.{ap, ◌∙◌, inl, inr, arith, length-drop}
use Rattle.std.proofs.lemmas.List.{take-append-le, drop-append-le}
use Rattle.laws.specs.Choice.{both, choose}
use Rattle.syntax.specs.Pieces.{part_of}
use Rattle.parts.specs.declared.Part.{Part}
use Rattle.parts.specs.Places.{bytes_of, present}
use Rattle.parts.specs.Located.{Inside, part_bytes, part_inside}
use Rattle.envelope.specs.Envelope.{says, value_of, place_of, UNOB, version4, uib_of}
use Rattle.steps.specs.Ways.{whole}
use Rattle.acceptance.specs.Interchange.{reference_in}

-- a part that ends within the segment
between_same : (g t : List ℕ) (a b : ℕ) → a ≤ b → b ≤ length g → take (b - a) (drop a (g ++ t)) ≡ take (b - a) (drop a g)
between_same g t a b h k =
    let d = length-drop a g in
    ap (take (b - a)) (drop-append-le a g t (omega arith)) ∙ take-append-le (b - a) (drop a g) t (omega arith)

inside_same : (g t : List ℕ) (p : Part) → Inside p (record { from = 0; to = length g }) → bytes_of (g ++ t) p ≡ bytes_of g p
unfolding Inside
inside_same g t p (inl e) =
    let a = ap (λ (x : Part). x.from) e in
    let b = ap (λ (x : Part). x.to) e in
    between_same g t p.from p.to (omega arith) (omega arith)
inside_same g t p (inr h) = between_same g t p.from p.to h.1 h.2

pub reference_read : (g t : List ℕ) → bytes_of (g ++ t) (place_of g 2 1) ≡ reference_in g
reference_read g t =
    inside_same g t (place_of g 2 1) (part_inside g (record { from = 0; to = length g }) (omega arith) 2 1 1)
    ∙ part_bytes g (record { from = 0; to = length g }) 2 1 1
    ∙ ap (λ (x : List ℕ). part_of x 2 1 1) (whole g)

-- the part that a good UIB names is that one; of a UIH the envelope has the law
wrong≢dialogue : (p : Part) → None ≡ Some p → ⊥
wrong≢dialogue p q = let z : ◌≡◌ {A = ℕ} 0 1 = cc in omega arith

dialogue_is : (p q : Part) → Some p ≡ Some q → q ≡ p
dialogue_is p q e = cc

pub dialogue_place_lem : (g : List ℕ) (p : Part) → uib_of g ≡ Some p → p ≡ place_of g 2 1
unfolding uib_of
dialogue_place_lem g p e =
    choose (both (says (value_of g 1 1) UNOB) (both (says (value_of g 1 2) version4) (present (value_of g 2 1))))
    (λ q. dialogue_is (place_of g 2 1) p (rw q at e))
    (λ q. absurd (wrong≢dialogue p (rw q at e)))
