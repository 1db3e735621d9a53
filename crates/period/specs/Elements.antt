-- An element of a POP found once: where it stands, and where its first occurrence does. What is read there is read of the segment.
-- Assumes nothing.
use Rattle.std.specs.Prelude.{◌≡◌, Bool, true, false, not, List, ℕ, ltb, length}
use Rattle.std.proofs.Math.Path.{refl, sym}
use Rattle.std.proofs.Common.{ap, ◌∙◌}
use Rattle.laws.specs.Choice.{both}
use Rattle.laws.specs.Text.{bytes}
use Rattle.syntax.specs.Bytes.{plain}
use Rattle.syntax.specs.Pieces.{part_of}
use Rattle.parts.specs.declared.Part.{Part}
use Rattle.parts.specs.Places.{bytes_of, span_of, counted_at, element_at, occurrence_at, component_at, repeats}
use Rattle.parts.specs.Located.{part_bytes, repeats_at}
use Rattle.values.specs.Values.{same_text}
use Rattle.period.specs.declared.elements.Element.{Element}
use Rattle.period.specs.Period.{rest_good}

abbrev pub element_found : List ℕ → Part → ℕ → Element
element_found s segment e =
    record { whole = element_at s segment e; once = occurrence_at s (element_at s segment e) 1 }

-- component c of the first occurrence
abbrev pub text_in : List ℕ → Element → ℕ → List ℕ
text_in s x c = bytes_of s (component_at s x.once c)

-- the element goes on behind its first occurrence
abbrev pub again_in : List ℕ → Element → Bool
again_in s x = both (ltb x.once.to x.whole.to) (ltb x.once.to (length s))

-- the qualifier, and no repetition
abbrev pub rest_in : List ℕ → Element → Element → Bool
rest_in s x y = both (same_text (plain (text_in s x 1)) (bytes "273")) (both (not (again_in s x)) (not (again_in s y)))

module _ (s : List ℕ) (g : Part) where
  pub element_found_lem : (e : ℕ) {w o : Part} → w ≡ element_at s g e → o ≡ occurrence_at s w 1 → record { whole = w; once = o } ≡ element_found s g e
  element_found_lem e {w} {o} p q =
      ap (λ (x : Part). record { whole = w; once = x }) q
      ∙ ap (λ (x : Part). record { whole = x; once = occurrence_at s x 1 }) p

  pub text_in_lem : {x : Element} (e c : ℕ) → x ≡ element_found s g e → text_in s x c ≡ part_of (bytes_of s g) e 1 c
  text_in_lem e c p = ap (λ (x : Element). text_in s x c) p ∙ part_bytes s g e 1 c

  again_of : (e : ℕ) → again_in s (element_found s g e) ≡ repeats (bytes_of s g) e
  unfolding counted_at span_of
  again_of e = sym (repeats_at s g (element_at s g e) e (occurrence_at s (element_at s g e) 1).to refl refl)

  pub again_in_lem : {x : Element} (e : ℕ) → x ≡ element_found s g e → again_in s x ≡ repeats (bytes_of s g) e
  again_in_lem e p = ap (again_in s) p ∙ again_of e

  pub rest_in_lem : {x y : Element} → x ≡ element_found s g 1 → y ≡ element_found s g 2 → rest_in s x y ≡ rest_good (bytes_of s g)
  unfolding rest_good
  rest_in_lem {x} {y} p q = rw (text_in_lem 1 1 p, again_in_lem 1 p, again_in_lem 2 q)

-- the tests in the order of the code
module _ (s : List ℕ) (x y : Element) where
  pub other_qualifier : same_text (plain (text_in s x 1)) (bytes "273") ≡ false → false ≡ rest_in s x y
  other_qualifier p = rw p

  module _ (p : same_text (plain (text_in s x 1)) (bytes "273") ≡ true) where
    pub first_repeated : again_in s x ≡ true → false ≡ rest_in s x y
    first_repeated q = rw (p, q)

    pub second_repeated : again_in s x ≡ false → not (again_in s y) ≡ rest_in s x y
    second_repeated q = rw (p, q)
