-- The first component of the first occurrence of an element ends at the first byte that stands as a mark of any kind.
-- Assumes nothing.
use Rattle.std.specs.Prelude.{◌≡◌, refl, Bool, false, List, ℕ, zero, suc, ◌+◌, ◌≤◌, ◌<◌, min, ltb, leb, length, get_or}
use Rattle.std.proofs.Math.Path.{sym, ap}
use Rattle.std.proofs.Common.{◌∙◌, arith}
use Rattle.laws.specs.Choice.{both, false≢true}
use Rattle.laws.specs.Lists.{between}
use Rattle.syntax.specs.Bytes.{component_mark, element_mark, repetition_mark}
use Rattle.syntax.specs.Firsts.{first_length}
use Rattle.syntax.specs.Pieces.{first_piece}
use Rattle.parts.specs.declared.Part.{Part}
use Rattle.parts.specs.Places.{absent, span_of, piece_at, counted_at, element_at, occurrence_at, component_at, part_at}
use Rattle.parts.specs.Cuts.{length_part, cut_end, first_of, piece_goes}
use Rattle.parts.specs.Located.{element_some}
use Rattle.parts.specs.Walked.{cut_least, cut_none, cut_here, cut_on}

-- where it ends: the element's end first, in it the occurrence's, in that the component's
unfoldable pub component_end : List ℕ → ℕ → ℕ → ℕ
component_end s a b = cut_end s a (cut_end s a (cut_end s a b element_mark) repetition_mark) component_mark

-- where it stands, the element starting at an index
abbrev pub component_from : List ℕ → ℕ → ℕ → Part
component_from s a b = record { from = a; to = component_end s a b }

pub by_each : (s : List ℕ) (a b : ℕ) {e o : ℕ} → e ≡ cut_end s a b element_mark → o ≡ cut_end s a e repetition_mark → cut_end s a o component_mark ≡ component_end s a b
unfolding component_end
by_each s a b p q =
    ap (λ (x : ℕ). cut_end s a x component_mark) (q ∙ ap (λ (x : ℕ). cut_end s a x repetition_mark) p)

-- an end past the list's is its end
pub component_least : (s : List ℕ) (a b : ℕ) → component_end s a (min (length s) b) ≡ component_end s a b
unfolding component_end
component_least s a b =
    ap (λ (x : ℕ). cut_end s a (cut_end s a x repetition_mark) component_mark) (cut_least s a b element_mark)

-- it is the part that is asked for
pub component_absent : (s : List ℕ) (g : Part) (e : ℕ) → e ≡ 0 → absent ≡ part_at s g e 1 1
unfolding element_at counted_at span_of first_piece
component_absent s g zero q = refl
component_absent s g (suc e) q = absurd (omega arith)

pub component_first : (s : List ℕ) (g r : Part) (e : ℕ) → (e ≡ 0 → ⊥) → first_of s r element_mark ≡ piece_at s g element_mark e
    → component_from s r.from r.to ≡ part_at s g e 1 1
unfolding counted_at span_of component_end
component_first s g r e n q =
    ap (λ (x : Part). component_at s (occurrence_at s x 1) 1) (q ∙ element_some s g e n)

-- ---- the steps of a walk

-- the bytes from `;` to `?`, behind which each mark is looked for in turn
abbrev pub near_release : ℕ → Bool
near_release b = both (ltb 58 b) (leb b 63)

pub no_release : (b : ℕ) → near_release b ≡ false → b ≡ 63 → ⊥
no_release b f q = false≢true (sym f ∙ ap near_release q)

cut_inside : (s : List ℕ) (i b c : ℕ) → i ≤ b → cut_end s i b c ≤ b
cut_inside s i b c h =
    let l = length_part s i b in
    let f = first_length c false (between s i b) in
    omega arith

cut_empty : (s : List ℕ) (i c : ℕ) → cut_end s i i c ≡ i
cut_empty s i c = sym (cut_none s i i c (omega arith))

-- where the element or the occurrence ends, so does what is in it
module _ (s : List ℕ) (i b : ℕ) where
  with_occurrence : i ≡ cut_end s i (cut_end s i b element_mark) repetition_mark → i ≡ component_end s i b
  unfolding component_end
  with_occurrence q = sym (ap (λ (x : ℕ). cut_end s i x component_mark) (sym q) ∙ cut_empty s i component_mark)

  with_element : i ≡ cut_end s i b element_mark → i ≡ component_end s i b
  with_element q =
      with_occurrence (sym (ap (λ (x : ℕ). cut_end s i x repetition_mark) (sym q) ∙ cut_empty s i repetition_mark))

  pub component_none : b ≤ i → i ≡ component_end s i b
  component_none h = with_element (cut_none s i b element_mark h)

cut_past : (s : List ℕ) (i b c : ℕ) → i < b → b ≤ length s → (get_or s i 0 ≡ c → ⊥) → i < cut_end s i b c
cut_past s i b c h g n = let e = piece_goes s i b c h (omega arith) n in omega arith

module _ (s : List ℕ) (i b : ℕ) (h : i < b) (g : b ≤ length s) where
  pub at_element : get_or s i 0 ≡ element_mark → i ≡ component_end s i b
  at_element q = with_element s i b (cut_here s i b element_mark h g q)

  module _ (n : get_or s i 0 ≡ element_mark → ⊥) where
    abbrev element : ℕ
    element = cut_end s i b element_mark

    in_element : (i < element) × (element ≤ length s)
    in_element =
        let f = cut_inside s i b element_mark (omega arith) in
        (cut_past s i b element_mark h g n, omega arith)

    pub at_repetition : get_or s i 0 ≡ repetition_mark → i ≡ component_end s i b
    at_repetition q = with_occurrence s i b (cut_here s i element repetition_mark in_element.0 in_element.1 q)

    module _ (m : get_or s i 0 ≡ repetition_mark → ⊥) where
      abbrev occurrence : ℕ
      occurrence = cut_end s i element repetition_mark

      in_occurrence : (i < occurrence) × (occurrence ≤ length s)
      in_occurrence =
          let a = in_element.0 in
          let f = cut_inside s i element repetition_mark (omega arith) in
          let l = in_element.1 in
          (cut_past s i element repetition_mark a l m, omega arith)

      pub at_component : get_or s i 0 ≡ component_mark → i ≡ component_end s i b
      unfolding component_end
      at_component q = cut_here s i occurrence component_mark in_occurrence.0 in_occurrence.1 q

      pub component_on : (get_or s i 0 ≡ component_mark → ⊥) → (get_or s i 0 ≡ 63 → ⊥) → component_end s (i + 1) b ≡ component_end s i b
      unfolding component_end
      component_on k q =
          ap (λ (x : ℕ). cut_end s (i + 1) (cut_end s (i + 1) x repetition_mark) component_mark) (cut_on s i b element_mark h g n q)
          ∙ ap (λ (x : ℕ). cut_end s (i + 1) x component_mark) (cut_on s i element repetition_mark in_element.0 in_element.1 m q)
          ∙ cut_on s i occurrence component_mark in_occurrence.0 in_occurrence.1 k q
