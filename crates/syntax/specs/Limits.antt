-- Whether what is left of a segment stays within the limits, given what stood before it, and how that goes on byte by byte.
-- Assumes nothing.
use Rattle.std.specs.Prelude.{◌≡◌, Bool, true, List, [], ◌∷◌, leb, eqb}
use Rattle.std.proofs.Common.{zero-add, add-zero, le-leb}
use Rattle.std.proofs.Math.Bool.{false}
use Prim.Native.Nat.{ℕ, suc, ◌+◌, ◌≤◌, ◌<◌}
use native.Mathlib.Omega.{arith}
use Rattle.std.proofs.Math.Dec.{leb-suc-suc}
use Rattle.std.proofs.lemmas.Bool.{lt-leb}
use Rattle.std.proofs.Math.ListN.{length}
use Rattle.laws.specs.Choice.{both, all, both_false}
use Rattle.syntax.specs.Bytes.{component_mark, element_mark, repetition_mark, plain_on}
use Rattle.syntax.specs.Pieces.{first_piece, later_pieces}
use Rattle.syntax.specs.Segment.{component_fits, occurrence_fits, element_fits}

-- y goes on an occurrence that has c `:` and whose last component has n characters
unfoldable pub occurrence_left : ℕ → ℕ → Bool → List ℕ → Bool
occurrence_left c n r y =
    both (leb (c + length (later_pieces component_mark r y)) 31)
    (both (leb (n + length (plain_on r (first_piece component_mark r y))) 512) (all component_fits (later_pieces component_mark r y)))

-- x goes on an element that has o `*`
unfoldable pub element_left : ℕ → ℕ → ℕ → Bool → List ℕ → Bool
element_left o c n r x =
    both (leb (o + length (later_pieces repetition_mark r x)) 98)
    (both (occurrence_left c n r (first_piece repetition_mark r x)) (all occurrence_fits (later_pieces repetition_mark r x)))

-- g goes on a segment that has e `+`
unfoldable pub segment_left : ℕ → ℕ → ℕ → ℕ → Bool → List ℕ → Bool
segment_left e o c n r g =
    both (leb (e + length (later_pieces element_mark r g)) 64)
    (both (element_left o c n r (first_piece element_mark r g)) (all element_fits (later_pieces element_mark r g)))

-- a part that has just begun
pub occurrence_begun : (y : List ℕ) → occurrence_fits y ≡ occurrence_left 0 0 false y
unfolding occurrence_fits occurrence_left component_fits
occurrence_begun y = simp zero-add (rw leb-suc-suc)

pub element_begun : (x : List ℕ) → element_fits x ≡ element_left 0 0 0 false x
unfolding element_fits element_left
element_begun x = simp (zero-add, occurrence_begun) (rw leb-suc-suc)

-- an end within the limits
occurrence_ends : (c n : ℕ) → c ≤ 31 → n ≤ 512 → occurrence_left c n false [] ≡ true
unfolding occurrence_left first_piece later_pieces plain_on
occurrence_ends c n k h = simp (add-zero, le-leb c 31 k, le-leb n 512 h)

element_ends : (o c n : ℕ) → o ≤ 98 → c ≤ 31 → n ≤ 512 → element_left o c n false [] ≡ true
unfolding element_left first_piece later_pieces
element_ends o c n j k h = simp (add-zero, le-leb o 98 j, occurrence_ends c n k h)

-- a byte that is no service character is one character more
module _ (b : ℕ) (h₁ : eqb b 43 ≡ false) (h₂ : eqb b 42 ≡ false) (h₃ : eqb b 58 ≡ false) (h₄ : eqb b 63 ≡ false) where
  pub left_text : (e o c n : ℕ) (g : List ℕ) → segment_left e o c n false (b ∷ g) ≡ segment_left e o c (n + 1) false g
  unfolding segment_left element_left occurrence_left first_piece later_pieces plain_on
  left_text e o c n g =
      let m = length (plain_on false (first_piece 58 false (first_piece 42 false (first_piece 43 false g)))) in
      let q : n + suc m ≡ n + 1 + m = omega arith in
      simp (h₁, h₂, h₃, h₄, q)

pub left_released : (b e o c n : ℕ) (g : List ℕ) → segment_left e o c n false (63 ∷ b ∷ g) ≡ segment_left e o c (n + 1) false g
unfolding segment_left element_left occurrence_left first_piece later_pieces plain_on
left_released b e o c n g =
    let m = length (plain_on false (first_piece 58 false (first_piece 42 false (first_piece 43 false g)))) in
    let q : n + suc m ≡ n + 1 + m = omega arith in
    simp q

pub left_component : (e o c n : ℕ) (g : List ℕ) → n ≤ 512 → segment_left e o c n false (58 ∷ g) ≡ segment_left e o (c + 1) 0 false g
unfolding segment_left element_left occurrence_left first_piece later_pieces plain_on component_fits
left_component e o c n g h =
    let m = length (later_pieces 58 false (first_piece 42 false (first_piece 43 false g))) in
    let q : c + suc m ≡ c + 1 + m = omega arith in
    simp (q, add-zero, zero-add, le-leb n 512 h)

pub left_occurrence : (e o c n : ℕ) (g : List ℕ) → c ≤ 31 → n ≤ 512 → segment_left e o c n false (42 ∷ g) ≡ segment_left e (o + 1) 0 0 false g
unfolding segment_left element_left first_piece later_pieces plain_on
left_occurrence e o c n g k h =
    let m = length (later_pieces 42 false (first_piece 43 false g)) in
    let q : o + suc m ≡ o + 1 + m = omega arith in
    simp (q, occurrence_begun, occurrence_ends c n k h)

pub left_element : (e o c n : ℕ) (g : List ℕ) → o ≤ 98 → c ≤ 31 → n ≤ 512 → segment_left e o c n false (43 ∷ g) ≡ segment_left (e + 1) 0 0 0 false g
unfolding segment_left first_piece later_pieces
left_element e o c n g j k h =
    let m = length (later_pieces 43 false g) in
    let q : e + suc m ≡ e + 1 + m = omega arith in
    simp (q, element_begun, element_ends o c n j k h)

pub left_ends : (e o c n : ℕ) → e ≤ 64 → o ≤ 98 → c ≤ 31 → n ≤ 512 → segment_left e o c n false [] ≡ true
unfolding segment_left first_piece later_pieces
left_ends e o c n i j k h = simp (add-zero, le-leb e 64 i, element_ends o c n j k h)

-- a limit that is passed stays so
pub over_elements : (e o c n : ℕ) (r : Bool) (g : List ℕ) → 64 < e → segment_left e o c n r g ≡ false
unfolding segment_left
over_elements e o c n r g h =
    let m = length (later_pieces 43 r g) in
    rw (lt-leb (e + m) 64 (omega arith))

pub over_occurrences : (e o c n : ℕ) (r : Bool) (g : List ℕ) → 98 < o → segment_left e o c n r g ≡ false
unfolding segment_left element_left
over_occurrences e o c n r g h =
    let m = length (later_pieces 42 r (first_piece 43 r g)) in
    simp (lt-leb (o + m) 98 (omega arith), both_false)

pub over_components : (e o c n : ℕ) (r : Bool) (g : List ℕ) → 31 < c → segment_left e o c n r g ≡ false
unfolding segment_left element_left occurrence_left
over_components e o c n r g h =
    let m = length (later_pieces 58 r (first_piece 42 r (first_piece 43 r g))) in
    simp (lt-leb (c + m) 31 (omega arith), both_false)

pub over_characters : (e o c n : ℕ) (r : Bool) (g : List ℕ) → 512 < n → segment_left e o c n r g ≡ false
unfolding segment_left element_left occurrence_left
over_characters e o c n r g h =
    let m = length (plain_on r (first_piece 58 r (first_piece 42 r (first_piece 43 r g)))) in
    simp (lt-leb (n + m) 512 (omega arith), both_false)
