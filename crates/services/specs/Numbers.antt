-- The number of a PRD that is written as most are: behind `PRD+`, with no release in it, it ends at the first mark.
-- Assumes nothing.
use Rattle.std.specs.Prelude.{ℕ, ◌+◌, ◌≤◌, ◌<◌, ◌≡◌, true, ◌⊎◌, eqb, leb, get_or, drop}
use Rattle.std.proofs.Math.Path.{refl, sym, ap}
use Rattle.std.proofs.Common.{◌∙◌, inl, inr, arith, ne_eqb, le-leb}
use Rattle.std.proofs.Math.Bool.{false}
use mathlib.Core.List.{List, [], ◌∷◌}
use Rattle.std.proofs.lemmas.Bool.{lt-leb}
use Rattle.std.proofs.Math.ListN.{length}
use Rattle.laws.specs.Choice.{choose}
use Rattle.laws.specs.Lists.{drop_here}
use Rattle.syntax.specs.Bytes.{release_mark, plain_on, plain}
use Rattle.syntax.specs.Few.{plain_length}
use Rattle.syntax.specs.Pieces.{first_piece, later_pieces, elements, nth}
use Rattle.parts.specs.declared.Part.{Part}
use Rattle.parts.specs.Places.{bytes_of, span_of, counted_at, element_at, segment_of}
use Rattle.parts.specs.Located.{span_bytes, element_bytes}
use Rattle.services.specs.Services.{service_number, number_fits}
use Rattle.parts.specs.Segments.{segment_bytes}

-- a digit, or a byte behind the service characters
abbrev pub Plain : ℕ → Type 0
Plain b = ((48 ≤ b) × (b ≤ 57)) ⊎ (63 < b)

-- a mark or the terminator
abbrev pub Closing : ℕ → Type 0
Closing b = (b ≡ 58) ⊎ ((b ≡ 43) ⊎ ((b ≡ 42) ⊎ (b ≡ 39)))

-- the number at the start of what stands behind `PRD+`
unfoldable pub number_text : List ℕ → List ℕ
number_text l = first_piece 58 false (first_piece 42 false (first_piece 43 false (first_piece 39 false l)))

abbrev pub number_end : List ℕ → ℕ → ℕ
number_end s from = from + length (number_text (drop from s))

-- a PRD with its mark stands at an offset
pub record Product (s : List ℕ) (at : ℕ) : Type 0 where
  pub fits : at + 4 ≤ length s
  pub begins : drop at s ≡ 80 ∷ 82 ∷ 68 ∷ 43 ∷ drop (at + 4) s

plain_other : (b c : ℕ) → Plain b → ((48 ≤ c → c ≤ 57 → ⊥) × (c ≤ 63)) → b ≡ c → ⊥
plain_other b c (inl h) n e = n.0 (omega arith) (omega arith)
plain_other b c (inr h) n e = let m = n.1 in omega arith

text_on : (b : ℕ) (l : List ℕ) → Plain b → number_text (b ∷ l) ≡ b ∷ number_text l
unfolding number_text first_piece
text_on b l p =
    simp (ne_eqb b 39 (plain_other b 39 p (λ x y. omega arith, omega arith)), ne_eqb b 63 (plain_other b 63 p (λ x y. omega arith, omega arith)), ne_eqb b 43 (plain_other b 43 p (λ x y. omega arith, omega arith)), ne_eqb b 42 (plain_other b 42 p (λ x y. omega arith, omega arith)), ne_eqb b 58 (plain_other b 58 p (λ x y. omega arith, omega arith)))

text_ends : (b : ℕ) (l : List ℕ) → Closing b → number_text (b ∷ l) ≡ []
unfolding number_text first_piece
text_ends b l (inl e) = rw e
text_ends b l (inr (inl e)) = rw e
text_ends b l (inr (inr (inl e))) = rw e
text_ends b l (inr (inr (inr e))) = rw e

-- one byte of a number at an index of the input
module _ (s : List ℕ) (i : ℕ) (h : i < length s) where
  pub number_on : Plain (get_or s i 0) → number_end s i ≡ number_end s (i + 1)
  number_on p =
      let e = ap length (ap number_text (drop_here s i h) ∙ text_on (get_or s i 0) (drop (i + 1) s) p) in
      omega arith

  pub number_stops : Closing (get_or s i 0) → number_end s i ≡ i
  number_stops p =
      let e = ap length (ap number_text (drop_here s i h) ∙ text_ends (get_or s i 0) (drop (i + 1) s) p) in
      omega arith

pub product_here : (s : List ℕ) (at : ℕ) → at + 4 ≤ length s → get_or s at 0 ≡ 80 → get_or s (at + 1) 0 ≡ 82 → get_or s (at + 2) 0 ≡ 68 → get_or s (at + 3) 0 ≡ 43 → Product s at
product_here s at h a b c d =
    let two : at + 1 + 1 ≡ at + 2 = omega arith in
    let three : at + 2 + 1 ≡ at + 3 = omega arith in
    let four : at + 3 + 1 ≡ at + 4 = omega arith in
    record {
      fits = h;
      begins =
          drop_here s at (omega arith)
          ∙ rw a (ap (λ (l : List ℕ). 80 ∷ l) (drop_here s (at + 1) (omega arith)
          ∙ rw (b, two) (ap (λ (l : List ℕ). 82 ∷ l) (drop_here s (at + 2) (omega arith)
          ∙ rw (c, three) (ap (λ (l : List ℕ). 68 ∷ l) (drop_here s (at + 3) (omega arith) ∙ rw (d, four)))))));
    }

-- after release a text has some bytes where it has two or more as it is written
plain_some : (l : List ℕ) → 2 ≤ length l → 1 ≤ length (plain l)
unfolding plain_on
plain_some [] h = absurd (omega arith)
plain_some (b ∷ []) h = absurd (omega arith)
plain_some (b ∷ c ∷ l) h = choose (eqb b release_mark) (λ p. rw p (omega arith)) (λ p. rw p (omega arith))

pub fits_short : (l : List ℕ) → 2 ≤ length l → length l ≤ 10 → true ≡ number_fits (length (plain l))
fits_short l h k =
    let a = plain_length false l in
    let b = plain_some l h in
    rw (le-leb 1 (length (plain l)) b, le-leb (length (plain l)) 10 (omega arith))

module _ (l : List ℕ) (n : ℕ) (a : n ≡ length (plain l)) where
  pub fits_none : n < 1 → false ≡ number_fits (length (plain l))
  fits_none h = rw (sym a, lt-leb 1 n h)

  pub fits_few : 1 ≤ n → leb n 10 ≡ number_fits (length (plain l))
  fits_few h = rw (sym a, le-leb 1 n h)

-- the first piece of a part whose bytes are known
module _ (s : List ℕ) (p : Part) (c : ℕ) (n : eqb c 63 ≡ false) (t : List ℕ) (e : bytes_of s p ≡ t) where
  first_place_lem : counted_at s p c 1 ≡ record { from = p.from; to = p.from + length (first_piece c false t) }
  unfolding counted_at span_of
  first_place_lem = rw e

  first_bytes : bytes_of s (counted_at s p c 1) ≡ first_piece c false t
  unfolding counted_at
  first_bytes = span_bytes c n s 0 p.from p.to ∙ ap (first_piece c false) e

module _ (s : List ℕ) (at : ℕ) (e : Product s at) where
  abbrev rest : List ℕ
  rest = first_piece 39 false (drop (at + 4) s)

  body_is : bytes_of s (segment_of s at) ≡ 80 ∷ 82 ∷ 68 ∷ 43 ∷ rest
  unfolding first_piece
  body_is = segment_bytes s at ∙ ap (first_piece 39 false) e.begins

  element_place : (element_at s (segment_of s at) 1).from ≡ at + 4
  unfolding element_at span_of first_piece later_pieces
  element_place = rw body_is (omega arith)

  element_text : bytes_of s (element_at s (segment_of s at) 1) ≡ first_piece 43 false rest
  unfolding later_pieces
  element_text = element_bytes s (segment_of s at) 1 ∙ ap (λ (x : List ℕ). nth (elements x) 1) body_is

  pub number_quick : (end : ℕ) → end ≡ number_end s (at + 4) → record { from = at + 4; to = end } ≡ service_number s at
  unfolding service_number number_text
  number_quick end q =
      let v = element_at s (segment_of s at) 1 in
      let o = counted_at s v 42 1 in
      let p = first_place_lem s v 42 refl (first_piece 43 false rest) element_text in
      let b = first_bytes s v 42 refl (first_piece 43 false rest) element_text in
      let f : o.from ≡ at + 4 = ap (λ (x : Part). x.from) p ∙ element_place in
      ap (λ (x : ℕ). record { from = at + 4; to = x }) q
      ∙ sym (first_place_lem s o 58 refl (first_piece 42 false (first_piece 43 false rest)) b ∙ ap (λ (x : ℕ). record { from = x; to = x + length (first_piece 58 false (first_piece 42 false (first_piece 43 false rest))) }) f)
