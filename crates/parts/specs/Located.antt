-- A part found in the input is the part of the segment.
-- Assumes nothing.
use Rattle.std.specs.Prelude.{◌≡◌, List, [], ◌⊎◌, eqb, ltb, length, get_or, take, drop}
use Rattle.std.proofs.Math.Path.{refl}
use Rattle.std.proofs.Common.{sym, ap, ◌∙◌, take-take}
use Rattle.std.proofs.Math.Bool.{false}
use Rattle.std.proofs.Math.Logic.{inl, inr, ⊎_elim}
use Prim.Native.Nat.{ℕ, zero, suc, ◌+◌, ◌-◌, ◌≤◌, ◌<◌}
use native.Mathlib.Omega.{arith}
use Rattle.laws.specs.Choice.{both}
use Rattle.laws.specs.Lists.{between, between_none}
use Rattle.parts.specs.declared.Part.{Part}
use Rattle.syntax.specs.Firsts.{first_take, first_length}
use Rattle.syntax.specs.Pieces.{first_piece, pieces, nth, elements, occurrences, components, part_of}
use Rattle.parts.specs.Places.{absent, bytes_of, span_of, piece_at, counted_at, element_at, occurrence_at, part_at, repeats}
use Rattle.parts.specs.Cuts.{length_part, cut_end, later_cases, several}

-- a part lies inside another, or is absent
unfoldable pub Inside : Part → Part → Type 0
Inside p q = (p ≡ absent) ⊎ ((q.from ≤ p.from) × (p.from ≤ p.to) × (p.to ≤ q.to))

-- the bytes up to where the first piece ends
pub cut_bytes : (s : List ℕ) (a b c : ℕ) → between s a (cut_end s a b c) ≡ first_piece c false (between s a b)
cut_bytes s a b c =
    let m = length (first_piece c false (between s a b)) in
    let l = length_part s a b in
    let f = first_length c false (between s a b) in
    let e : a + m - a ≡ m = omega arith in
    ap (λ (x : ℕ). take x (drop a s)) e ∙ sym (take-take m (b - a) (drop a s) (omega arith)) ∙ sym (first_take c false (between s a b))

module _ (c : ℕ) (n : eqb c 63 ≡ false) (s : List ℕ) where
  pub span_bytes : (k a b : ℕ) → bytes_of s (span_of a (pieces c (between s a b)) k) ≡ get_or (pieces c (between s a b)) k []
  unfolding span_of
  span_bytes zero a b = cut_bytes s a b c
  span_bytes (suc k) a b =
      ⊎_elim (λ w. rw w.0 (span_bytes k (cut_end s a b c + 1) b)) (λ w. rw w) (later_cases s a b c n)

  pub span_inside : (k a b : ℕ) → a ≤ b → Inside (span_of a (pieces c (between s a b)) k) (record { from = a; to = b })
  unfolding span_of Inside
  span_inside zero a b h =
      let l = length_part s a b in
      let f = first_length c false (between s a b) in
      inr (omega arith, omega arith, omega arith)
  span_inside (suc k) a b h =
      ⊎_elim
      (λ w. rw w.0 (⊎_elim (λ e. inl e) (λ i. inr (omega arith, i.1, i.2)) (span_inside k (cut_end s a b c + 1) b (omega arith))))
      (λ w. inl (rw w))
      (later_cases s a b c n)

-- element, occurrence and component
module _ (s : List ℕ) (p : Part) where
  pub element_bytes : (e : ℕ) → bytes_of s (element_at s p e) ≡ nth (elements (bytes_of s p)) e
  unfolding element_at
  element_bytes zero = refl
  element_bytes (suc e) = span_bytes 43 refl s (suc e) p.from p.to

  counted_bytes : (c : ℕ) → eqb c 63 ≡ false → (n : ℕ) → bytes_of s (counted_at s p c n) ≡ nth (pieces c (bytes_of s p)) n
  unfolding counted_at
  counted_bytes c m zero = refl
  counted_bytes c m (suc n) = span_bytes c m s n p.from p.to

-- the bytes of the part found are the part's
pub part_bytes : (s : List ℕ) (segment : Part) (e o c : ℕ) → bytes_of s (part_at s segment e o c) ≡ part_of (bytes_of s segment) e o c
unfolding part_of
part_bytes s g e o c =
    counted_bytes s (occurrence_at s (element_at s g e) o) 58 refl c
    ∙ ap (λ (x : List ℕ). nth (components x) c) (counted_bytes s (element_at s g e) 42 refl o ∙ ap (λ (x : List ℕ). nth (occurrences x) o) (element_bytes s g e))

empty_part : (p : Part) → p.from ≡ 0 → p.to ≡ 0 → p ≡ absent
empty_part p a b = ap (λ (x : ℕ). record { from = x; to = p.to }) a ∙ ap (λ (y : ℕ). record { from = 0; to = y }) b

-- "The parts of a segment lie inside it": what lies inside a part of a part lies inside the part
inside_again : (p q r : Part) → Inside p q → Inside q r → Inside p r
unfolding Inside
inside_again p q r (inl e) h = inl e
inside_again p q r (inr g) (inr h) = inr (omega arith, g.1, omega arith)
inside_again p q r (inr g) (inl e) =
    let f = ap (λ (x : Part). x.from) e in
    let t = ap (λ (x : Part). x.to) e in
    let a : p.from ≡ 0 = omega arith in
    let b : p.to ≡ 0 = omega arith in
    inl (empty_part p a b)

inside_span : (s : List ℕ) (q : Part) (c k : ℕ) → eqb c 63 ≡ false → q.from ≤ q.to → Inside (piece_at s q c k) q
inside_span s q c k n h = span_inside c n s k q.from q.to h

inside_order : (p q : Part) → Inside p q → p.from ≤ p.to
unfolding Inside
inside_order p q (inl e) =
    let f = ap (λ (x : Part). x.from) e in
    let t = ap (λ (x : Part). x.to) e in
    omega arith
inside_order p q (inr g) = g.1

module _ (s : List ℕ) (q : Part) (h : q.from ≤ q.to) where
  element_inside : (e : ℕ) → Inside (element_at s q e) q
  unfolding element_at Inside
  element_inside zero = inl refl
  element_inside (suc e) = inside_span s q 43 (suc e) refl h

  counted_inside : (c : ℕ) → eqb c 63 ≡ false → (n : ℕ) → Inside (counted_at s q c n) q
  unfolding counted_at Inside
  counted_inside c m zero = inl refl
  counted_inside c m (suc n) = inside_span s q c n m h

pub part_inside : (s : List ℕ) (q : Part) → q.from ≤ q.to → (e o c : ℕ) → Inside (part_at s q e o c) q
part_inside s q h e o c =
    let a = element_inside s q h e in
    let b = counted_inside s (element_at s q e) (inside_order (element_at s q e) q a) 42 refl o in
    let d = counted_inside s (occurrence_at s (element_at s q e) o) (inside_order (occurrence_at s (element_at s q e) o) (element_at s q e) b) 58 refl c in
    inside_again (part_at s q e o c) (element_at s q e) q
    (inside_again (part_at s q e o c) (occurrence_at s (element_at s q e) o) (element_at s q e) d b)
    a

-- what the code finds by cases on the number
pub element_none : (s : List ℕ) (p : Part) (e : ℕ) → e ≡ 0 → absent ≡ element_at s p e
unfolding element_at
element_none s p zero q = refl
element_none s p (suc e) q = absurd (omega arith)

pub element_some : (s : List ℕ) (p : Part) (e : ℕ) → (e ≡ 0 → ⊥) → piece_at s p 43 e ≡ element_at s p e
unfolding element_at
element_some s p zero q = absurd (q refl)
element_some s p (suc e) q = refl

pub counted_none : (s : List ℕ) (p : Part) (c n : ℕ) → n ≡ 0 → absent ≡ counted_at s p c n
unfolding counted_at
counted_none s p c zero q = refl
counted_none s p c (suc n) q = absurd (omega arith)

pub counted_some : (s : List ℕ) (p : Part) (c n : ℕ) → (n ≡ 0 → ⊥) → piece_at s p c (n - 1) ≡ counted_at s p c n
unfolding counted_at
counted_some s p c zero q = absurd (q refl)
counted_some s p c (suc n) q =
    let e : suc n - 1 ≡ n = omega arith in
    rw e

-- a part that ends inside the slice is absent exactly when it has no bytes
pub absent_bytes : (s : List ℕ) (p : Part) → p.to ≤ p.from → bytes_of s p ≡ []
absent_bytes s p h = between_none s p.from p.to h

pub bytes_present : (s : List ℕ) (p : Part) → p.from < p.to → p.to ≤ length s → 0 < length (bytes_of s p)
bytes_present s p h g =
    let l = length_part s p.from p.to in
    omega arith

-- an element is repeated where its first occurrence ends before it
pub repeats_at : (s : List ℕ) (g p : Part) (e end : ℕ) → p ≡ element_at s g e → end ≡ cut_end s p.from p.to 42
    → repeats (bytes_of s g) e ≡ both (ltb end p.to) (ltb end (length s))
repeats_at s g p e end q r =
    ap (λ (x : List ℕ). ltb 1 (length (occurrences x))) (sym (element_bytes s g e) ∙ ap (bytes_of s) (sym q))
    ∙ several s p.from p.to 42 refl
    ∙ rw r
