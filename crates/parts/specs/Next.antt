-- An element is found from the `+` before it, or from where the first component of the element before it ends.
-- Assumes nothing.
use Rattle.std.specs.Prelude.{◌≡◌, Bool, true, ◌⊎◌, ℕ, ◌+◌, ◌≤◌, ◌<◌, eqb, get_or, drop}
use Rattle.std.proofs.Math.Path.{refl, sym, ap}
use Rattle.std.proofs.Common.{◌∙◌, inl, inr, arith}
use Rattle.std.proofs.Math.Bool.{false}
use mathlib.Core.List.{List, [], ◌∷◌}
use Rattle.std.proofs.Math.Decide.{dec_lt}
use Rattle.std.proofs.Math.ListN.{length}
use Rattle.laws.specs.Choice.{choose}
use Rattle.laws.specs.Lists.{between}
use Rattle.syntax.specs.Pieces.{first_piece, pieces}
use Rattle.parts.specs.declared.Part.{Part}
use Rattle.parts.specs.Places.{absent, span_of, piece_at, counted_at, element_at, occurrence_at, component_at, part_at}
use Rattle.parts.specs.Cuts.{drop_between, cut_end, first_of, span_step, span_stop, span_last}
use Rattle.parts.specs.Located.{cut_bytes}
use Rattle.parts.specs.Walked.{cut_here}
use Rattle.parts.specs.Component.{component_end, component_from, component_first}

-- ---- the element goes on from where its first component ends: nothing is released there

abbrev one_part : Bool → List ℕ → List ℕ
one_part r l = first_piece 58 r (first_piece 42 r (first_piece 43 r l))

part_within : (r : Bool) (l : List ℕ) → length (first_piece 43 r l) ≡ length (one_part r l) + length (first_piece 43 false (drop (length (one_part r l)) l))
unfolding first_piece
part_within r [] = refl
part_within true (b ∷ l) = let h = part_within false l in omega arith
part_within false (b ∷ l) =
    choose (eqb b 43) (λ p. rw p (rw p))
    (λ p.
    choose (eqb b 42) (λ q. rw (p, q) (rw p (omega arith)))
    (λ q.
    choose (eqb b 58) (λ t. rw (p, q, t) (rw p (omega arith))) (λ t. let h = part_within (eqb b 63) l in rw (p, q, t) (omega arith))))

module _ (s : List ℕ) (a b : ℕ) where
  component_length : component_end s a b ≡ a + length (one_part false (between s a b))
  unfolding component_end
  component_length =
      ap (λ (l : List ℕ). a + length (first_piece 58 false l))
      (cut_bytes s a (cut_end s a b 43) 42 ∙ ap (first_piece 42 false) (cut_bytes s a b 43))

  goes_on : cut_end s (component_end s a b) b 43 ≡ cut_end s a b 43
  goes_on =
      let n = length (one_part false (between s a b)) in
      let h = part_within false (between s a b) in
      let d = ap (λ (l : List ℕ). length (first_piece 43 false l)) (drop_between s a b n) in
      let e : cut_end s (a + n) b 43 ≡ cut_end s a b 43 = omega arith in
      ap (λ (x : ℕ). cut_end s x b 43) component_length ∙ e

-- ---- the next element

ended : (s : List ℕ) (a m b e : ℕ) → cut_end s m b 43 ≡ e → e ≡ cut_end s a b 43 → (b ≤ e) ⊎ (length s ≤ e) → span_of m (pieces 43 (between s m b)) 1 ≡ span_of a (pieces 43 (between s a b)) 1
ended s a m b e q r h =
    span_stop s m b 43 refl 1 e (sym q) (omega arith) h ∙ sym (span_stop s a b 43 refl 1 e r (omega arith) h)

-- from two indexes of one element on the next is the same
same_next : (s : List ℕ) (a m b : ℕ) → cut_end s m b 43 ≡ cut_end s a b 43 → span_of m (pieces 43 (between s m b)) 1 ≡ span_of a (pieces 43 (between s a b)) 1
same_next s a m b q =
    let e = cut_end s a b 43 in
    elim (dec_lt e b) [
      | yes h ↦ elim (dec_lt e (length s)) [
        | yes g ↦ span_step s m b 43 refl 1 e (sym q) (omega arith) h g ∙ sym (span_step s a b 43 refl 1 e refl (omega arith) h g)
        | no g ↦ ended s a m b e q refl (inr (omega arith))
      ]
      | no h ↦ ended s a m b e q refl (inl (omega arith))
    ]

-- the first piece behind a `+` is the element
opened : (s : List ℕ) (a b e : ℕ) → e ≡ cut_end s a b 43 → e < b → e < length s → first_of s (record { from = e + 1; to = b }) 43 ≡ piece_at s (record { from = a; to = b }) 43 1
opened s a b e q h g =
    span_last s (e + 1) b 43 refl 0 (cut_end s (e + 1) b 43) refl (omega arith) ∙ sym (span_step s a b 43 refl 1 e q (omega arith) h g)

one_some : ◌≡◌ {A = ℕ} 1 0 → ⊥
one_some q = omega arith

-- the element behind a `+`
pub behind_mark : (s : List ℕ) (i b : ℕ) → i < b → b ≤ length s → get_or s i 0 ≡ 43 → component_from s (i + 1) b ≡ part_at s (record { from = i; to = b }) 1 1 1
behind_mark s i b h g q =
    component_first s (record { from = i; to = b }) (record { from = i + 1; to = b }) 1 one_some (opened s i b i (cut_here s i b 43 h g q) h (omega arith))

module _ (s : List ℕ) (a b : ℕ) (p : Part) (e : p ≡ part_at s (record { from = a; to = b }) 1 1 1) where
  abbrev tag : ℕ
  tag = cut_end s a b 43

  -- the component is absent where there is no element
  none_there : (b ≤ tag) ⊎ (length s ≤ tag) → p ≡ absent
  unfolding element_at counted_at span_of first_piece
  none_there h =
      e ∙ ap (λ (x : Part). component_at s (occurrence_at s x 1) 1) (span_stop s a b 43 refl 1 tag refl (omega arith) h)

  gone : p.from < p.to → (b ≤ tag) ⊎ (length s ≤ tag) → ⊥
  gone h g =
      let f = ap (λ (x : Part). x.from) (none_there g) in
      let t = ap (λ (x : Part). x.to) (none_there g) in
      omega arith

  element_next : tag < b → tag < length s → element_at s (record { from = p.to; to = b }) 1 ≡ element_at s (record { from = a; to = b }) 2
  unfolding element_at
  element_next h g =
      let c = e ∙ sym (component_first s (record { from = a; to = b }) (record { from = tag + 1; to = b }) 1 one_some (opened s a b tag refl h g)) in
      let t = ap (λ (x : Part). x.to) c in
      same_next s (tag + 1) p.to b (ap (λ (x : ℕ). cut_end s x b 43) t ∙ goes_on s (tag + 1) b)
      ∙ sym (span_step s a b 43 refl 2 tag refl (omega arith) h g)

  -- the element behind one whose first component is present
  pub behind_component : p.from < p.to → part_at s (record { from = p.to; to = b }) 1 1 1 ≡ part_at s (record { from = a; to = b }) 2 1 1
  behind_component k =
      elim (dec_lt tag b) [
        | yes h ↦ elim (dec_lt tag (length s)) [
          | yes g ↦ ap (λ (x : Part). component_at s (occurrence_at s x 1) 1) (element_next h g)
          | no g ↦ absurd (gone k (inr (omega arith)))
        ]
        | no h ↦ absurd (gone k (inl (omega arith)))
      ]
