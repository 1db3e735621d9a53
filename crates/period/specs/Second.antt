-- The second element of a segment, found from the end of the first.
-- Assumes nothing.
use Rattle.std.specs.Prelude.{◌≡◌, refl, Bool, true, false, List, [], ◌∷◌, ◌⊎◌, ℕ, ◌+◌, ◌≤◌, ◌<◌, eqb, length, drop}
use Rattle.std.proofs.Common.{sym, ap, ◌∙◌, inl, inr, arith}
use Rattle.std.proofs.Math.Decide.{dec_lt}
use Rattle.laws.specs.Choice.{choose}
use Rattle.laws.specs.Lists.{between}
use Rattle.syntax.specs.Pieces.{first_piece, pieces}
use Rattle.parts.specs.declared.Part.{Part}
use Rattle.parts.specs.Places.{span_of, element_at, occurrence_at}
use Rattle.parts.specs.Cuts.{cut_end, drop_between, span_step, span_stop, span_last}
use Rattle.period.specs.declared.elements.Element.{Element}
use Rattle.period.specs.Elements.{element_found}

-- a piece that starts where one ended has no byte
none_behind : (c : ℕ) (r : Bool) (l : List ℕ) → length (first_piece c false (drop (length (first_piece c r l)) l)) ≡ 0
unfolding first_piece
none_behind c r [] = refl
none_behind c true (b ∷ l) = none_behind c false l
none_behind c false (b ∷ l) = choose (eqb b c) (λ q. rw (q, q)) (λ q. rw q (none_behind c (eqb b 63) l))

cut_again : (s : List ℕ) (a b c : ℕ) → cut_end s (cut_end s a b c) b c ≡ cut_end s a b c
cut_again s a b c =
    let e = ap (λ (l : List ℕ). length (first_piece c false l)) (sym (drop_between s a b (length (first_piece c false (between s a b))))) ∙ none_behind c false (between s a b) in
    omega arith

module _ (s : List ℕ) (a b : ℕ) where
  abbrev element_from : ℕ → ℕ → Part
  element_from i k = span_of i (pieces 43 (between s i b)) k

  -- two pieces that end at the same index are followed by the same
  behind_same : (i j : ℕ) → cut_end s i b 43 ≡ cut_end s j b 43 → element_from i 1 ≡ element_from j 1
  behind_same i j q =
      let e = cut_end s j b 43 in
      elim (dec_lt e b) [
        | yes h ↦ elim (dec_lt e (length s)) [
          | yes g ↦ span_step s i b 43 refl 1 e (sym q) (omega arith) h g ∙ sym (span_step s j b 43 refl 1 e refl (omega arith) h g)
          | no g ↦ span_stop s i b 43 refl 1 e (sym q) (omega arith) (inr (omega arith)) ∙ sym (span_stop s j b 43 refl 1 e refl (omega arith) (inr (omega arith)))
        ]
        | no h ↦ span_stop s i b 43 refl 1 e (sym q) (omega arith) (inl (omega arith)) ∙ sym (span_stop s j b 43 refl 1 e refl (omega arith) (inl (omega arith)))
      ]

  module _ (h : cut_end s a b 43 < b) (g : cut_end s a b 43 < length s) where
    first_is : element_from a 1 ≡ record { from = cut_end s a b 43 + 1; to = cut_end s (cut_end s a b 43 + 1) b 43 }
    first_is =
        span_step s a b 43 refl 1 (cut_end s a b 43) refl (omega arith) h g
        ∙ sym (span_last s (cut_end s a b 43 + 1) b 43 refl 0 (cut_end s (cut_end s a b 43 + 1) b 43) refl (omega arith))

    second_is : element_from (element_from a 1).to 1 ≡ element_from a 2
    second_is =
        ap (λ (x : Part). element_from x.to 1) first_is
        ∙ behind_same (cut_end s (cut_end s a b 43 + 1) b 43) (cut_end s a b 43 + 1) (cut_again s (cut_end s a b 43 + 1) b 43)
        ∙ sym (span_step s a b 43 refl 2 (cut_end s a b 43) refl (omega arith) h g)

  none_first : (b ≤ cut_end s a b 43) ⊎ (length s ≤ cut_end s a b 43) → (element_from a 1).from ≡ 0
  none_first h = ap (λ (x : Part). x.from) (span_stop s a b 43 refl 1 (cut_end s a b 43) refl (omega arith) h)

  second_from : ((element_from a 1).from ≡ 0 → ⊥) → element_from (element_from a 1).to 1 ≡ element_from a 2
  second_from n =
      elim (dec_lt (cut_end s a b 43) b) [
        | yes h ↦ elim (dec_lt (cut_end s a b 43) (length s)) [
          | yes g ↦ second_is h g
          | no g ↦ absurd (n (none_first (inr (omega arith))))
        ]
        | no h ↦ absurd (n (none_first (inl (omega arith))))
      ]

second_at : (s : List ℕ) (g : Part) → ((element_at s g 1).from ≡ 0 → ⊥) → element_at s (record { from = (element_at s g 1).to; to = g.to }) 1 ≡ element_at s g 2
unfolding element_at
second_at s g n = second_from s g.from g.to n

pub second_found : (s : List ℕ) (g : Part) {x r : Element} → x ≡ element_found s g 1 → (x.whole.from ≡ 0 → ⊥)
    → r ≡ element_found s (record { from = x.whole.to; to = g.to }) 1 → r ≡ element_found s g 2
second_found s g p n q =
    q ∙ ap (λ (y : Element). element_found s (record { from = y.whole.to; to = g.to }) 1) p
    ∙ ap (λ (w : Part). record { whole = w; once = occurrence_at s w 1 }) (second_at s g (λ e. n (ap (λ (y : Element). y.whole.from) p ∙ e)))
