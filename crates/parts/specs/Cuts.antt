-- The pieces of a text and where they stand in the input.
-- Assumes nothing.
use Rattle.std.specs.Prelude.{◌≡◌, refl, Bool, true, false, ℕ, suc, ◌+◌, ◌-◌, ◌≤◌, ◌<◌, min, ◌⊎◌, eqb, ltb, length, get_or, take, drop}
use Rattle.std.proofs.Common.{sym, ◌∙◌, inl, inr, ⊎_elim, not-suc-le-zero, add-one, length-take, length-drop, drop-drop, take-take}
use Rattle.std.proofs.Math.Path.{ap}
use mathlib.Core.List.{List, [], ◌∷◌}
use native.Mathlib.Omega.{arith}
use Rattle.std.proofs.Math.Decide.{dec_lt}
use borrow.Author.Tests.{eqb-true, eq-eqb, ne_eqb, lt-ltb, le-ltb}
use Rattle.laws.specs.Choice.{both, both_false, choose}
use Rattle.laws.specs.Lists.{between, between_cons, drop_take}
use Rattle.parts.specs.declared.Part.{Part}
use Rattle.syntax.specs.Bytes.{stands, releases}
use Rattle.syntax.specs.Firsts.{first_length}
use Rattle.syntax.specs.Pieces.{first_piece, later_pieces, pieces}
use Rattle.parts.specs.Places.{absent, span_of}

-- the pieces after the first are those of what follows it
after_mark : (c b : ℕ) (r : Bool) → eqb c 63 ≡ false → stands c r b ≡ true → releases r b ≡ false
after_mark c b true n q = refl
after_mark c b false n q = rw (eqb-true b c q) n

pub later_split : (c : ℕ) (r : Bool) (l : List ℕ) → eqb c 63 ≡ false → length (first_piece c r l) < length l
    → later_pieces c r l ≡ pieces c (drop (length (first_piece c r l) + 1) l)
unfolding first_piece later_pieces
later_split c r [] n h = absurd (not-suc-le-zero h)
later_split c r (b ∷ l) n h =
    choose (stands c r b) (λ q. rw (q, after_mark c b r n q))
    (λ q. let g = rw q at h in
    rw (q, add-one) (rw add-one at (later_split c (releases r b) l n (omega arith))))

pub later_none : (c : ℕ) (r : Bool) (l : List ℕ) → length l ≤ length (first_piece c r l) → later_pieces c r l ≡ []
unfolding first_piece later_pieces
later_none c r [] h = refl
later_none c r (b ∷ l) h =
    choose (stands c r b) (λ q. let g = rw q at h in absurd (omega arith))
    (λ q. let g = rw q at h in rw q (later_none c (releases r b) l (omega arith)))

-- parts of a part
pub length_part : (s : List ℕ) (a b : ℕ) → length (between s a b) ≡ min (b - a) (length s - a)
length_part s a b = simp (length-take, length-drop)

pub drop_between : (s : List ℕ) (a b k : ℕ) → drop k (between s a b) ≡ between s (a + k) b
drop_between s a b k =
    let e : b - a - k ≡ b - (a + k) = omega arith in
    drop_take k (b - a) (drop a s) ∙ rw (drop-drop, e)

pub take_between : (s : List ℕ) (a b k : ℕ) → a + k ≤ b → take k (between s a b) ≡ between s a (a + k)
take_between s a b k h =
    let e : a + k - a ≡ k = omega arith in
    rw e (take-take k (b - a) (drop a s) (omega arith))

-- where the first piece of a part ends
abbrev pub cut_end : List ℕ → ℕ → ℕ → ℕ → ℕ
cut_end s a b c = a + length (first_piece c false (between s a b))

-- the first piece of a part
abbrev pub first_of : List ℕ → Part → ℕ → Part
first_of s p c = record { from = p.from; to = cut_end s p.from p.to c }

pub first_absent : (s : List ℕ) (c : ℕ) → first_of s absent c ≡ absent
unfolding first_piece
first_absent s c = refl

module _ (s : List ℕ) (a b c : ℕ) (n : eqb c 63 ≡ false) where
  -- the others are the pieces of what follows, where the first ends before the part does
  later_at : cut_end s a b c < b → cut_end s a b c < length s → later_pieces c false (between s a b) ≡ pieces c (between s (cut_end s a b c + 1) b)
  later_at h g =
      let m = length (first_piece c false (between s a b)) in
      let e : a + (m + 1) ≡ a + m + 1 = omega arith in
      let l = length_part s a b in
      later_split c false (between s a b) n (omega arith) ∙ ap (pieces c) (drop_between s a b (m + 1) ∙ ap (λ (x : ℕ). between s x b) e)

  -- and there are none where it does not
  later_gone : (b ≤ cut_end s a b c) ⊎ (length s ≤ cut_end s a b c) → later_pieces c false (between s a b) ≡ []
  later_gone h =
      let l = length_part s a b in
      later_none c false (between s a b) (⊎_elim (λ g. omega arith) (λ g. omega arith) h)

  pub later_cases : ((later_pieces c false (between s a b) ≡ pieces c (between s (cut_end s a b c + 1) b)) × (cut_end s a b c < b)) ⊎ (later_pieces c false (between s a b) ≡ [])
  later_cases =
      elim (dec_lt (cut_end s a b c) b) [
        | yes h ↦ elim (dec_lt (cut_end s a b c) (length s)) [
          | yes g ↦ inl (later_at h g, h)
          | no g ↦ inr (later_gone (inr (omega arith)))
        ]
        | no h ↦ inr (later_gone (inl (omega arith)))
      ]

  span_next : (k : ℕ) → cut_end s a b c < b → cut_end s a b c < length s
      → span_of a (pieces c (between s a b)) (suc k) ≡ span_of (cut_end s a b c + 1) (pieces c (between s (cut_end s a b c + 1) b)) k
  unfolding span_of
  span_next k h g = ap (λ (ps : List (List ℕ)). span_of (cut_end s a b c + 1) ps k) (later_at h g)

  span_none : (k : ℕ) → (b ≤ cut_end s a b c) ⊎ (length s ≤ cut_end s a b c) → span_of a (pieces c (between s a b)) (suc k) ≡ absent
  unfolding span_of
  span_none k h = ap (λ (ps : List (List ℕ)). span_of (cut_end s a b c + 1) ps k) (later_gone h)

  -- the same where e is the place at which the first piece was found to end
  module _ (k e : ℕ) (q : e ≡ cut_end s a b c) where
    pub span_step : 0 < k → e < b → e < length s
        → span_of a (pieces c (between s a b)) k ≡ span_of (e + 1) (pieces c (between s (e + 1) b)) (k - 1)
    span_step z h g =
        let o : k ≡ suc (k - 1) = omega arith in
        ap (span_of a (pieces c (between s a b))) o ∙ rw q (span_next (k - 1) (rw q at h) (rw q at g))

    pub span_stop : 0 < k → (b ≤ e) ⊎ (length s ≤ e) → span_of a (pieces c (between s a b)) k ≡ absent
    span_stop z h =
        let o : k ≡ suc (k - 1) = omega arith in
        ap (span_of a (pieces c (between s a b))) o ∙ span_none (k - 1) (rw q at h)

    pub span_last : k ≤ 0 → record { from = a; to = e } ≡ span_of a (pieces c (between s a b)) k
    unfolding span_of
    span_last z =
        let o : k ≡ 0 = omega arith in
        rw (o, q)

  -- more than one piece
  pub several : ltb 1 (length (pieces c (between s a b))) ≡ both (ltb (cut_end s a b c) b) (ltb (cut_end s a b c) (length s))
  several =
      elim (dec_lt (cut_end s a b c) b) [
        | yes h ↦ elim (dec_lt (cut_end s a b c) (length s)) [
          | yes g ↦ rw (later_at h g, lt-ltb _ b h, lt-ltb _ (length s) g)
              (lt-ltb 1 (suc (suc (length (later_pieces c false (between s (cut_end s a b c + 1) b))))) (omega arith))
          | no g ↦ rw (later_gone (inr (omega arith)), le-ltb (cut_end s a b c) (length s) (omega arith)) (sym (both_false (ltb (cut_end s a b c) b)))
        ]
        | no h ↦ rw (later_gone (inl (omega arith)), le-ltb (cut_end s a b c) b (omega arith))
      ]

-- one byte of a piece at an index of the input
module _ (s : List ℕ) (i b c : ℕ) where
  pub piece_past : (r : Bool) → (b ≤ i) ⊎ (length s ≤ i) → length (first_piece c r (between s i b)) ≡ 0
  piece_past r h =
      let l = length_part s i b in
      let f = first_length c r (between s i b) in
      ⊎_elim (λ g. omega arith) (λ g. omega arith) h

  module _ (h : i < b) (g : i < length s) where
    pub piece_ends : get_or s i 0 ≡ c → length (first_piece c false (between s i b)) ≡ 0
    unfolding first_piece
    piece_ends e = rw (between_cons s i b 0 h g, eq-eqb (get_or s i 0) c e)

    pub piece_released : i + length (first_piece c true (between s i b)) ≡ i + 1 + length (first_piece c false (between s (i + 1) b))
    unfolding first_piece
    piece_released = rw (between_cons s i b 0 h g) (omega arith)

    pub piece_goes : (get_or s i 0 ≡ c → ⊥)
        → i + length (first_piece c false (between s i b)) ≡ i + 1 + length (first_piece c (eqb (get_or s i 0) 63) (between s (i + 1) b))
    unfolding first_piece
    piece_goes e = rw (between_cons s i b 0 h g, ne_eqb (get_or s i 0) c e) (omega arith)
