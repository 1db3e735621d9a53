-- The tag by the first four bytes of a segment.
-- Assumes nothing.
use Rattle.std.specs.Prelude.{◌≡◌, refl, Bool, true, false, List, [], ◌∷◌, ℕ, ◌+◌, ◌*◌, ◌≤◌, ◌<◌, leb, eqb, ◌⊎◌, length, drop, get_or}
use Rattle.std.proofs.Common.{sym, ap, ◌∙◌, arith, leb-true, ne_eqb, inl, inr, ⊎_elim, length-drop}
use Rattle.laws.specs.Choice.{both, either, both_parts, choose, both_false, either_true, both_assoc₃}
use Rattle.syntax.specs.Bytes.{element_mark, terminator}
use Rattle.syntax.specs.Pieces.{first_piece}
use Rattle.syntax.specs.Segment.{capital, three_capitals, tagged, tag_number}
use Rattle.laws.specs.Lists.{drop_here}

-- a tag ends at `+` or the terminator
abbrev pub tag_closes : ℕ → Bool
tag_closes b = either (eqb b 43) (eqb b 39)

-- three capital letters, then `+` or the terminator
unfoldable pub tag_ahead : List ℕ → Bool
tag_ahead [] = false
tag_ahead (a ∷ []) = false
tag_ahead (a ∷ b ∷ []) = false
tag_ahead (a ∷ b ∷ c ∷ []) = false
tag_ahead (a ∷ b ∷ c ∷ d ∷ l) = both (capital a) (both (capital b) (both (capital c) (tag_closes d)))

-- the tag of the segment that a text begins with
abbrev ahead : List ℕ → List ℕ
ahead l = first_piece element_mark false (first_piece terminator false l)

pub capital_other : (b k : ℕ) → k ≤ 64 → capital b ≡ true → eqb b k ≡ false
capital_other b k h q =
    let w = leb-true 65 b (both_parts (leb 65 b) (leb b 90) q).0 in
    ne_eqb b k (λ e. omega arith)

-- what begins with a capital letter
pub ahead_capital : (b : ℕ) (l : List ℕ) → capital b ≡ true → ahead (b ∷ l) ≡ b ∷ ahead l
unfolding first_piece
ahead_capital b l q =
    rw (capital_other b 39 (omega arith) q, capital_other b 63 (omega arith) q, capital_other b 43 (omega arith) q)

-- a tag ends there, and else goes on with the byte
begins : (b : ℕ) (l : List ℕ) → ((ahead (b ∷ l) ≡ []) × (tag_closes b ≡ true)) ⊎ ((p : List ℕ) × (ahead (b ∷ l) ≡ b ∷ p) × (tag_closes b ≡ false))
unfolding first_piece
begins b l =
    choose (eqb b 39) (λ q. inl (rw q, rw q (either_true (eqb b 43))))
    (λ q. choose (eqb b 43) (λ r. inl (rw (q, r), rw r)) (λ r. inr (first_piece 43 (eqb b 63) (first_piece 39 (eqb b 63) l), rw (q, r), rw (r, q))))

-- a letter that is no capital leaves no tag
short : (a : ℕ) (p : List ℕ) → capital a ≡ false → three_capitals (a ∷ p) ≡ false
short a [] q = refl
short a (b ∷ []) q = refl
short a (b ∷ c ∷ []) q = rw q
short a (b ∷ c ∷ d ∷ l) q = refl

short₂ : (a b : ℕ) (p : List ℕ) → capital b ≡ false → three_capitals (a ∷ b ∷ p) ≡ false
short₂ a b [] q = refl
short₂ a b (c ∷ []) q = simp (q, both_false)
short₂ a b (c ∷ d ∷ l) q = refl

short₃ : (a b c : ℕ) (p : List ℕ) → capital c ≡ false → three_capitals (a ∷ b ∷ c ∷ p) ≡ false
short₃ a b c [] q = simp (q, both_false)
short₃ a b c (d ∷ l) q = refl

-- for a segment that is ended, the four bytes tell whether it is tagged
last : (a b c : ℕ) (l : List ℕ) → capital a ≡ true → capital b ≡ true → capital c ≡ true → (l ≡ [] → ⊥)
    → three_capitals (a ∷ b ∷ c ∷ ahead l) ≡ tag_ahead (a ∷ b ∷ c ∷ l)
unfolding tag_ahead
last a b c [] p q r h = absurd (h refl)
last a b c (d ∷ m) p q r h =
    ⊎_elim (λ w. rw (w.0, p, q, r) (sym w.1)) (λ w. rw (w.1, p, q, r) (sym w.2)) (begins d m)

-- and where one of the three is no capital letter, they tell that it is not
none : (a b c : ℕ) (l : List ℕ) → both (capital a) (both (capital b) (capital c)) ≡ false → tag_ahead (a ∷ b ∷ c ∷ l) ≡ false
unfolding tag_ahead
none a b c [] q = refl
none a b c (d ∷ l) q = sym (both_assoc₃ (capital a) (capital b) (capital c) (tag_closes d)) ∙ rw q

none₂ : (a b : ℕ) (l : List ℕ) → capital a ≡ false → tag_ahead (a ∷ b ∷ l) ≡ false
unfolding tag_ahead
none₂ a b [] q = refl
none₂ a b (c ∷ l) q = none a b c l (rw q)

dead : (a : ℕ) (l : List ℕ) → capital a ≡ false → three_capitals (ahead (a ∷ l)) ≡ false
dead a l q = ⊎_elim (λ w. rw w.0) (λ w. rw w.1 (short a w.0 q)) (begins a l)

dead₂ : (a b : ℕ) (l : List ℕ) → capital b ≡ false → three_capitals (a ∷ ahead (b ∷ l)) ≡ false
dead₂ a b l q = ⊎_elim (λ w. rw w.0) (λ w. rw w.1 (short₂ a b w.0 q)) (begins b l)

dead₃ : (a b c : ℕ) (l : List ℕ) → capital c ≡ false → three_capitals (a ∷ b ∷ ahead (c ∷ l)) ≡ false
dead₃ a b c l q = ⊎_elim (λ w. rw w.0) (λ w. rw w.1 (short₃ a b c w.0 q)) (begins c l)

pub first_capital : (b : ℕ) (l : List ℕ) → capital b ≡ true → first_piece 39 false (b ∷ l) ≡ b ∷ first_piece 39 false l
unfolding first_piece
first_capital b l q = rw (capital_other b 39 (omega arith) q, capital_other b 63 (omega arith) q)

whole : (a b c : ℕ) → capital a ≡ true → capital b ≡ true → capital c ≡ true → length (first_piece 39 false (a ∷ b ∷ c ∷ [])) < 3 → ⊥
unfolding first_piece
whole a b c p q r h =
    let e : first_piece 39 false (a ∷ b ∷ c ∷ []) ≡ a ∷ b ∷ c ∷ [] =
    rw (first_capital a (b ∷ c ∷ []) p, first_capital b (c ∷ []) q, first_capital c [] r) in
    let k = ap length e in
    omega arith

third : (a b c : ℕ) (l : List ℕ) → capital a ≡ true → capital b ≡ true → length (first_piece 39 false (a ∷ b ∷ c ∷ l)) < length (a ∷ b ∷ c ∷ l)
    → three_capitals (a ∷ b ∷ ahead (c ∷ l)) ≡ tag_ahead (a ∷ b ∷ c ∷ l)
third a b c l p q h =
    choose (capital c)
    (λ r. rw (ahead_capital c l r) (last a b c l p q r (λ e. whole a b c p q r (rw e at h))))
    (λ r. dead₃ a b c l r ∙ sym (none a b c l (rw (p, q) r)))

second : (a b : ℕ) (l : List ℕ) → capital a ≡ true → length (first_piece 39 false (a ∷ b ∷ l)) < length (a ∷ b ∷ l)
    → three_capitals (a ∷ ahead (b ∷ l)) ≡ tag_ahead (a ∷ b ∷ l)
unfolding tag_ahead first_piece
second a b [] p h = choose (capital b) (λ q. rw (ahead_capital b [] q)) (λ q. dead₂ a b [] q)
second a b (c ∷ l) p h =
    choose (capital b) (λ q. rw (ahead_capital b (c ∷ l) q) (third a b c l p q h))
    (λ q. dead₂ a b (c ∷ l) q ∙ sym (none a b c l (rw (p, q))))

pub tag_ahead_lem : (l : List ℕ) → length (first_piece 39 false l) < length l → tagged (first_piece 39 false l) ≡ tag_ahead l
unfolding tagged tag_ahead first_piece
tag_ahead_lem [] h = refl
tag_ahead_lem (a ∷ []) h = choose (capital a) (λ p. rw (ahead_capital a [] p)) (λ p. dead a [] p)
tag_ahead_lem (a ∷ b ∷ l) h =
    choose (capital a) (λ p. rw (ahead_capital a (b ∷ l) p) (second a b l p h))
    (λ p. dead a (b ∷ l) p ∙ sym (none₂ a b l p))

-- the first bytes from an index on
pub three : (s : List ℕ) (at : ℕ) → at + 3 ≤ length s → drop at s ≡ get_or s at 0 ∷ get_or s (at + 1) 0 ∷ get_or s (at + 2) 0 ∷ drop (at + 3) s
three s at h =
    let one : at + 1 + 1 ≡ at + 2 = omega arith in
    let two : at + 2 + 1 ≡ at + 3 = omega arith in
    rw (drop_here s at (omega arith), drop_here s (at + 1) (omega arith), one, drop_here s (at + 2) (omega arith), two)

four : (s : List ℕ) (at : ℕ) → at + 4 ≤ length s → drop at s ≡ get_or s at 0 ∷ get_or s (at + 1) 0 ∷ get_or s (at + 2) 0 ∷ get_or s (at + 3) 0 ∷ drop (at + 4) s
four s at h =
    let e : at + 3 + 1 ≡ at + 4 = omega arith in
    rw (three s at (omega arith), drop_here s (at + 3) (omega arith), e)

pub tag_four : (s : List ℕ) (at : ℕ) → at + 4 ≤ length s
    → tag_ahead (drop at s) ≡ both (capital (get_or s at 0)) (both (capital (get_or s (at + 1) 0)) (both (capital (get_or s (at + 2) 0)) (tag_closes (get_or s (at + 3) 0))))
unfolding tag_ahead
tag_four s at h = rw (four s at h)

few : (l : List ℕ) → length l < 4 → tag_ahead l ≡ false
unfolding tag_ahead
few [] h = refl
few (a ∷ []) h = refl
few (a ∷ b ∷ []) h = refl
few (a ∷ b ∷ c ∷ []) h = refl
few (a ∷ b ∷ c ∷ d ∷ l) h = absurd (omega arith)

pub tag_few : (s : List ℕ) (at : ℕ) → length s < at + 4 → tag_ahead (drop at s) ≡ false
tag_few s at h = few (drop at s) (let d = length-drop at s in omega arith)

pub number_three : (s : List ℕ) (at : ℕ) → at + 3 ≤ length s → tag_number (drop at s) ≡ get_or s at 0 * 65536 + get_or s (at + 1) 0 * 256 + get_or s (at + 2) 0
number_three s at h = rw (three s at h)

small : (l : List ℕ) → length l < 3 → tag_number l ≡ 0
small [] h = refl
small (a ∷ []) h = refl
small (a ∷ b ∷ []) h = refl
small (a ∷ b ∷ c ∷ l) h = absurd (omega arith)

pub number_few : (s : List ℕ) (at : ℕ) → length s < at + 3 → tag_number (drop at s) ≡ 0
number_few s at h = small (drop at s) (let d = length-drop at s in omega arith)
