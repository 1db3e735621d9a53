-- Texts with no service character: how they are cut, and that release changes nothing in them.
-- Assumes nothing.
use Rattle.std.specs.Prelude.{◌≡◌, Bool, true, false, not, ℕ, ◌+◌, ◌-◌, ◌≤◌, eqb, leb}
use Rattle.std.proofs.Math.Path.{refl, ap}
use Rattle.std.proofs.Common.{sym, ◌∙◌, arith, eq-eqb, ne_eqb, leb-true}
use mathlib.Core.List.{List, [], ◌∷◌, ◌++◌, append-nil}
use Rattle.std.proofs.lemmas.Bool.{not-true}
use Rattle.laws.specs.Choice.{both, either, all, both_parts, all_weaker, either_parts}
use Rattle.laws.specs.Sweep.{agree}
use Rattle.syntax.specs.Bytes.{permitted_of, plain, plain_on}
use Rattle.syntax.specs.Pieces.{first_piece, later_pieces, pieces}

-- neither the mark c nor a release
abbrev pub quiet : ℕ → ℕ → Bool
quiet c b = not (either (eqb b c) (eqb b 63))

quiet_parts : (c b : ℕ) → quiet c b ≡ true → (eqb b c ≡ false) × (eqb b 63 ≡ false)
quiet_parts c b p = either_parts (eqb b c) (eqb b 63) (not-true (either (eqb b c) (eqb b 63)) p)

module _ (c : ℕ) where
  pub first_all : (l : List ℕ) → all (quiet c) l ≡ true → first_piece c false l ≡ l
  unfolding first_piece
  first_all [] p = refl
  first_all (b ∷ l) p =
      let u = both_parts (quiet c b) (all (quiet c) l) p in
      let q = quiet_parts c b u.0 in
      rw (q.0, q.1) (ap (λ (x : List ℕ). b ∷ x) (first_all l u.1))

  pub later_all : (l : List ℕ) → all (quiet c) l ≡ true → later_pieces c false l ≡ []
  unfolding later_pieces
  later_all [] p = refl
  later_all (b ∷ l) p =
      let u = both_parts (quiet c b) (all (quiet c) l) p in
      let q = quiet_parts c b u.0 in
      rw (q.0, q.1) (later_all l u.1)

  -- what begins with such a text
  pub first_front : (l m : List ℕ) → all (quiet c) l ≡ true → first_piece c false (l ++ m) ≡ l ++ first_piece c false m
  unfolding first_piece
  first_front [] m p = refl
  first_front (b ∷ l) m p =
      let u = both_parts (quiet c b) (all (quiet c) l) p in
      let q = quiet_parts c b u.0 in
      rw (q.0, q.1) (ap (λ (x : List ℕ). b ∷ x) (first_front l m u.1))

  pub first_cut : (l m : List ℕ) → all (quiet c) l ≡ true → first_piece c false (l ++ (c ∷ m)) ≡ l
  unfolding first_piece
  first_cut l m p = first_front l (c ∷ m) p ∙ ap (λ (x : List ℕ). l ++ x) (rw (eq-eqb c c refl)) ∙ append-nil l

  pub later_cut : (l m : List ℕ) → eqb c 63 ≡ false → all (quiet c) l ≡ true → later_pieces c false (l ++ (c ∷ m)) ≡ pieces c m
  unfolding later_pieces
  later_cut [] m n p = rw (eq-eqb c c refl, n)
  later_cut (b ∷ l) m n p =
      let u = both_parts (quiet c b) (all (quiet c) l) p in
      let q = quiet_parts c b u.0 in
      rw (q.0, q.1) (later_cut l m n u.1)

  -- a text with no mark is one piece; one with a mark is what stands before it, and the pieces of the rest
  pub one_piece : (l : List ℕ) → all (quiet c) l ≡ true → pieces c l ≡ l ∷ []
  one_piece l p = rw (first_all l p, later_all l p)

  pub more_pieces : (l m : List ℕ) → eqb c 63 ≡ false → all (quiet c) l ≡ true → pieces c (l ++ (c ∷ m)) ≡ l ∷ pieces c m
  more_pieces l m n p = rw (first_cut l m p, later_cut l m n p)

pub plain_all : (l : List ℕ) → all (quiet 63) l ≡ true → plain l ≡ l
unfolding plain_on
plain_all [] p = refl
plain_all (b ∷ l) p =
    let u = both_parts (quiet 63 b) (all (quiet 63) l) p in
    let q = quiet_parts 63 b u.0 in
    rw q.0 (ap (λ (x : List ℕ). b ∷ x) (plain_all l u.1))

-- the bytes of dates, day strings and weekdays: from the hyphen, 45, to the 9, 57
abbrev pub numeric : ℕ → Bool
numeric b = both (leb 45 b) (leb b 57)

numeric_parts : (b : ℕ) → numeric b ≡ true → (45 ≤ b) × (b ≤ 57)
numeric_parts b p =
    let u = both_parts (leb 45 b) (leb b 57) p in
    (leb-true 45 b u.0, leb-true b 57 u.1)

pub numeric_quiet : (c b : ℕ) → ((45 ≤ b) × (b ≤ 57) → b ≡ c → ⊥) → numeric b ≡ true → quiet c b ≡ true
numeric_quiet c b n p =
    let h = numeric_parts b p in
    let k = h.0 in
    let l = h.1 in
    rw (ne_eqb b c (n h), ne_eqb b 63 (λ e. omega arith))

permitted_at : ℕ → Bool
permitted_at k = permitted_of (45 + k)

pub numeric_permitted : (b : ℕ) → numeric b ≡ true → permitted_of b ≡ true
unfolding permitted_at permitted_of
numeric_permitted b p =
    let h = numeric_parts b p in
    let k = h.0 in
    let l = h.1 in
    let e : 45 + (b - 45) ≡ b = omega arith in
    ap permitted_of (sym e) ∙ agree permitted_at (λ x. true) 13 tt (b - 45) (omega arith)

-- so none of them is a service character
module _ (l : List ℕ) (p : all numeric l ≡ true) where
  pub no_plus : all (quiet 43) l ≡ true
  no_plus = all_weaker numeric (quiet 43) l (λ b. numeric_quiet 43 b (λ h e. let k = h.0 in omega arith)) p

  pub no_star : all (quiet 42) l ≡ true
  no_star = all_weaker numeric (quiet 42) l (λ b. numeric_quiet 42 b (λ h e. let k = h.0 in omega arith)) p

  pub no_colon : all (quiet 58) l ≡ true
  no_colon = all_weaker numeric (quiet 58) l (λ b. numeric_quiet 58 b (λ h e. let k = h.1 in omega arith)) p

  pub no_quote : all (quiet 39) l ≡ true
  no_quote = all_weaker numeric (quiet 39) l (λ b. numeric_quiet 39 b (λ h e. let k = h.0 in omega arith)) p

  pub no_release : all (quiet 63) l ≡ true
  no_release = all_weaker numeric (quiet 63) l (λ b. numeric_quiet 63 b (λ h e. let k = h.1 in omega arith)) p

  pub all_permitted : all permitted_of l ≡ true
  all_permitted = all_weaker numeric permitted_of l numeric_permitted p
