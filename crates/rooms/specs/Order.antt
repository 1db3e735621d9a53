-- Numbers compared: the tests of `contents` are those of `slots`, and a number filled up with zeros stands as the number does.
-- Assumes nothing.
use Rattle.std.specs.Prelude.{◌≡◌, refl, Bool, true, false, List, [], ◌∷◌, ◌++◌, ℕ, zero, suc, ◌-◌, ◌≤◌, leb, ltb, length, replicate}
use Rattle.std.proofs.Common.{sym, ◌∙◌, ap, arith, ltb-true, ltb-false, leb-true, ne_eqb, eq-eqb, length-append}
use Rattle.std.proofs.lemmas.List.{length-replicate}
use Rattle.laws.specs.Choice.{both, all, choose, both_parts, false≢true}
use Rattle.laws.specs.Filled.{filled_up}
use Rattle.syntax.specs.Bytes.{permitted_of}
use Rattle.values.specs.Values.{same_text}
use Rattle.std.specs.declared.cmp.Ordering.{Ordering}
use Rattle.std.specs.declared.cmp.Ordering.TheVariants.{Less, Equal, Greater}
use Rattle.slots.specs.Order.{order_of}
use Rattle.slots.specs.Rising.{is_before}
use Rattle.records.specs.Order.{same_self, same_text_lem}
use Rattle.records.specs.Padded.{NoZero, order_filled}
use Rattle.contents.specs.Contents.{good_number, comes_before}
use Rattle.contents.specs.Written.{up_to_zero}

abbrev pub is_same_order : Ordering → Bool
is_same_order Less = false
is_same_order Equal = true
is_same_order Greater = false

-- one text comes before another, or is the same, as the order of both says
by_order : (a b : List ℕ) → (comes_before a b ≡ is_before (order_of a b)) × (same_text a b ≡ is_same_order (order_of a b))
unfolding comes_before same_text order_of
by_order [] [] = (refl, refl)
by_order [] (y ∷ m) = (refl, refl)
by_order (x ∷ l) [] = (refl, refl)
by_order (x ∷ l) (y ∷ m) =
    choose (ltb x y)
    (λ p.
    let h = ltb-true x y p in
    rw (p, ne_eqb x y (λ e. omega arith)) (refl, refl))
    (λ p.
    choose (ltb y x)
    (λ t.
    let h = ltb-true y x t in
    rw (p, t, ne_eqb x y (λ e. omega arith)) (refl, refl))
    (λ t.
    let h = ltb-false x y p in
    let k = ltb-false y x t in
    rw (p, t, eq-eqb x y (omega arith)) (by_order l m)))

pub before_order : (a b : List ℕ) → comes_before a b ≡ is_before (order_of a b)
before_order a b = (by_order a b).0

pub same_order : (a b : List ℕ) → same_text a b ≡ is_same_order (order_of a b)
same_order a b = (by_order a b).1

-- ---- the test of two texts decides whether they are one

is_same : (o : Ordering) → is_same_order o ≡ true → o ≡ Equal
is_same Less q = absurd (false≢true q)
is_same Equal q = refl
is_same Greater q = absurd (false≢true q)

pub same_told : (a b : List ℕ) → same_text a b ≡ true → a ≡ b
same_told a b q = same_text_lem a b (is_same (order_of a b) (sym (same_order a b) ∙ q))

pub same_itself : (a : List ℕ) → same_text a a ≡ true
same_itself a = same_order a a ∙ ap is_same_order (same_self a)

pub same_when : (a b : List ℕ) → a ≡ b → same_text a b ≡ true
same_when a b e = ap (same_text a) (sym e) ∙ same_itself a

pub same_not : (a b : List ℕ) → (a ≡ b → ⊥) → same_text a b ≡ false
same_not a b n = choose (same_text a b) (λ t. absurd (n (same_told a b t))) (λ t. t)

pub not_same : (a b : List ℕ) → same_text a b ≡ false → a ≡ b → ⊥
not_same a b q e = false≢true (sym q ∙ same_when a b e)

-- ---- good numbers

pub permitted_used : (b : ℕ) → permitted_of b ≡ true → b ≡ 0 → ⊥
unfolding permitted_of
permitted_used b q e =
    let h = leb-true 32 b (both_parts (leb 32 b) _ q).0 in
    omega arith

all_used : (x : List ℕ) → all permitted_of x ≡ true → NoZero x
all_used [] q = tt
all_used (b ∷ x) q =
    let w = both_parts (permitted_of b) (all permitted_of x) q in
    (permitted_used b w.0, all_used x w.1)

module _ (x : List ℕ) (q : good_number x ≡ true) where
  number_parts : (both (leb 1 (length x)) (leb (length x) 10) ≡ true) × (all permitted_of x ≡ true)
  unfolding good_number
  number_parts = both_parts (both (leb 1 (length x)) (leb (length x) 10)) (all permitted_of x) q

  pub number_least : 1 ≤ length x
  number_least = leb-true 1 (length x) (both_parts (leb 1 (length x)) (leb (length x) 10) number_parts.0).0

  pub number_most : length x ≤ 10
  number_most = leb-true (length x) 10 (both_parts (leb 1 (length x)) (leb (length x) 10) number_parts.0).1

  pub number_used : NoZero x
  number_used = all_used x number_parts.1

  pub length_filled : length (filled_up 10 x) ≡ 10
  unfolding filled_up
  length_filled =
      let h = number_most in
      simp (length-append, length-replicate) (omega arith)

up_to_used : (x t : List ℕ) → NoZero x → up_to_zero t ≡ [] → up_to_zero (x ++ t) ≡ x
unfolding up_to_zero
up_to_used [] t u e = e
up_to_used (b ∷ x) t u e = rw (ne_eqb b 0 u.0) (ap (λ (l : List ℕ). b ∷ l) (up_to_used x t u.1 e))

up_to_zeros : (n : ℕ) → up_to_zero (replicate n 0) ≡ []
unfolding up_to_zero
up_to_zeros zero = refl
up_to_zeros (suc n) = refl

-- a number filled up is read again
pub number_again : (x : List ℕ) → good_number x ≡ true → up_to_zero (filled_up 10 x) ≡ x
unfolding filled_up
number_again x q = up_to_used x (replicate (10 - length x) 0) (number_used x q) (up_to_zeros (10 - length x))

-- zeros at the end do not change the order
pub number_order_lem : (a b : List ℕ) → good_number a ≡ true → good_number b ≡ true → order_of (filled_up 10 a) (filled_up 10 b) ≡ order_of a b
number_order_lem a b p q = order_filled 10 a b (number_most a p) (number_most b q) (number_used a p) (number_used b q)
