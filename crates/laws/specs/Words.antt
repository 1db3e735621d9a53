-- Bytes as one number, the first in the lowest bits: what is done to such numbers is done to their bytes, one by one.
-- Assumes nothing.
use Rattle.std.specs.Prelude.{◌≡◌, Bool, ℕ, ◌+◌, ◌*◌, ◌^◌, ◌<◌, eqb}
use Rattle.std.proofs.Math.Path.{refl, ap, ap₂}
use Rattle.std.proofs.Common.{sym, ◌∙◌}
use mathlib.Core.List.{List, [], ◌∷◌}
use native.Mathlib.Omega.{arith}
use Rattle.std.specs.Int.Bits.{bit_and, bit_or, bit_xor, or_add_and, xor_add_and}
use Rattle.std.proofs.lemmas.Nat.{and_block, or_block, xor_block, and_le_l, and_le_r}
use borrow.Author.Tests.{eqb-true, eqb-false, eq-eqb, ne_eqb}
use Rattle.laws.specs.Choice.{both, all, choose}

-- what a function makes of each element of a list, put together
unfoldable pub word_by : {A : Type 0} → (A → ℕ) → List A → ℕ
word_by f [] = 0
word_by f (a ∷ l) = word_by f l * 256 + f a

abbrev pub word_of : List ℕ → ℕ
word_of l = word_by (λ b. b) l

-- what holds of each element
pub data Every {A : Type 0} (P : A → Type 0) : List A → Type 0 where
  none : Every P []
  one : {a : A} {l : List A} → P a → Every P l → Every P (a ∷ l)

abbrev pub Byte : ℕ → Type 0
Byte b = b < 256

-- it is 0 where each byte is
abbrev pub is_zero : ℕ → Bool
is_zero b = eqb b 0

module _ {A : Type 0} (f : A → ℕ) where
  pub zero_word : (l : List A) → is_zero (word_by f l) ≡ all (λ a. is_zero (f a)) l
  unfolding word_by
  zero_word [] = refl
  zero_word (a ∷ l) =
      choose (eqb (f a) 0)
      (λ p.
      let e = eqb-true (f a) 0 p in
      choose (eqb (word_by f l) 0)
      (λ q. let g = eqb-true (word_by f l) 0 q in rw (eq-eqb (word_by f l * 256 + f a) 0 (omega arith), p) (sym q ∙ zero_word l))
      (λ q. rw (ne_eqb (word_by f l * 256 + f a) 0 (λ g. eqb-false (word_by f l) 0 q (omega arith)), p) (sym q ∙ zero_word l)))
      (λ p. rw (ne_eqb (word_by f l * 256 + f a) 0 (λ g. eqb-false (f a) 0 p (omega arith)), p))

  -- a sum of two is that of their elements, however high these are
  pub add_word : (g : A → ℕ) (l : List A) → word_by f l + word_by g l ≡ word_by (λ a. f a + g a) l
  unfolding word_by
  add_word g [] = refl
  add_word g (a ∷ l) = let e = add_word g l in omega arith

module _ {A : Type 0} {P : A → Type 0} where
  -- functions that make the same of each element
  pub word_same : (f g : A → ℕ) → ((a : A) → P a → f a ≡ g a) → {l : List A} → Every P l → word_by f l ≡ word_by g l
  unfolding word_by
  word_same f g h none = refl
  word_same f g h (one {a} {l} k r) = ap₂ (λ (x y : ℕ). x * 256 + y) (word_same f g h r) (h a k)

  pub all_same : (f g : A → Bool) → ((a : A) → P a → f a ≡ g a) → {l : List A} → Every P l → all f l ≡ all g l
  all_same f g h none = refl
  all_same f g h (one {a} {l} k r) = ap₂ both (h a k) (all_same f g h r)

  module _ (f g : A → ℕ) (p : (a : A) → P a → Byte (f a)) (q : (a : A) → P a → Byte (g a)) where
    -- an operation that works on blocks of bits apart works on bytes apart
    by_byte : (op : ℕ → ℕ → ℕ) → op 0 0 ≡ 0 → ((k a b r s : ℕ) → r < 2 ^ k → s < 2 ^ k → op (a * 2 ^ k + r) (b * 2 ^ k + s) ≡ op a b * 2 ^ k + op r s)
        → {l : List A} → Every P l → op (word_by f l) (word_by g l) ≡ word_by (λ a. op (f a) (g a)) l
    unfolding word_by
    by_byte op nothing block none = nothing
    by_byte op nothing block (one {a} {l} k r) =
        block 8 (word_by f l) (word_by g l) (f a) (g a) (p a k) (q a k) ∙ ap (λ (x : ℕ). x * 256 + op (f a) (g a)) (by_byte op nothing block r)

    pub and_word : {l : List A} → Every P l → bit_and (word_by f l) (word_by g l) ≡ word_by (λ a. bit_and (f a) (g a)) l
    and_word = by_byte bit_and refl and_block

    pub or_word : {l : List A} → Every P l → bit_or (word_by f l) (word_by g l) ≡ word_by (λ a. bit_or (f a) (g a)) l
    or_word = by_byte bit_or refl or_block

    pub xor_word : {l : List A} → Every P l → bit_xor (word_by f l) (word_by g l) ≡ word_by (λ a. bit_xor (f a) (g a)) l
    xor_word = by_byte bit_xor refl xor_block

    -- the bytes of two numbers that are the same are the same
    pub same_word : {l : List A} → Every P l → word_by f l ≡ word_by g l → Every (λ a. f a ≡ g a) l
    unfolding word_by
    same_word none e = none
    same_word (one {a} {l} k r) e =
        let x = p a k in
        let y = q a k in
        one {a = a} (omega arith) (same_word r (omega arith))

-- bits gathered are 0 where all that were gathered are
pub or_zero : (a x : ℕ) → eqb (bit_or a x) 0 ≡ both (eqb a 0) (eqb x 0)
or_zero a x =
    let s = or_add_and a x in
    let l = and_le_l a x in
    let r = and_le_r a x in
    choose (eqb (bit_or a x) 0)
    (λ p.
    let e = eqb-true (bit_or a x) 0 p in
    rw (p, eq-eqb a 0 (omega arith), eq-eqb x 0 (omega arith)))
    (λ p.
    choose (eqb a 0)
    (λ q.
    let e = eqb-true a 0 q in
    rw (p, q) (sym (ne_eqb x 0 (λ z. eqb-false (bit_or a x) 0 p (omega arith)))))
    (λ q. rw (p, q)))

-- numbers that differ in no bit are the same
pub xor_zero : (a x : ℕ) → bit_xor a x ≡ 0 → a ≡ x
xor_zero a x e =
    let s = xor_add_and a x in
    let l = and_le_l a x in
    let r = and_le_r a x in
    omega arith
