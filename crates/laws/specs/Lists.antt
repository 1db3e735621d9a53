-- The part of a list from one index to another.
-- Assumes nothing.
use Rattle.std.specs.Prelude.{◌≡◌, List, [], ◌∷◌, ℕ, zero, suc, ◌+◌, ◌-◌, ◌≤◌, ◌<◌, length, get_or, take, drop}
use Rattle.std.proofs.Common.{sym, ◌∙◌, arith, add-one, length-take, length-drop, drop_of_length-le, drop-cons, take_all}
use Rattle.std.proofs.Math.Seq.{take-nil}
use Rattle.std.proofs.Math.Nat.{sub-zero, zero-sub}

-- the elements from index a up to and without index b
abbrev pub between : {A : Type 0} → List A → ℕ → ℕ → List A
between s a b = take (b - a) (drop a s)

pub length_between : {A : Type 0} (s : List A) (a b : ℕ) → b ≤ length s → length (between s a b) ≡ b - a
length_between s a b h = simp (length-take, length-drop) (omega arith)

pub between_cons : {A : Type 0} (s : List A) (a b : ℕ) (z : A) → a < b → a < length s → between s a b ≡ get_or s a z ∷ between s (a + 1) b
between_cons s a b z h k =
    let e : b - a ≡ suc (b - (a + 1)) = omega arith in
    rw (add-one, drop-cons s a z, e) (rw add-one)

-- two lists that are the same begin alike and go on alike
pub cons_parts : {A : Type 0} {x y : A} {l m : List A} → x ∷ l ≡ y ∷ m → (x ≡ y) × (l ≡ m)
cons_parts q = (cc, cc)

-- what stands from an index on begins with what stands at it
pub drop_here : (s : List ℕ) (i : ℕ) → i < length s → drop i s ≡ get_or s i 0 ∷ drop (i + 1) s
drop_here s i h = rw (add-one, drop-cons s i 0)

pub drop_past : (s : List ℕ) (i : ℕ) → length s ≤ i → drop i s ≡ []
drop_past s i h = drop_of_length-le s h

-- the part from an index to the end is what stands from there on
pub rest_is : (s : List ℕ) (at : ℕ) → take (length s - at) (drop at s) ≡ drop at s
rest_is s at = let d = length-drop at s in take_all (length s - at) (drop at s) (omega arith)

pub drop_take : {A : Type 0} (k n : ℕ) (l : List A) → drop k (take n l) ≡ take (n - k) (drop k l)
drop_take zero n l = rw sub-zero
drop_take (suc k) zero l = rw zero-sub
drop_take (suc k) (suc n) [] = sym (take-nil (suc n - suc k))
drop_take (suc k) (suc n) (a ∷ l) =
    let e : suc n - suc k ≡ n - k = omega arith in
    rw e (drop_take k n l)

-- no element stands between an index and one that is not after it, or past the end
pub between_none : {A : Type 0} (s : List A) (a b : ℕ) → b ≤ a → between s a b ≡ []
between_none s a b h =
    let e : b - a ≡ 0 = omega arith in
    rw e

pub between_past : {A : Type 0} (s : List A) (a b : ℕ) → length s ≤ a → between s a b ≡ []
between_past s a b h = rw (drop_of_length-le s h) (take-nil (b - a))

-- an end past the list's is its end
pub between_all : {A : Type 0} (s : List A) (a b : ℕ) → length s ≤ b → between s a (length s) ≡ between s a b
between_all s a b h =
    let l = length-drop a s in
    take_all (length s - a) (drop a s) (omega arith) ∙ sym (take_all (b - a) (drop a s) (omega arith))
