-- A place in two numbers, its row and its counts: fourteen bits for each level, the deepest has what is left of 64.
-- Assumes nothing.
use Rattle.std.specs.Prelude.{◌≡◌, Bool, true, ℕ, zero, suc, ◌+◌, ◌*◌, ◌/◌, ◌%◌, ◌^◌, ◌<◌, ◌≤◌, ltb}
use Rattle.std.proofs.Common.{sym, ap, ◌∙◌, subst, arith, ltb-true}
use Rattle.std.proofs.Math.Nat.{div-div-eq-div-mul}
use Rattle.laws.specs.Choice.{both, both_parts}
use Rattle.std.proofs.Math.ListN.{get_or-eq_default}
use Rattle.placing.specs.declared.Place.{Place}
use Rattle.placing.specs.Place.{count_at, reached_of}
use Rattle.hints.specs.Kinds.{Kind, kinds, no_kind, kind_at, shift_of, kept_of, kept_bits}

-- past the last there is no kind
pub kind_past : (k : ℕ) → 28 ≤ k → kind_at k ≡ no_kind
unfolding kinds
kind_past k h = get_or-eq_default kinds no_kind {n = k} (omega arith)

abbrev pub place_of : ℕ → ℕ → Place
place_of row counts = record {
  row = row;
  c0 = counts % 16384;
  c1 = counts / 2 ^ 14 % 16384;
  c2 = counts / 2 ^ 28 % 16384;
  c3 = counts / 2 ^ 42 % 16384;
  c4 = counts / 2 ^ 56;
}

-- the counts of five levels in one number
abbrev pub packed : ℕ → ℕ → ℕ → ℕ → ℕ → ℕ
packed a b c d e = a + b * 16384 + c * 268435456 + d * 4398046511104 + e * 72057594037927936

abbrev pub made : ℕ → ℕ → ℕ → ℕ → ℕ → ℕ → Place
made row a b c d e = record { row = row; c0 = a; c1 = b; c2 = c; c3 = d; c4 = e }

-- each count is what its bits say
module _ (a b c d e : ℕ) (la : a < 16384) (lb : b < 16384) (lc : c < 16384) (ld : d < 16384) where
  low : packed a b c d e % 16384 ≡ a
  low = omega arith

  second : packed a b c d e / 16384 % 16384 ≡ b
  second = omega arith

  third : packed a b c d e / 268435456 % 16384 ≡ c
  third = omega arith

  fourth : packed a b c d e / 4398046511104 % 16384 ≡ d
  fourth = omega arith

  deepest : packed a b c d e / 72057594037927936 ≡ e
  deepest = omega arith

  pub place_packed : (row : ℕ) → place_of row (packed a b c d e) ≡ made row a b c d e
  place_packed row = rw (low, second, third, fourth, deepest)

-- a number is made of its bits
pub packed_bits : (n : ℕ) → n ≡ packed (n % 16384) (n / 16384 % 16384) (n / 268435456 % 16384) (n / 4398046511104 % 16384) (n / 72057594037927936)
packed_bits n =
    let b = div-div-eq-div-mul n 16384 16384 in
    let c = div-div-eq-div-mul n 268435456 16384 in
    let d = div-div-eq-div-mul n 4398046511104 16384 in
    omega arith

-- the lowest bits of it
module _ (a b c d e : ℕ) (la : a < 16384) (lb : b < 16384) (lc : c < 16384) (ld : d < 16384) (le : e < 256) where
  kept_0 : packed a b c d e % 1 ≡ packed 0 0 0 0 0
  kept_0 = omega arith

  kept_1 : packed a b c d e % 16384 ≡ packed a 0 0 0 0
  kept_1 = omega arith

  kept_2 : packed a b c d e % 268435456 ≡ packed a b 0 0 0
  kept_2 = omega arith

  kept_3 : packed a b c d e % 4398046511104 ≡ packed a b c 0 0
  kept_3 = omega arith

  kept_4 : packed a b c d e % 72057594037927936 ≡ packed a b c d 0
  kept_4 = omega arith

  kept_5 : packed a b c d e % 18446744073709551616 ≡ packed a b c d e
  kept_5 = omega arith

-- A place entered at a level, as the counts in one number tell it: what stays of them, and what is added, is the place of the rule.
abbrev Moves : ℕ → ℕ → ℕ → Type 0
Moves level deeper again =
    (a b c d e row to number : ℕ) → a < 16384 → b < 16384 → c < 16384 → d < 16384 → e < 256 → number < 16384
    → packed a b c d e % 2 ^ kept_of level again < number * 2 ^ shift_of level
    → (place_of to (packed a b c d e % 2 ^ kept_of level again + (1 + deeper * 16384) * 2 ^ shift_of level)
    ≡ reached_of (made row a b c d e) level (again * count_at (made row a b c d e) level + 1) to (level + deeper))
    × (again * count_at (made row a b c d e) level < number)

moves_0_0_0 : Moves 0 0 0
moves_0_0_0 a b c d e row to number la lb lc ld le ln h =
    let k = kept_0 a b c d e la lb lc ld le in
    let n : 0 * a < number = omega arith in
    let s : packed a b c d e % 2 ^ kept_of 0 0 + (1 + 0 * 16384) * 2 ^ shift_of 0 ≡ packed (0 * a + 1) 0 0 0 0 = omega arith in
    (ap (place_of to) s ∙ place_packed (0 * a + 1) 0 0 0 0 (omega arith) (omega arith) (omega arith) (omega arith) to, n)

moves_0_0_1 : Moves 0 0 1
moves_0_0_1 a b c d e row to number la lb lc ld le ln h =
    let k = kept_1 a b c d e la lb lc ld le in
    let n : 1 * a < number = omega arith in
    let s : packed a b c d e % 2 ^ kept_of 0 1 + (1 + 0 * 16384) * 2 ^ shift_of 0 ≡ packed (1 * a + 1) 0 0 0 0 = omega arith in
    (ap (place_of to) s ∙ place_packed (1 * a + 1) 0 0 0 0 (omega arith) (omega arith) (omega arith) (omega arith) to, n)

moves_0_1_0 : Moves 0 1 0
moves_0_1_0 a b c d e row to number la lb lc ld le ln h =
    let k = kept_0 a b c d e la lb lc ld le in
    let n : 0 * a < number = omega arith in
    let s : packed a b c d e % 2 ^ kept_of 0 0 + (1 + 1 * 16384) * 2 ^ shift_of 0 ≡ packed (0 * a + 1) 1 0 0 0 = omega arith in
    (ap (place_of to) s ∙ place_packed (0 * a + 1) 1 0 0 0 (omega arith) (omega arith) (omega arith) (omega arith) to, n)

moves_0_1_1 : Moves 0 1 1
moves_0_1_1 a b c d e row to number la lb lc ld le ln h =
    let k = kept_1 a b c d e la lb lc ld le in
    let n : 1 * a < number = omega arith in
    let s : packed a b c d e % 2 ^ kept_of 0 1 + (1 + 1 * 16384) * 2 ^ shift_of 0 ≡ packed (1 * a + 1) 1 0 0 0 = omega arith in
    (ap (place_of to) s ∙ place_packed (1 * a + 1) 1 0 0 0 (omega arith) (omega arith) (omega arith) (omega arith) to, n)

moves_1_0_0 : Moves 1 0 0
moves_1_0_0 a b c d e row to number la lb lc ld le ln h =
    let k = kept_1 a b c d e la lb lc ld le in
    let n : 0 * b < number = omega arith in
    let s : packed a b c d e % 2 ^ kept_of 1 0 + (1 + 0 * 16384) * 2 ^ shift_of 1 ≡ packed a (0 * b + 1) 0 0 0 = omega arith in
    (ap (place_of to) s ∙ place_packed a (0 * b + 1) 0 0 0 (omega arith) (omega arith) (omega arith) (omega arith) to, n)

moves_1_0_1 : Moves 1 0 1
moves_1_0_1 a b c d e row to number la lb lc ld le ln h =
    let k = kept_2 a b c d e la lb lc ld le in
    let n : 1 * b < number = omega arith in
    let s : packed a b c d e % 2 ^ kept_of 1 1 + (1 + 0 * 16384) * 2 ^ shift_of 1 ≡ packed a (1 * b + 1) 0 0 0 = omega arith in
    (ap (place_of to) s ∙ place_packed a (1 * b + 1) 0 0 0 (omega arith) (omega arith) (omega arith) (omega arith) to, n)

moves_1_1_0 : Moves 1 1 0
moves_1_1_0 a b c d e row to number la lb lc ld le ln h =
    let k = kept_1 a b c d e la lb lc ld le in
    let n : 0 * b < number = omega arith in
    let s : packed a b c d e % 2 ^ kept_of 1 0 + (1 + 1 * 16384) * 2 ^ shift_of 1 ≡ packed a (0 * b + 1) 1 0 0 = omega arith in
    (ap (place_of to) s ∙ place_packed a (0 * b + 1) 1 0 0 (omega arith) (omega arith) (omega arith) (omega arith) to, n)

moves_1_1_1 : Moves 1 1 1
moves_1_1_1 a b c d e row to number la lb lc ld le ln h =
    let k = kept_2 a b c d e la lb lc ld le in
    let n : 1 * b < number = omega arith in
    let s : packed a b c d e % 2 ^ kept_of 1 1 + (1 + 1 * 16384) * 2 ^ shift_of 1 ≡ packed a (1 * b + 1) 1 0 0 = omega arith in
    (ap (place_of to) s ∙ place_packed a (1 * b + 1) 1 0 0 (omega arith) (omega arith) (omega arith) (omega arith) to, n)

moves_2_0_0 : Moves 2 0 0
moves_2_0_0 a b c d e row to number la lb lc ld le ln h =
    let k = kept_2 a b c d e la lb lc ld le in
    let n : 0 * c < number = omega arith in
    let s : packed a b c d e % 2 ^ kept_of 2 0 + (1 + 0 * 16384) * 2 ^ shift_of 2 ≡ packed a b (0 * c + 1) 0 0 = omega arith in
    (ap (place_of to) s ∙ place_packed a b (0 * c + 1) 0 0 (omega arith) (omega arith) (omega arith) (omega arith) to, n)

moves_2_0_1 : Moves 2 0 1
moves_2_0_1 a b c d e row to number la lb lc ld le ln h =
    let k = kept_3 a b c d e la lb lc ld le in
    let n : 1 * c < number = omega arith in
    let s : packed a b c d e % 2 ^ kept_of 2 1 + (1 + 0 * 16384) * 2 ^ shift_of 2 ≡ packed a b (1 * c + 1) 0 0 = omega arith in
    (ap (place_of to) s ∙ place_packed a b (1 * c + 1) 0 0 (omega arith) (omega arith) (omega arith) (omega arith) to, n)

moves_2_1_0 : Moves 2 1 0
moves_2_1_0 a b c d e row to number la lb lc ld le ln h =
    let k = kept_2 a b c d e la lb lc ld le in
    let n : 0 * c < number = omega arith in
    let s : packed a b c d e % 2 ^ kept_of 2 0 + (1 + 1 * 16384) * 2 ^ shift_of 2 ≡ packed a b (0 * c + 1) 1 0 = omega arith in
    (ap (place_of to) s ∙ place_packed a b (0 * c + 1) 1 0 (omega arith) (omega arith) (omega arith) (omega arith) to, n)

moves_2_1_1 : Moves 2 1 1
moves_2_1_1 a b c d e row to number la lb lc ld le ln h =
    let k = kept_3 a b c d e la lb lc ld le in
    let n : 1 * c < number = omega arith in
    let s : packed a b c d e % 2 ^ kept_of 2 1 + (1 + 1 * 16384) * 2 ^ shift_of 2 ≡ packed a b (1 * c + 1) 1 0 = omega arith in
    (ap (place_of to) s ∙ place_packed a b (1 * c + 1) 1 0 (omega arith) (omega arith) (omega arith) (omega arith) to, n)

moves_3_0_0 : Moves 3 0 0
moves_3_0_0 a b c d e row to number la lb lc ld le ln h =
    let k = kept_3 a b c d e la lb lc ld le in
    let n : 0 * d < number = omega arith in
    let s : packed a b c d e % 2 ^ kept_of 3 0 + (1 + 0 * 16384) * 2 ^ shift_of 3 ≡ packed a b c (0 * d + 1) 0 = omega arith in
    (ap (place_of to) s ∙ place_packed a b c (0 * d + 1) 0 (omega arith) (omega arith) (omega arith) (omega arith) to, n)

moves_3_0_1 : Moves 3 0 1
moves_3_0_1 a b c d e row to number la lb lc ld le ln h =
    let k = kept_4 a b c d e la lb lc ld le in
    let n : 1 * d < number = omega arith in
    let s : packed a b c d e % 2 ^ kept_of 3 1 + (1 + 0 * 16384) * 2 ^ shift_of 3 ≡ packed a b c (1 * d + 1) 0 = omega arith in
    (ap (place_of to) s ∙ place_packed a b c (1 * d + 1) 0 (omega arith) (omega arith) (omega arith) (omega arith) to, n)

moves_3_1_0 : Moves 3 1 0
moves_3_1_0 a b c d e row to number la lb lc ld le ln h =
    let k = kept_3 a b c d e la lb lc ld le in
    let n : 0 * d < number = omega arith in
    let s : packed a b c d e % 2 ^ kept_of 3 0 + (1 + 1 * 16384) * 2 ^ shift_of 3 ≡ packed a b c (0 * d + 1) 1 = omega arith in
    (ap (place_of to) s ∙ place_packed a b c (0 * d + 1) 1 (omega arith) (omega arith) (omega arith) (omega arith) to, n)

moves_3_1_1 : Moves 3 1 1
moves_3_1_1 a b c d e row to number la lb lc ld le ln h =
    let k = kept_4 a b c d e la lb lc ld le in
    let n : 1 * d < number = omega arith in
    let s : packed a b c d e % 2 ^ kept_of 3 1 + (1 + 1 * 16384) * 2 ^ shift_of 3 ≡ packed a b c (1 * d + 1) 1 = omega arith in
    (ap (place_of to) s ∙ place_packed a b c (1 * d + 1) 1 (omega arith) (omega arith) (omega arith) (omega arith) to, n)

moves_4_0_0 : Moves 4 0 0
moves_4_0_0 a b c d e row to number la lb lc ld le ln h =
    let k = kept_4 a b c d e la lb lc ld le in
    let n : 0 * e < number = omega arith in
    let s : packed a b c d e % 2 ^ kept_of 4 0 + (1 + 0 * 16384) * 2 ^ shift_of 4 ≡ packed a b c d (0 * e + 1) = omega arith in
    (ap (place_of to) s ∙ place_packed a b c d (0 * e + 1) (omega arith) (omega arith) (omega arith) (omega arith) to, n)

moves_4_0_1 : Moves 4 0 1
moves_4_0_1 a b c d e row to number la lb lc ld le ln h =
    let k = kept_5 a b c d e la lb lc ld le in
    let n : 1 * e < number = omega arith in
    let s : packed a b c d e % 2 ^ kept_of 4 1 + (1 + 0 * 16384) * 2 ^ shift_of 4 ≡ packed a b c d (1 * e + 1) = omega arith in
    (ap (place_of to) s ∙ place_packed a b c d (1 * e + 1) (omega arith) (omega arith) (omega arith) (omega arith) to, n)

-- each number below two, and below five
pub two : (P : ℕ → Type 0) → P 0 → P 1 → (k : ℕ) → k < 2 → P k
two P x y zero h = x
two P x y (suc zero) h = y
two P x y (suc (suc k)) h = absurd (omega arith)

pub five : (P : ℕ → Type 0) → P 0 → P 1 → P 2 → P 3 → P 4 → (k : ℕ) → k < 5 → P k
five P v w x y z zero h = v
five P v w x y z (suc zero) h = w
five P v w x y z (suc (suc zero)) h = x
five P v w x y z (suc (suc (suc zero))) h = y
five P v w x y z (suc (suc (suc (suc zero)))) h = z
five P v w x y z (suc (suc (suc (suc (suc k))))) h = absurd (omega arith)

moves : (level deeper again : ℕ) → level + deeper < 5 → deeper < 2 → again < 2 → Moves level deeper again
moves level deeper again h l m =
    five (λ x. (d : ℕ) → d < 2 → x + d < 5 → (g : ℕ) → g < 2 → Moves x d g)
    (two (λ d. 0 + d < 5 → (g : ℕ) → g < 2 → Moves 0 d g) (λ _. two (Moves 0 0) moves_0_0_0 moves_0_0_1) (λ _. two (Moves 0 1) moves_0_1_0 moves_0_1_1))
    (two (λ d. 1 + d < 5 → (g : ℕ) → g < 2 → Moves 1 d g) (λ _. two (Moves 1 0) moves_1_0_0 moves_1_0_1) (λ _. two (Moves 1 1) moves_1_1_0 moves_1_1_1))
    (two (λ d. 2 + d < 5 → (g : ℕ) → g < 2 → Moves 2 d g) (λ _. two (Moves 2 0) moves_2_0_0 moves_2_0_1) (λ _. two (Moves 2 1) moves_2_1_0 moves_2_1_1))
    (two (λ d. 3 + d < 5 → (g : ℕ) → g < 2 → Moves 3 d g) (λ _. two (Moves 3 0) moves_3_0_0 moves_3_0_1) (λ _. two (Moves 3 1) moves_3_1_0 moves_3_1_1))
    (two (λ d. 4 + d < 5 → (g : ℕ) → g < 2 → Moves 4 d g) (λ _. two (Moves 4 0) moves_4_0_0 moves_4_0_1) (λ q. absurd (omega arith)))
    level (omega arith) deeper l h again m

-- a kind that is one: what the numbers of a table are
abbrev pub sound_kind : Kind → Bool
sound_kind x = both (ltb (x.level + x.deeper) 5) (both (ltb x.deeper 2) (both (ltb x.again 2) (ltb x.number 16384)))

module _ (x : Kind) (g : sound_kind x ≡ true) where
  pub sound_parts : (x.level + x.deeper < 5) × (x.deeper < 2) × (x.again < 2) × (x.number < 16384)
  sound_parts =
      let p = both_parts (ltb (x.level + x.deeper) 5) (both (ltb x.deeper 2) (both (ltb x.again 2) (ltb x.number 16384))) g in
      let q = both_parts (ltb x.deeper 2) (both (ltb x.again 2) (ltb x.number 16384)) p.1 in
      let r = both_parts (ltb x.again 2) (ltb x.number 16384) q.1 in
      (ltb-true (x.level + x.deeper) 5 p.0, ltb-true x.deeper 2 q.0, ltb-true x.again 2 r.0, ltb-true x.number 16384 r.1)

  pub moved_packed : (row to n : ℕ) → n < 18446744073709551616 → n % 2 ^ kept_bits x < x.number * 2 ^ shift_of x.level
      → (place_of to (n % 2 ^ kept_bits x + (1 + x.deeper * 16384) * 2 ^ shift_of x.level)
      ≡ reached_of (place_of row n) x.level (x.again * count_at (place_of row n) x.level + 1) to (x.level + x.deeper))
      × (x.again * count_at (place_of row n) x.level < x.number)
  moved_packed row to n b h =
      let p = sound_parts in
      let m = moves x.level x.deeper x.again p.0 p.1 p.2 (n % 16384) (n / 16384 % 16384) (n / 268435456 % 16384) (n / 4398046511104 % 16384) (n / 72057594037927936)
      row to x.number (omega arith) (omega arith) (omega arith) (omega arith) (omega arith) p.3 in
      subst
      (λ y. y % 2 ^ kept_bits x < x.number * 2 ^ shift_of x.level
      → (place_of to (y % 2 ^ kept_bits x + (1 + x.deeper * 16384) * 2 ^ shift_of x.level)
      ≡ reached_of (place_of row n) x.level (x.again * count_at (place_of row n) x.level + 1) to (x.level + x.deeper))
      × (x.again * count_at (place_of row n) x.level < x.number))
      (sym (packed_bits n)) m h
