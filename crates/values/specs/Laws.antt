-- The steps of reading a part after release by its indexes.
-- Assumes nothing.
use Rattle.std.specs.Prelude.{◌≡◌, refl, true, eqb, length, drop, get_or, Option, Some, None}
use Rattle.std.proofs.Common.{sym, ap, ◌∙◌, length-drop, drop-drop}
use Rattle.std.proofs.lemmas.Option.{none-some, same_Some}
use mathlib.Core.List.{List, [], ◌∷◌}
use Prim.Native.Nat.{ℕ, suc, ◌+◌, ◌-◌, ◌≤◌, ◌<◌}
use native.Mathlib.Omega.{arith}
use borrow.Author.Tests.{eq-eqb, ne_eqb}
use Rattle.laws.specs.Choice.{choose}
use Rattle.laws.specs.Lists.{drop_here, drop_past}
use Rattle.syntax.specs.Bytes.{plain, plain_on}
use Rattle.values.specs.declared.Next.{Next}
use Rattle.values.specs.Values.{past_release, next_on, next_at}

-- a byte, and the index past it
abbrev pub byte_to : ℕ → ℕ → Option Next
byte_to b k = Some (record { byte = b; past = k })

module _ (s : List ℕ) (i : ℕ) where
  pub next_past : length s ≤ i → None ≡ next_at s i
  unfolding next_at
  next_past h = rw (drop_past s i h)

  module _ (h : i < length s) where
    pub next_bare : (get_or s i 0 ≡ 63 → ⊥) → byte_to (get_or s i 0) (i + 1) ≡ next_at s i
    unfolding next_at
    next_bare e = rw (drop_here s i h, ne_eqb (get_or s i 0) 63 e)

    pub next_none : get_or s i 0 ≡ 63 → length s ≤ i + 1 → None ≡ next_at s i
    unfolding next_at
    next_none e g = rw (drop_here s i h, eq-eqb (get_or s i 0) 63 e, drop_past s (i + 1) g)

    pub next_released : get_or s i 0 ≡ 63 → i + 1 < length s → byte_to (get_or s (i + 1) 0) (i + 1 + 1) ≡ next_at s i
    unfolding next_at
    next_released e g = rw (drop_here s i h, eq-eqb (get_or s i 0) 63 e, drop_here s (i + 1) g)

-- what is found is the first byte after release, and the rest follows past it
byte_is : (a j b k : ℕ) → byte_to a j ≡ byte_to b k → (a ≡ b) × (j ≡ k)
byte_is a j b k q =
    let e : ◌≡◌ {A = Next} (record { byte = a; past = j }) (record { byte = b; past = k }) = same_Some _ _ q in
    (ap (λ (x : Next). x.byte) e, ap (λ (x : Next). x.past) e)

module _ (i b k : ℕ) where
  released : (l : List ℕ) → past_release i l ≡ byte_to b k → (plain_on true l ≡ b ∷ plain (drop (k - (i + 1)) l)) × (i < k) × (k ≤ i + 1 + length l)
  unfolding plain_on
  released [] q = absurd (none-some _ q)
  released (c ∷ l) q =
      let w = byte_is c (i + 1 + 1) b k q in
      let e : k - (i + 1) ≡ 1 = omega arith in
      (rw (e, w.0), omega arith, omega arith)

  pub next_on_lem : (l : List ℕ) → next_on i l ≡ byte_to b k → (plain l ≡ b ∷ plain (drop (k - i) l)) × (i < k) × (k ≤ i + length l)
  unfolding plain_on
  next_on_lem [] q = absurd (none-some _ q)
  next_on_lem (a ∷ l) q =
      choose (eqb a 63)
      (λ p.
      let w = released l (rw p at q) in
      let e : k - i ≡ suc (k - (i + 1)) = omega arith in
      (rw (e, p) w.0, omega arith, omega arith))
      (λ p.
      let w = byte_is a (i + 1) b k (rw p at q) in
      let e : k - i ≡ 1 = omega arith in
      (rw (e, p, w.0), omega arith, omega arith))

pub nothing_on : (i : ℕ) (l : List ℕ) → next_on i l ≡ None → plain l ≡ []
unfolding plain_on
nothing_on i [] q = refl
nothing_on i (a ∷ []) q = choose (eqb a 63) (λ p. rw p) (λ p. absurd (none-some _ (sym (rw p at q))))
nothing_on i (a ∷ c ∷ l) q =
    choose (eqb a 63) (λ p. absurd (none-some _ (sym (rw p at q)))) (λ p. absurd (none-some _ (sym (rw p at q))))

pub record Follows (s : List ℕ) (i b k : ℕ) : Type 0 where
  pub text : plain (drop i s) ≡ b ∷ plain (drop k s)
  pub further : i < k
  pub inside : k ≤ length s

pub next_text : (s : List ℕ) (i b k : ℕ) → next_at s i ≡ byte_to b k → plain (drop i s) ≡ b ∷ plain (drop k s)
unfolding next_at
next_text s i b k q =
    let w = next_on_lem i b k (drop i s) q in
    let e : i + (k - i) ≡ k = omega arith in
    w.0 ∙ ap (λ (x : List ℕ). b ∷ plain x) (drop-drop (k - i) i s ∙ ap (λ (x : ℕ). drop x s) e)

pub next_byte : (s : List ℕ) (i b k : ℕ) → i < length s → next_at s i ≡ byte_to b k → Follows s i b k
unfolding next_at
next_byte s i b k h q =
    let w = next_on_lem i b k (drop i s) q in
    let d = length-drop i s in
    record { text = next_text s i b k q; further = w.1; inside = omega arith }

pub next_done : (s : List ℕ) (i : ℕ) → next_at s i ≡ None → plain (drop i s) ≡ []
unfolding next_at
next_done s i q = nothing_on i (drop i s) q

pub next_some : (s : List ℕ) (i b k : ℕ) → next_at s i ≡ byte_to b k → plain (drop i s) ≡ [] → ⊥
unfolding next_at
next_some s i b k q e = let w : b ∷ plain (drop (k - i) (drop i s)) ≡ [] = sym (next_on_lem i b k (drop i s) q).0 ∙ e in cc

pub plain_past : (s : List ℕ) (i : ℕ) → length s ≤ i → plain (drop i s) ≡ []
unfolding plain_on
plain_past s i h = rw (drop_past s i h)
