-- Where a number is found among slots in order, and what is put there.
-- Assumes nothing.
use Rattle.std.specs.Prelude.{◌≡◌, ℕ, true, take, Result, Ok, Err}
use Rattle.std.proofs.Math.Path.{refl, ap}
use Rattle.std.proofs.Common.{sym, ◌∙◌, zero-add, le_of_suc-le-suc, not-suc-le-zero}
use mathlib.Core.List.{List, [], ◌∷◌, ◌++◌}
use Prim.Native.Nat.{ℕ, zero, suc, ◌+◌, ◌-◌, ◌/◌, ◌≤◌, ◌<◌, suc-le-suc}
use native.Mathlib.Omega.{arith}
use Rattle.std.proofs.Math.Nat.{add-zero}
use Rattle.std.proofs.Math.Decide.{dec_lt}
use borrow.Author.Tests.{eq-eqb, ne_eqb}
use Rattle.std.proofs.Math.ListN.{length, get_or, get_or-append}
use Rattle.std.proofs.Math.Seq.{get_or-append-add}
use Rattle.laws.specs.Choice.{both_parts, false≢true}
use Rattle.std.specs.declared.cmp.Ordering.{Ordering}
use Rattle.std.specs.declared.cmp.Ordering.TheVariants.{Less, Equal, Greater}
use Rattle.slots.specs.Order.{order_of}
use Rattle.slots.specs.Find.{number_order, slot_order, halve, find_of}
use Rattle.slots.specs.Rising.{is_before, rises, before_next, rising}
use Rattle.records.specs.Order.{after≢before, before_trans}
use Rattle.records.specs.Linear.{by_order, walk, Lined, halve_walk}
use Rattle.laws.specs.Joined.{joined, Each, each_append, length_each}
use Rattle.records.specs.Joined.{slots_joined}

-- a number's slot among slots, from the first on; k is the first one's index
unfoldable pub find_in : List ℕ → List (List ℕ) → ℕ → Result ℕ ℕ
find_in x [] k = Err k
find_in x (r ∷ rs) k = by_order (number_order x r) (find_in x rs (suc k)) (Ok k) (Err k)

-- every slot is used
abbrev pub Used : List (List ℕ) → Type 0
Used [] = Unit {0}
Used (r ∷ rs) = (get_or r 0 0 ≡ 0 → ⊥) × Used rs

-- every slot is unused
abbrev pub Unused : List (List ℕ) → Type 0
Unused [] = Unit {0}
Unused (r ∷ rs) = (get_or r 0 0 ≡ 0) × Unused rs

module _ (x : List ℕ) where
  -- the walk by index is the walk along the list
  walk_in : (ord : ℕ → Ordering) (rs : List (List ℕ)) (k : ℕ) → ((i : ℕ) → i < length rs → ord (k + i) ≡ number_order x (get_or rs i [])) → walk ord (length rs) k ≡ find_in x rs k
  unfolding walk find_in
  walk_in ord [] k h = refl
  walk_in ord (r ∷ rs) k h =
      let e : ord k ≡ number_order x r = (rw add-zero at (h 0 (omega arith))) in
      rw e
      (ap (λ (f : Result ℕ ℕ). by_order (number_order x r) f (Ok k) (Err k))
      (walk_in ord rs (suc k) (λ i l. let e₂ : suc k + i ≡ k + suc i = omega arith in rw e₂ (h (suc i) (suc-le-suc l)))))

  -- unused slots at the end are not looked at
  pub find_padded : (rs zs : List (List ℕ)) (k : ℕ) → Unused zs → find_in x (rs ++ zs) k ≡ find_in x rs k
  unfolding find_in number_order
  find_padded [] [] k u = refl
  find_padded [] (z ∷ zs) k u = rw (number_order, eq-eqb (get_or z 0 0) 0 u.0)
  find_padded (r ∷ rs) zs k u = ap (λ (f : Result ℕ ℕ). by_order (number_order x r) f (Ok k) (Err k)) (find_padded rs zs (suc k) u)

  -- halving finds what the walk finds, where the slots are lined up
  pub find_lined : (rs : List (List ℕ)) → Each 140 rs → Lined (λ k. number_order x (get_or rs k [])) (length rs) → find_of (joined rs) x ≡ find_in x rs 0
  unfolding find_of slot_order
  find_lined rs e l =
      let n : length (joined rs) / 140 ≡ length rs = let j = length_each 140 rs e in omega arith in
      ap (λ (ss : List (List ℕ)). halve (λ k. number_order x (get_or ss k [])) (length (joined rs) / 140) 0 (length (joined rs) / 140)) (slots_joined rs e)
      ∙ rw n
      (ap (halve (λ k. number_order x (get_or rs k [])) (length rs) 0) (sym (zero-add (length rs)))
      ∙ halve_walk (λ k. number_order x (get_or rs k [])) (length rs) l (length rs) 0 (length rs) (omega arith) (omega arith)
      ∙ walk_in (λ k. number_order x (get_or rs k [])) rs 0 (λ i h. ap (λ (j : ℕ). number_order x (get_or rs j [])) (zero-add i)))

-- ---- slots whose numbers rise are lined up

pub is_before_lem : (o : Ordering) → is_before o ≡ true → o ≡ Less
is_before_lem Less q = refl
is_before_lem Equal q = absurd (false≢true q)
is_before_lem Greater q = absurd (false≢true q)

pub used_at : (rs : List (List ℕ)) (k : ℕ) → Used rs → k < length rs → get_or (get_or rs k []) 0 0 ≡ 0 → ⊥
used_at [] k u h = absurd (not-suc-le-zero h)
used_at (r ∷ rs) zero u h = u.0
used_at (r ∷ rs) (suc k) u h = used_at rs k u.1 (le_of_suc-le-suc h)

pub unused_at : (zs : List (List ℕ)) (k : ℕ) → Unused zs → get_or (get_or zs k []) 0 0 ≡ 0
unused_at [] k u = refl
unused_at (z ∷ zs) zero u = u.0
unused_at (z ∷ zs) (suc k) u = unused_at zs k u.1

-- the first comes before each other
pub first_before : (r : List ℕ) (rs : List (List ℕ)) → rising (r ∷ rs) ≡ true → (j : ℕ) → j < length rs → order_of (take 10 r) (take 10 (get_or rs j [])) ≡ Less
unfolding rising rises
first_before r [] q j h = absurd (not-suc-le-zero h)
first_before r (p ∷ rs) q zero h = is_before_lem _ (both_parts _ _ q).0
first_before r (p ∷ rs) q (suc j) h =
    let w = both_parts (rises r p) (rising (p ∷ rs)) q in
    before_trans (take 10 r) (take 10 p) (take 10 (get_or rs j []))
    (is_before_lem _ w.0)
    (λ a. after≢before (sym a ∙ first_before p rs w.1 j (le_of_suc-le-suc h)))

pub rising_apart : (rs : List (List ℕ)) → rising rs ≡ true → (i j : ℕ) → i < j → j < length rs → order_of (take 10 (get_or rs i [])) (take 10 (get_or rs j [])) ≡ Less
unfolding rising
rising_apart [] q i j h k = absurd (not-suc-le-zero k)
rising_apart (r ∷ rs) q i zero h k = absurd (not-suc-le-zero h)
rising_apart (r ∷ rs) q zero (suc j) h k = first_before r rs q j (le_of_suc-le-suc k)
rising_apart (r ∷ rs) q (suc i) (suc j) h k = rising_apart rs (both_parts (before_next r rs) (rising rs) q).1 i j (le_of_suc-le-suc h) (le_of_suc-le-suc k)

module _ (x : List ℕ) (rs zs : List (List ℕ)) (u : Used rs) (z : Unused zs) where
  used_order : (k : ℕ) → k < length rs → number_order x (get_or (rs ++ zs) k []) ≡ order_of (take 10 (get_or rs k [])) x
  unfolding number_order
  used_order k h = rw (get_or-append rs zs [] k h, ne_eqb (get_or (get_or rs k []) 0 0) 0 (used_at rs k u h))

  unused_order : (k : ℕ) → length rs ≤ k → number_order x (get_or (rs ++ zs) k []) ≡ Greater
  unfolding number_order
  unused_order k h =
      let e : k ≡ length rs + (k - length rs) = omega arith in
      let g : get_or (rs ++ zs) k [] ≡ get_or zs (k - length rs) [] = ap (λ (j : ℕ). get_or (rs ++ zs) j []) e ∙ get_or-append-add rs zs (k - length rs) [] in
      rw (g, eq-eqb (get_or (get_or zs (k - length rs) []) 0 0) 0 (unused_at zs (k - length rs) z))

  rising_lined : rising rs ≡ true → Lined (λ k. number_order x (get_or (rs ++ zs) k [])) (length (rs ++ zs))
  rising_lined q i j h k n =
      elim (dec_lt j (length rs)) [
        | yes l ↦
            used_order i (omega arith)
            ∙ before_trans (take 10 (get_or rs i [])) (take 10 (get_or rs j [])) x (rising_apart rs q i j h l) (λ a. n (used_order j l ∙ a))
        | no l ↦ absurd (n (unused_order j (omega arith)))
      ]

  -- the law: in a room of used slots whose numbers rise, then unused ones, halving finds what a walk along the used ones finds
  pub find_rising : rising rs ≡ true → Each 140 rs → Each 140 zs → find_of (joined (rs ++ zs)) x ≡ find_in x rs 0
  find_rising q e f = find_lined x (rs ++ zs) (each_append 140 rs zs e f) (rising_lined q) ∙ find_padded x rs zs 0 z
