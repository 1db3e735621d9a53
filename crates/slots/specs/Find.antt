-- A number's slot, by halving.
-- Assumes nothing.
use Rattle.std.specs.Prelude.{◌≡◌, ℕ, zero, suc, ◌+◌, ◌-◌, ◌*◌, ◌/◌, ◌<◌, ◌≤◌, List, [], length, get_or, take, drop, ◌==◌, ◌≢◌, nat_lt, slice_index, slice_index_or, Result, Ok, Err}
use Rattle.std.proofs.Math.Path.{refl}
use Rattle.std.proofs.Common.{ap, lit≤}
use native.Mathlib.Omega.{arith}
use Rattle.std.proofs.Math.Seq.{take-take}
use borrow.Author.Tests.{lt-ltb, le-ltb, ltb-true, eq-eqb, ne_eqb}
use Rattle.std.specs.declared.cmp.Ordering.{Ordering}
use Rattle.std.specs.declared.cmp.Ordering.TheVariants.{Less, Equal, Greater}
use Rattle.laws.specs.Choice.{pick, choose}
use Rattle.slots.specs.Order.{order_of}
use Rattle.slots.specs.Slots.{slots_of, slot_at, first_byte}

-- how a slot stands to a number: a slot that is not used comes after every number
unfoldable pub number_order : List ℕ → List ℕ → Ordering
number_order x slot = pick (slice_index slot 0 == 0) Greater (order_of (take 10 slot) x)

-- where the middle one comes before, on the right of it; where after, on the left
abbrev pub half_of : (ℕ → ℕ → Result ℕ ℕ) → ℕ → ℕ → ℕ → Ordering → Result ℕ ℕ
half_of next lo hi mid Less = next (mid + 1) hi
half_of next lo hi mid Equal = Ok mid
half_of next lo hi mid Greater = next lo mid

-- `ord k` is how the k-th stands to what is looked for; the first number bounds the halvings
unfoldable pub halve : (ℕ → Ordering) → ℕ → ℕ → ℕ → Result ℕ ℕ
halve ord zero lo hi = Err lo
halve ord (suc f) lo hi = pick (nat_lt lo hi) (half_of (halve ord f) lo hi (lo + (hi - lo) / 2) (ord (lo + (hi - lo) / 2))) (Err lo)

-- how the k-th slot of a room stands to a number
unfoldable pub slot_order : List ℕ → List ℕ → ℕ → Ordering
slot_order s x k = number_order x (slice_index_or (slots_of s) k [])

-- what `find` answers on any bytes
unfoldable pub find_of : List ℕ → List ℕ → Result ℕ ℕ
find_of s x = halve (slot_order s x) (length s / 140) 0 (length s / 140)

-- ---- for the code

module _ (s x : List ℕ) (at : ℕ) where
  pub unused_after : get_or s at 0 ≡ 0 → Greater ≡ number_order x (take 140 (drop at s))
  unfolding number_order
  unused_after q = rw (first_byte s at, eq-eqb _ _ q)

  pub used_order : (slice_index s at ≢ 0) → (n : ℕ) → n ≡ 10 → order_of (take n (drop at s)) x ≡ number_order x (take 140 (drop at s))
  unfolding number_order
  used_order q n e = rw (first_byte s at, ne_eqb _ _ q, take-take 10 140 (drop at s) (lit≤ tt), e)

pub slot_order_lem : (s x : List ℕ) (k : ℕ) → k < length s / 140 → slot_order s x k ≡ number_order x (take 140 (drop (k * 140) s))
unfolding slot_order
slot_order_lem s x k h = ap (number_order x) (slot_at s k h)

module _ (ord : ℕ → Ordering) where
  pub halve_end : (f lo hi : ℕ) → hi ≤ lo → Err lo ≡ halve ord f lo hi
  unfolding halve
  halve_end zero lo hi h = refl
  halve_end (suc f) lo hi h = rw (le-ltb lo hi h)

  pub halve_step : (f lo hi : ℕ) (o : Ordering) → lo < hi → hi ≤ lo + f → o ≡ ord (lo + (hi - lo) / 2) → half_of (halve ord (f - 1)) lo hi (lo + (hi - lo) / 2) o ≡ halve ord f lo hi
  unfolding halve
  halve_step zero lo hi o h k q = absurd (omega arith)
  halve_step (suc f) lo hi o h k q =
      let e : suc f - 1 ≡ f = omega arith in
      rw (lt-ltb lo hi h, e, q)

  -- where all come after, before the first
  pub halve_after : (n : ℕ) → ((k : ℕ) → k < n → Greater ≡ ord k) → (f lo hi : ℕ) → hi ≤ n → Err lo ≡ halve ord f lo hi
  unfolding halve
  halve_after n a zero lo hi h = refl
  halve_after n a (suc f) lo hi h =
      choose (nat_lt lo hi)
      (λ p.
      let t = ltb-true lo hi p in
      rw (p, ← a (lo + (hi - lo) / 2) (omega arith)) (halve_after n a f lo (lo + (hi - lo) / 2) (omega arith)))
      (λ p. rw p)

-- ---- on any bytes what is found is in range

-- a slot that is found is one of n, and a gap is before one of them or behind the last
abbrev pub Within : ℕ → Result ℕ ℕ → Type 0
Within n (Ok k) = k < n
Within n (Err k) = k ≤ n

module _ (ord : ℕ → Ordering) (n : ℕ) where
  half_within : (f : ℕ) → ((lo hi : ℕ) → lo ≤ n → hi ≤ n → Within n (halve ord f lo hi)) → (lo hi mid : ℕ) → lo ≤ n → hi ≤ n → mid < n → (o : Ordering) → Within n (half_of (halve ord f) lo hi mid o)
  half_within f ih lo hi mid l h m Less = ih (mid + 1) hi (omega arith) h
  half_within f ih lo hi mid l h m Equal = m
  half_within f ih lo hi mid l h m Greater = ih lo mid l (omega arith)

  halve_within : (f lo hi : ℕ) → lo ≤ n → hi ≤ n → Within n (halve ord f lo hi)
  unfolding halve
  halve_within zero lo hi l h = l
  halve_within (suc f) lo hi l h =
      choose (nat_lt lo hi)
      (λ p.
      let t = ltb-true lo hi p in
      rw p (half_within f (halve_within f) lo hi (lo + (hi - lo) / 2) l h (omega arith) (ord (lo + (hi - lo) / 2))))
      (λ p. rw p l)

pub find_within : (s x : List ℕ) → Within (length s / 140) (find_of s x)
unfolding find_of
find_within s x = halve_within (slot_order s x) (length s / 140) (length s / 140) 0 (length s / 140) (omega arith) (omega arith)
