-- Zeros.
-- Assumes nothing.
use Rattle.std.specs.Prelude.{◌≡◌, ◌*◌, Bool, true, eqb, get_or, take, drop, replicate}
use Rattle.std.specs.Simd.{first_chunks}
use Rattle.std.proofs.Common.{refl, sym, ap, ◌∙◌, add-one, drop_of_length-le, drop-drop, length-take, length-drop}
use Rattle.std.proofs.Math.Nat.{zero-mul}
use borrow.Rule.Slice.PartMut.{put_mid}
use mathlib.Core.List.{List, [], ◌∷◌, ◌++◌, append-nil}
use Prim.Native.Nat.{ℕ, zero, suc, ◌+◌, ◌-◌, ◌≤◌, ◌<◌}
use native.Mathlib.Omega.{arith}
use Rattle.std.specs.Int.Bits.{bit_or}
use Rattle.std.proofs.Math.ListN.{length}
use Rattle.std.proofs.Math.Seq.{drop-cons, take_all}
use Rattle.laws.specs.Choice.{both, both_true, both_assoc}
use Rattle.laws.specs.Words.{or_zero}

-- whether all bytes are 0
unfoldable pub all_zero : List ℕ → Bool
all_zero [] = true
all_zero (b ∷ l) = both (eqb b 0) (all_zero l)

-- whether the bits gathered are 0, and all bytes from an index on
abbrev pub zero_on : List ℕ → ℕ → ℕ → Bool
zero_on s i gathered = both (eqb gathered 0) (all_zero (drop i s))

-- the bytes before an index, and zeros from there on
unfoldable pub zero_from : List ℕ → ℕ → List ℕ
zero_from s from = take from s ++ replicate (length s - from) 0

-- ---- for `is_zero`: bits gathered from the bytes that were passed are 0 exactly when these are

module _ (s : List ℕ) (i gathered : ℕ) where
  pub zero_step : i < length s → both (eqb (bit_or gathered (get_or s i 0)) 0) (all_zero (drop (i + 1) s)) ≡ both (eqb gathered 0) (all_zero (drop i s))
  unfolding all_zero
  zero_step h = rw (add-one, drop-cons s i 0 h, or_zero gathered (get_or s i 0)) (both_assoc (eqb gathered 0) (eqb (get_or s i 0) 0) (all_zero (drop (suc i) s)))

  pub zero_end : length s ≤ i → eqb gathered 0 ≡ both (eqb gathered 0) (all_zero (drop i s))
  unfolding all_zero
  zero_end h = rw (drop_of_length-le s h) (sym (both_true (eqb gathered 0)))

-- ---- for `is_zero`: the bytes in runs of one length, and what is left

unfoldable pub zero_runs : List (List ℕ) → Bool
zero_runs [] = true
zero_runs (x ∷ l) = both (all_zero x) (zero_runs l)

zero_parts : (n : ℕ) (s : List ℕ) → both (all_zero (take n s)) (all_zero (drop n s)) ≡ all_zero s
unfolding all_zero
zero_parts zero s = refl
zero_parts (suc n) [] = refl
zero_parts (suc n) (b ∷ s) = both_assoc (eqb b 0) (all_zero (take n s)) (all_zero (drop n s)) ∙ ap (both (eqb b 0)) (zero_parts n s)

pub in_runs : (n k : ℕ) (s : List ℕ) → both (zero_runs (first_chunks n k s)) (all_zero (drop (k * n) s)) ≡ all_zero s
unfolding zero_runs
in_runs n zero s = rw zero-mul
in_runs n (suc k) s =
    let e : suc k * n ≡ n + k * n = omega arith in
    rw (e, ← drop-drop (k * n) n s, both_assoc (all_zero (take n s)) (zero_runs (first_chunks n k (drop n s))) (all_zero (drop (k * n) (drop n s))), in_runs n k (drop n s))
    (zero_parts n s)

-- one run more
module _ (l : List (List ℕ)) (i : ℕ) (before all : Bool) where
  pub run_step : i < length l → all ≡ both before (all_zero (get_or l i [])) → both all (zero_runs (drop (i + 1) l)) ≡ both before (zero_runs (drop i l))
  unfolding zero_runs
  run_step h q = rw (add-one, drop-cons l i [] h, q) (both_assoc before (all_zero (get_or l i [])) (zero_runs (drop (suc i) l)))

pub runs_end : (l : List (List ℕ)) (i : ℕ) (all : Bool) → length l ≤ i → all ≡ both all (zero_runs (drop i l))
unfolding zero_runs
runs_end l i all h = rw (drop_of_length-le l h) (sym (both_true all))

-- ---- for `clear_from`

module _ (s : List ℕ) (i : ℕ) where
  pub cleared : (last : List ℕ) → i < length s → last ≡ replicate (length (take (length s - i) (drop i s))) 0 → put_mid i (length s - i) s last ≡ zero_from s i
  unfolding zero_from
  cleared last h q =
      let l : length (take (length s - i) (drop i s)) ≡ length s - i = omega (arith, length-take {A = ℕ}, length-drop {A = ℕ}) in
      rw (q, l, drop-drop (length s - i) i s, drop_of_length-le s {i = i + (length s - i)} (omega arith), append-nil)

  pub none_cleared : length s ≤ i → s ≡ zero_from s i
  unfolding zero_from
  none_cleared h =
      let e : length s - i ≡ 0 = omega arith in
      sym (rw (e, append-nil, take_all i s h))
