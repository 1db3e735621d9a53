-- The laws of calendars: a day selected.
-- Assumes nothing.
use Rattle.std.specs.Prelude.{◌≡◌, true, false, List, ℕ, ◌/◌, ◌%◌, ◌<◌, ◌≤◌, length, get_or}
use Rattle.std.proofs.Common.{arith, length-set, get_or-set_other}
use Rattle.std.proofs.Math.Decide.{ℕ_discrete}
use Rattle.std.proofs.Math.ListN.{get_or-eq_default}
use Rattle.std.proofs.Math.Seq.{get_or-set_same, set_out}
use Rattle.calendar.specs.Days.{with_bit, day, with_day}
use Rattle.calendar.specs.Bits.{bit_none, bit_same, bit_other}

-- past the end no day is selected, and none can be
pub day_past : (c : List ℕ) (k : ℕ) → length c ≤ k / 8 → day c k ≡ false
unfolding day
day_past c k h = rw (get_or-eq_default c 0 h) (bit_none (k % 8) (omega arith))

pub with_past : (c : List ℕ) (k : ℕ) → length c ≤ k / 8 → with_day c k ≡ c
unfolding with_day
with_past c k h = set_out c (k / 8) (with_bit (get_or c (k / 8) 0) (k % 8)) h

pub length_with : (c : List ℕ) (k : ℕ) → length (with_day c k) ≡ length c
unfolding with_day
length_with c k = simp length-set

module _ (c : List ℕ) (k : ℕ) (h : k / 8 < length c) where
  -- the day selected is selected,
  pub day_same : day (with_day c k) k ≡ true
  unfolding day with_day
  day_same =
      rw (get_or-set_same c (k / 8) (with_bit (get_or c (k / 8) 0) (k % 8)) 0 h)
      (bit_same (get_or c (k / 8) 0) (k % 8) (omega arith))

  -- and every other as it was
  pub day_other : (j : ℕ) → (j ≡ k → ⊥) → day (with_day c k) j ≡ day c j
  unfolding day with_day
  day_other j ne =
      elim (ℕ_discrete (j / 8) (k / 8)) [
        | yes e ↦ rw (e, get_or-set_same c (k / 8) (with_bit (get_or c (k / 8) 0) (k % 8)) 0 h) (bit_other (get_or c (k / 8) 0) (k % 8) (j % 8) (omega arith) (omega arith) (λ q. ne (omega arith)))
        | no e ↦ rw (get_or-set_other c (k / 8) (j / 8) (with_bit (get_or c (k / 8) 0) (k % 8)) 0 e)
      ]
