-- The head's numbers, byte by byte, for the code that reads them.
-- Assumes nothing.
use Rattle.std.specs.Prelude.{◌≡◌, ℕ, zero, suc, ◌+◌, ◌-◌, ◌*◌, ◌≤◌, ◌<◌, length, get_or, drop}
use Rattle.std.proofs.Math.Path.{refl, sym, ap}
use Rattle.std.proofs.Common.{◌∙◌, le_of_suc-le-suc, not-suc-le-zero, take_all}
use mathlib.Core.List.{List}
use native.Mathlib.Omega.{arith}
use Rattle.std.proofs.Math.Numerals.{add-one}
use Rattle.std.proofs.Math.Seq.{get_or-drop}
use Rattle.laws.specs.Joined.{total}
use Rattle.contents.specs.Written.{numbers_in, held}
use Rattle.rooms.specs.Layout.{total_more}
use Rattle.rooms.specs.Views.{quotas_in, room_start, room_end}

-- two bytes, the lower first
abbrev pub number_at : List ℕ → ℕ → ℕ
number_at b at = get_or b at 0 + 256 * get_or b (at + 1) 0

length_numbers : (n : ℕ) (b : List ℕ) → length (numbers_in n b) ≡ n
unfolding numbers_in
length_numbers zero b = refl
length_numbers (suc n) b = ap suc (length_numbers n (drop 2 b))

number_in : (n : ℕ) (b : List ℕ) (k : ℕ) → k < n → get_or (numbers_in n b) k 0 ≡ number_at b (k * 2)
unfolding numbers_in
number_in zero b k h = absurd (not-suc-le-zero h)
number_in (suc n) b zero h = refl
number_in (suc n) b (suc k) h =
    let e : 2 + k * 2 ≡ suc k * 2 = omega arith in
    let e₂ : 2 + (k * 2 + 1) ≡ suc k * 2 + 1 = omega arith in
    number_in n (drop 2 b) k (le_of_suc-le-suc h) ∙ rw (get_or-drop 2 b (k * 2) 0, get_or-drop 2 b (k * 2 + 1) 0, e, e₂)

pub first_told : (b : List ℕ) → number_at b 0 ≡ (held b).first
unfolding held
first_told b = refl

module _ (b : List ℕ) where
  eight : length (quotas_in b) ≡ 8
  unfolding quotas_in
  eight = length_numbers 8 (drop 2 b)

  quota_at : (k : ℕ) → k < 8 → get_or (quotas_in b) k 0 ≡ number_at b (2 + k * 2)
  unfolding quotas_in
  quota_at k h =
      let e : 2 + (k * 2 + 1) ≡ 2 + k * 2 + 1 = omega arith in
      number_in 8 (drop 2 b) k h ∙ rw (get_or-drop 2 b (k * 2) 0, get_or-drop 2 b (k * 2 + 1) 0, e)

  -- one room more
  pub end_zero : 18 ≡ room_end b 0
  unfolding room_end total
  end_zero = refl

  pub end_more : (k n : ℕ) → k < 8 → n ≡ number_at b (2 + k * 2) → room_end b k + n * 140 ≡ room_end b (k + 1)
  unfolding room_end
  end_more k n h e =
      let l = eight in
      let t = total_more (quotas_in b) k (omega arith) in
      let q = quota_at k h in
      rw add-one (omega arith)

  -- behind the last account no room follows
  pub end_last : (account : ℕ) → 8 ≤ account → room_end b 8 ≡ room_end b account
  unfolding room_end
  end_last account h =
      let l = eight in
      ap (λ (qs : List ℕ). 18 + total qs * 140) (take_all 8 (quotas_in b) (omega arith) ∙ sym (take_all account (quotas_in b) (omega arith)))

  pub start_end : (account : ℕ) → room_end b (account - 1) ≡ room_start b account
  unfolding room_end room_start
  start_end account = refl
