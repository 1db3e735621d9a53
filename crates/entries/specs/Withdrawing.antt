-- The laws of a withdrawal for the code.
-- Assumes nothing.
use Rattle.std.specs.Prelude.{◌≡◌, true, false, List, ◌++◌, ℕ, zero, suc, ◌+◌, ◌-◌, ◌*◌, ◌/◌, ◌≤◌, ◌<◌, length, get_or, drop, replicate, Result, Ok, Err}
use Rattle.std.proofs.Math.Path.{sym}
use Rattle.std.proofs.Common.{◌∙◌, ap, subst, arith}
use Rattle.std.proofs.Math.Nat.{sub-zero, zero-sub}
use borrow.Author.Tests.{eq-eqb, ne_eqb, le-leb, lt-leb}
use Rattle.std.proofs.Math.ListN.{length-replicate}
use Rattle.laws.specs.Choice.{all}
use Rattle.laws.specs.Put.{put_at, put_room, put_front}
use Rattle.laws.specs.Filled.{filled_up}
use Rattle.gaps.specs.Move.{closed_in, closed_fits}
use Rattle.slots.specs.Find.{find_of, Within, find_within}
use Rattle.syntax.specs.Bytes.{permitted_of}
use Rattle.contents.specs.Contents.{good_number}
use Rattle.entries.specs.Withdraw.{slot_found, withdraws_at, left_at, withdraws, withdrawn_room}

-- ---- for `is_number`

module _ (x : List ℕ) where
  pub number_none : length x < 1 → false ≡ good_number x
  unfolding good_number
  number_none h = sym (rw (lt-leb 1 (length x) h))

  pub number_long : 10 < length x → false ≡ good_number x
  unfolding good_number
  number_long h = sym (rw (le-leb 1 (length x) (omega arith), lt-leb (length x) 10 h))

  pub number_is : 1 ≤ length x → length x ≤ 10 → all permitted_of x ≡ good_number x
  unfolding good_number
  number_is h k = sym (rw (le-leb 1 (length x) h, le-leb (length x) 10 k))

-- ---- for `filled_up`

drop_replicate : (k n a : ℕ) → drop k (replicate n a) ≡ replicate (n - k) a
drop_replicate zero n a = rw sub-zero
drop_replicate (suc k) zero a = rw zero-sub
drop_replicate (suc k) (suc n) a =
    let e : suc n - suc k ≡ n - k = omega arith in
    rw e (drop_replicate k n a)

pub filled : (x : List ℕ) → length x ≤ 10 → put_at (replicate 10 0) 0 x ≡ filled_up 10 x
unfolding filled_up
filled x h = put_front (replicate 10 0) x h ∙ ap (λ (l : List ℕ). x ++ l) (drop_replicate (length x) 10 0)

-- ---- for `withdraw_at`

module _ (s : List ℕ) (at : ℕ) where
  pub left_none : get_or s (at + 75) 0 ≡ 0 → (false ≡ withdraws_at s at) × (s ≡ left_at s at)
  unfolding withdraws_at left_at
  left_none q = (rw (eq-eqb (get_or s (at + 75) 0) 0 q), rw (eq-eqb (get_or s (at + 75) 0) 0 q))

  module _ (h : at + 140 ≤ length s) (q : get_or s (at + 75) 0 ≡ 0 → ⊥) where
    pub left_out : get_or s (at + 10) 0 ≡ 0 → (true ≡ withdraws_at s at) × (closed_in s at 140 ≡ left_at s at)
    unfolding withdraws_at left_at
    left_out p = (rw (ne_eqb (get_or s (at + 75) 0) 0 q), rw (ne_eqb (get_or s (at + 75) 0) 0 q, eq-eqb (get_or s (at + 10) 0) 0 p) (closed_fits s at 140 h))

    pub left_live : (get_or s (at + 10) 0 ≡ 0 → ⊥) → (true ≡ withdraws_at s at) × (put_at s (at + 75) (replicate 65 0) ≡ left_at s at)
    unfolding withdraws_at left_at
    left_live p = (
      rw (ne_eqb (get_or s (at + 75) 0) 0 q),
      rw (ne_eqb (get_or s (at + 75) 0) 0 q, ne_eqb (get_or s (at + 10) 0) 0 p) (put_room s (at + 75) (replicate 65 0) (omega (arith, length-replicate {A = ℕ} 65 0))),
    )

-- ---- for `withdraw_number`

module _ (s x : List ℕ) where
  pub found_no : good_number x ≡ false → (false ≡ withdraws s (slot_found s x)) × (s ≡ withdrawn_room s (slot_found s x))
  unfolding slot_found withdraws withdrawn_room
  found_no q = (rw q, rw q)

  module _ (p : good_number x ≡ true) where
    pub found_is : slot_found s x ≡ find_of s (filled_up 10 x)
    unfolding slot_found
    found_is = rw p

    module _ (r : Result ℕ ℕ) (q : r ≡ find_of s (filled_up 10 x)) (k : ℕ) where
      pub found_at : r ≡ Ok k → (withdraws_at s (k * 140) ≡ withdraws s (slot_found s x)) × (left_at s (k * 140) ≡ withdrawn_room s (slot_found s x))
      unfolding withdraws withdrawn_room
      found_at e = (rw (found_is, ← q, e), rw (found_is, ← q, e))

      pub found_gap : r ≡ Err k → (false ≡ withdraws s (slot_found s x)) × (s ≡ withdrawn_room s (slot_found s x))
      unfolding withdraws withdrawn_room
      found_gap e = (rw (found_is, ← q, e), rw (found_is, ← q, e))

pub found_within : (s y : List ℕ) (r : Result ℕ ℕ) (k : ℕ) → r ≡ find_of s y → r ≡ Ok k → k < length s / 140
found_within s y r k q e = subst (Within (length s / 140)) (sym q ∙ e) (find_within s y)
