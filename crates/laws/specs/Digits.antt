-- The digits of a number, written into a buffer from its end.
-- Assumes nothing.
use Rattle.std.specs.Prelude.{ℕ, zero, suc, ◌/◌, ◌-◌, ◌≤◌, ◌<◌, ◌≡◌, refl, List, [], ◌∷◌, ◌++◌, ltb, length, drop, set}
use Rattle.std.proofs.Common.{sym, ◌∙◌, ap, append_assoc, arith, lt-ltb, le-ltb, length-set, length-append, drop-cons, drop-set-lt, get_or-set_same}
use Rattle.laws.specs.Choice.{choose}
use Rattle.laws.specs.Put.{put_at}
use Rattle.laws.specs.Decimal.{digit, decimal_on, decimal_of}

pub decimal_length : (f n : ℕ) → length (decimal_on f n) ≤ f
unfolding decimal_on
decimal_length zero n = omega arith
decimal_length (suc f) n =
    choose (ltb n 10) (λ yes. rw yes (omega arith)) (λ no. rw (no, length-append) (let h = decimal_length f (n / 10) in omega arith))

-- the digits of a number before a list: one alone, or the last of several at the head of the list
pub decimal_last : (f n : ℕ) (l : List ℕ) → n < 10 → decimal_on (suc f) n ++ l ≡ digit n ∷ l
unfolding decimal_on
decimal_last f n l h = rw (lt-ltb n 10 h)

pub decimal_step : (f n : ℕ) (l : List ℕ) → 10 ≤ n → decimal_on (suc f) n ++ l ≡ decimal_on f (n / 10) ++ (digit n ∷ l)
unfolding decimal_on
decimal_step f n l h = rw (le-ltb n 10 h) (append_assoc (decimal_on f (n / 10)) (digit n ∷ []) l)

-- what stands from an index on after a byte was stored there
stored : (l : List ℕ) (i b : ℕ) → i < length l → drop i (set l i b) ≡ b ∷ drop (suc i) l
stored l i b h =
    let e : i < length (set l i b) = simp length-set h in
    drop-cons (set l i b) i 0 e ∙ rw (get_or-set_same l i b 0 h, drop-set-lt (suc i) l i b (omega arith))

-- i are still to be written, the others stand from index i on.
module _ (l : List ℕ) (n d : ℕ) (q : d ≡ digit n) where
  pub last_written : (i : ℕ) → 0 < i → i ≤ length l → n < 10 → drop (i - 1) (set l (i - 1) d) ≡ decimal_on i n ++ drop i l
  last_written zero p h k = absurd (omega arith)
  last_written (suc i) p h k =
      let e : suc i - 1 ≡ i = omega arith in
      rw (e, q) (stored l i (digit n) (omega arith) ∙ sym (decimal_last i n (drop (suc i) l) k))

  pub one_written : (i : ℕ) → 0 < i → i ≤ length l → 10 ≤ n → decimal_on (i - 1) (n / 10) ++ drop (i - 1) (set l (i - 1) d) ≡ decimal_on i n ++ drop i l
  one_written zero p h k = absurd (omega arith)
  one_written (suc i) p h k =
      let e : suc i - 1 ≡ i = omega arith in
      rw (e, q, stored l i (digit n) (omega arith)) (sym (decimal_step i n (drop (suc i) l) k))

pub all_written : (l : List ℕ) (i n : ℕ) → i ≤ 0 → l ≡ decimal_on i n ++ drop i l
unfolding decimal_on
all_written l zero n h = refl
all_written l (suc i) n h = absurd (omega arith)

-- the digits that stand in a buffer, put into another
pub digits_put : (o : List ℕ) (at n : ℕ) {r : ℕ} {p q x : List ℕ} → r ≡ length x → q ≡ put_at p at x → x ≡ decimal_of n → p ≡ o
    → ((r ≤ 20) × (r ≡ length (decimal_of n))) × (q ≡ put_at o at (decimal_of n))
digits_put o at n {r} {p} {q} {x} er eq ex ep =
    let h = decimal_length 20 n in
    let e : r ≡ length (decimal_of n) = er ∙ ap length ex in
    ((omega arith, e), eq ∙ ap (λ (l : List ℕ). put_at l at x) ep ∙ ap (put_at o at) ex)
