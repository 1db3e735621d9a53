-- Joining keeps bytes bytes.
-- Assumes nothing.
use Rattle.std.specs.Prelude.{Bool, true, false, List, ℕ, zero, suc, ◌+◌, ◌-◌, ◌*◌, ◌/◌, ◌%◌, ◌^◌, ◌≤◌, ◌<◌, ltb, length, get_or, set, Result, Ok, Err}
use Rattle.std.proofs.Common.{arith, ltb→lt, get_or-set_same, get_or-set_other}
use Rattle.std.proofs.Math.Decide.{dec_lt, ℕ_discrete}
use Rattle.std.proofs.lemmas.Nat.{or_lt}
use Rattle.std.proofs.Math.Seq.{set_out}
use Rattle.laws.specs.Choice.{pick}
use Rattle.laws.specs.Sweep.{at}
use Rattle.calendar.specs.Days.{with_bit, with_day}
use Rattle.period.specs.Period.{period_of, runs_by}
use Rattle.joining.specs.Joined.{marked, in_window, window_days, joined_by, days_joined}
use Rattle.period.specs.declared.Period.{Period}
use Rattle.period.specs.declared.Fault.{Fault}

-- each element is a byte
abbrev pub AreBytes : List ℕ → Type 0
AreBytes c = (i : ℕ) → get_or c i 0 < 256

power : ℕ → Bool
power j = ltb (2 ^ j) 256

power_small : (j : ℕ) → j < 8 → 2 ^ j < 256
unfolding power
power_small j h = ltb→lt (2 ^ j) 256 (at power 8 tt j h)

bit_small : (x j : ℕ) → x < 256 → j < 8 → with_bit x j < 256
unfolding with_bit
bit_small x j h k = or_lt 8 x (2 ^ j) h (power_small j k)

pub set_small : (c : List ℕ) (i v : ℕ) → AreBytes c → v < 256 → AreBytes (set c i v)
set_small c i v a h j =
    elim (dec_lt i (length c)) [
      | yes l ↦ elim (ℕ_discrete j i) [
        | yes e ↦ rw (e, get_or-set_same c i v 0 l) h
        | no e ↦ rw (get_or-set_other c i j v 0 e) (a j)
      ]
      | no l ↦ let g : length c ≤ i = omega arith in rw (set_out c i v g) (a j)
    ]

pub with_bytes : (c : List ℕ) (k : ℕ) → AreBytes c → AreBytes (with_day c k)
unfolding with_day
with_bytes c k a = set_small c (k / 8) (with_bit (get_or c (k / 8) 0) (k % 8)) a (bit_small (get_or c (k / 8) 0) (k % 8) (a (k / 8)) (omega arith))

picked_bytes : (w : Bool) (c : List ℕ) (k : ℕ) → AreBytes c → AreBytes (pick w (with_day c k) c)
picked_bytes true c k a = with_bytes c k a
picked_bytes false c k a = a

pub marked_bytes : (t : ℕ → Bool) (c : List ℕ) (at k m : ℕ) → AreBytes c → AreBytes (marked t c at k m)
unfolding marked
marked_bytes t c at k zero a = a
marked_bytes t c at k (suc m) a = marked_bytes t (pick (t k) (with_day c (at + k)) c) at (k + 1) m (picked_bytes (t k) c (at + k) a)

by_bytes : (p : Result Period Fault) (c : List ℕ) (o : ℕ) (g : List ℕ) → AreBytes c → AreBytes (joined_by c o g p)
unfolding window_days
by_bytes (Err x) c o g a = a
by_bytes (Ok v) c o g a = either_one (in_window (8 * length c) o v.days.first v.days.count)
  where
    either_one : (q : Bool) → AreBytes (pick q (marked (runs_by g v.form v.days.first) c (v.days.first - o) 0 v.days.count) c)
    either_one true = marked_bytes (runs_by g v.form v.days.first) c (v.days.first - o) 0 v.days.count a
    either_one false = a

pub joined_bytes : (wish : Bool) (c : List ℕ) (o : ℕ) (g : List ℕ) → AreBytes c → AreBytes (days_joined wish c o g)
unfolding days_joined
joined_bytes wish c o g a = by_bytes (period_of wish g) c o g a
