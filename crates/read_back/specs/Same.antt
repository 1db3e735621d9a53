-- A text that reads back gives the calendar itself: joined into 64 bytes without a day, from its first date on, it leaves the calendar's bytes.
-- Assumes nothing.
use Rattle.std.specs.Prelude.{◌≡◌, Bool, true, List, ℕ, ◌+◌, ◌-◌, ◌*◌, ◌<◌, Ok}
use Rattle.std.proofs.Common.{sym, ap, ◌∙◌}
use native.Mathlib.Omega.{arith}
use Rattle.std.proofs.Math.Decide.{dec_lt}
use borrow.Author.Tests.{le-leb, le-ltb}
use Rattle.laws.specs.Choice.{either}
use Rattle.dates.specs.Dates.{number}
use Rattle.dates.specs.declared.Date.{Date}
use Rattle.calendar.specs.Days.{day}
use Rattle.calendar.specs.Good.{good_facts}
use Rattle.calendar.specs.Same.{days_same}
use Rattle.calendar.specs.Written.{day_count, good_calendar}
use Rattle.period.specs.Period.{runs_in}
use Rattle.period.specs.declared.Form.{Form}
use Rattle.joining.specs.Joined.{window_answer, answered, days_joined, selects, joined}
use Rattle.joining.specs.Union.{no_days, no_day, no_byte, length_none, length_joined, joined_day}
use Rattle.joining.specs.Bytes.{AreBytes, joined_bytes}
use Rattle.read_back.specs.Written.{ReadsBack}

module _ (wish : Bool) (text c : List ℕ) (first last : Date) (form : Form) (r : ReadsBack wish text c first last form) (good : good_calendar c first last ≡ true) (a : AreBytes c) where
  abbrev empty : List ℕ
  empty = no_days 64

  -- the period lies in the window
  pub joined_done : answered wish 64 (number first) r.body ≡ joined
  unfolding answered window_answer
  joined_done =
      let f = good_facts c first last good in
      let m = f.not_long in
      rw (r.period, le-leb (number first) (number first) (omega arith), le-leb (number first - number first + day_count first last) (8 * 64) (omega arith))

  -- it selects the calendar's days
  day_back : (k : ℕ) → k < 512 → selects wish r.body (number first + k) ≡ day c k
  unfolding selects runs_in
  day_back k h =
      let f = good_facts c first last good in
      let e : number first + k - number first ≡ k = omega arith in
      elim (dec_lt k (day_count first last)) [
        | yes l ↦
            rw (r.period, le-leb (number first) (number first + k) (omega arith), e)
            (rw r.period at (r.days k l))
        | no l ↦
            rw (r.period, le-leb (number first) (number first + k) (omega arith), e, le-ltb k (day_count first last) (omega arith))
            (sym (f.none_past k (omega arith) h))
      ]

  pub joined_same : days_joined wish empty (number first) r.body ≡ c
  joined_same =
      let f = good_facts c first last good in
      let n = length_none 64 in
      let j = length_joined wish empty (number first) r.body in
      let b = f.bytes in
      let d = ap (λ (x : ℕ). answered wish x (number first) r.body) n ∙ joined_done in
      days_same (days_joined wish empty (number first) r.body) c (j ∙ n ∙ sym f.bytes)
      (λ i l. joined_bytes wish empty (number first) r.body none i)
      (λ i l. a i)
      (λ k l.
      joined_day wish empty (number first) r.body d k
      ∙ ap (λ (x : Bool). either x (selects wish r.body (number first + k))) (no_day 64 k)
      ∙ day_back k (omega arith))
    where
      none : AreBytes (no_days 64)
      none i = let z = no_byte 64 i in omega arith
