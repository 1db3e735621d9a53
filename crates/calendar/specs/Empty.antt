-- The byte of weekdays is zero exactly where no day is selected.
-- Assumes nothing.
use Rattle.std.specs.Prelude.{◌≡◌, refl, Bool, true, false, List, ℕ, zero, suc, ◌+◌, ◌<◌}
use Rattle.std.proofs.Common.{sym, ap, subst, ◌∙◌, arith}
use Rattle.dates.specs.Days.{weekday_of}
use Rattle.dates.specs.Laws.{weekday_range}
use Rattle.calendar.specs.Days.{day, has_bit}
use Rattle.calendar.specs.Bits.{bit_none}
use Rattle.calendar.specs.Written.{any_day, named}
use Rattle.calendar.specs.Week.{mark, week_of}
use Rattle.calendar.specs.WeekLaws.{week_named}
use Rattle.calendar.specs.Form.{never, any_some, some_named}
use Rattle.calendar.specs.Good.{any_none}

not_so : (b : Bool) → (b ≡ true → ⊥) → b ≡ false
not_so true g = absurd (g refl)
not_so false g = refl

so : (b : Bool) → (b ≡ false → ⊥) → b ≡ true
so true g = refl
so false g = absurd (g refl)

zero_week : (c : List ℕ) (f n : ℕ) → ((k : ℕ) → k < n → day c k ≡ false) → week_of c f n ≡ 0
unfolding week_of mark
zero_week c f zero g = refl
zero_week c f (suc n) g = rw (g n (omega arith)) (zero_week c f n (λ k h. g k (omega arith)))

pub week_none : (c : List ℕ) (f n : ℕ) → week_of c f n ≡ 0 → any_day c 0 n ≡ false
week_none c f n e =
    not_so (any_day c 0 n) (λ a.
    let s = any_some c 0 n a in
    let r = weekday_range (f + s.0) in
    let d : day c s.0 ≡ true = subst (λ (x : ℕ). day c x ≡ true) (omega arith) s.2 in
    let m : named c f n (weekday_of (f + s.0)) ≡ true = some_named c f n (weekday_of (f + s.0)) s.0 s.1 d refl in
    let b : has_bit (week_of c f n) (weekday_of (f + s.0)) ≡ true = week_named c f n (weekday_of (f + s.0)) (omega arith) ∙ m in
    never (sym (bit_none (weekday_of (f + s.0)) (omega arith)) ∙ ap (λ (x : ℕ). has_bit x (weekday_of (f + s.0))) (sym e) ∙ b))

pub week_some : (c : List ℕ) (f n : ℕ) → (week_of c f n ≡ 0 → ⊥) → any_day c 0 n ≡ true
week_some c f n g =
    so (any_day c 0 n) (λ a.
    g (zero_week c f n (λ k h. subst (λ (x : ℕ). day c x ≡ false) (omega arith) (any_none c 0 n k h a))))
