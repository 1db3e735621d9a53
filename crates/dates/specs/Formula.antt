-- The formula of docs/DAYS.md against the count of days: the years' terms from year to year, the months' at each month of a common and of a leap year.
-- Assumes nothing.
use Rattle.std.specs.Prelude.{◌≡◌, refl, Bool, true, false, ℕ, zero, suc, ◌+◌, ◌-◌, ◌*◌, ◌/◌, ◌%◌, ◌<◌, ◌≤◌, T, eqb, ltb}
use Rattle.std.proofs.Common.{subst, sym, ◌∙◌, arith, eqb→eq}
use Rattle.std.proofs.Math.Decide.{ℕ_discrete}
use borrow.Author.Tests.{lt-ltb, le-ltb, eq-eqb, ne_eqb}
use Rattle.laws.specs.Choice.{pick, choose}
use Rattle.laws.specs.Sweep.{below, at}
use Rattle.dates.specs.Days.{leap_year, month_length, month_days, year_days}
use Rattle.dates.specs.Back.{year_common, year_leap}

-- of the years that end a century only 2000 stands from 1990 to 2099, and it is a leap year
each_fourth : (y : ℕ) → 1990 ≤ y → y ≤ 2099 → leap_year y ≡ eqb (y % 4) 0
unfolding leap_year
each_fourth y h k =
    elim (ℕ_discrete (y % 100) 0) [
      | yes e ↦ let c : y ≡ 2000 = omega arith in rw c
      | no e ↦ rw (ne_eqb (y % 100) 0 e)
    ]

years : (n : ℕ) → n < 110 → 365 * n + (n + 1) / 4 ≡ year_days n
unfolding year_days
years zero h = refl
years (suc n) h =
    let before = years n (omega arith) in
    let fourth = each_fourth (1990 + n) (omega arith) (omega arith) in
    elim (ℕ_discrete ((1990 + n) % 4) 0) [
      | yes e ↦ omega (arith, year_leap (1990 + n) (fourth ∙ eq-eqb _ _ e))
      | no e ↦ omega (arith, year_common (1990 + n) (fourth ∙ ne_eqb _ _ e))
    ]

-- the days of the years before
pub years_before : (y : ℕ) → 1990 ≤ y → y ≤ 2099 → 365 * (y - 1990) + (y - 1989) / 4 ≡ year_days (y - 1990)
years_before y h k = omega (arith, years (y - 1990) (omega arith))

-- leap years are alike in every month, and so are common years
alike : (y z n : ℕ) → leap_year y ≡ leap_year z → month_days y n ≡ month_days z n
unfolding month_days month_length
alike y z zero e = refl
alike y z (suc n) e = rw (alike y z n e, e)

-- the days that February has less than 30, from March on
missing : ℕ → ℕ → ℕ
missing y m = pick (ltb m 3) 0 (pick (leap_year y) 1 2)

test : ℕ → ℕ → Bool
test y j = eqb ((367 * suc j - 362) / 12 - missing y (suc j)) (month_days y j)

-- 1990 stands for the common years, 1992 for the leap years
common_tested : T (below (test 1990) 12)
unfolding test missing leap_year month_days month_length
common_tested = tt

leap_tested : T (below (test 1992) 12)
unfolding test missing leap_year month_days month_length
leap_tested = tt

common_1990 : leap_year 1990 ≡ false
unfolding leap_year
common_1990 = refl

leap_1992 : leap_year 1992 ≡ true
unfolding leap_year
leap_1992 = refl

months : (y j : ℕ) → j < 12 → (367 * suc j - 362) / 12 - missing y (suc j) ≡ month_days y j
unfolding test missing
months y j h =
    choose (leap_year y) (λ leap. like 1992 leap_tested (leap ∙ sym leap_1992)) (λ common. like 1990 common_tested (common ∙ sym common_1990))
  where
    like : (z : ℕ) → T (below (test z) 12) → leap_year y ≡ leap_year z → (367 * suc j - 362) / 12 - missing y (suc j) ≡ month_days y j
    like z t e = rw (alike y z j e, e) (eqb→eq _ _ (at (test z) 12 t j h))

-- the days of the months before
module _ (y m : ℕ) (hy : 1990 ≤ y) (hy' : y ≤ 2099) (hm : 1 ≤ m) (hm' : m ≤ 12) where
  by_month : (367 * m - 362) / 12 - missing y m ≡ month_days y (m - 1)
  by_month =
      let e : suc (m - 1) ≡ m = omega arith in
      subst (λ (x : ℕ). (367 * x - 362) / 12 - missing y x ≡ month_days y (m - 1)) e (months y (m - 1) (omega arith))

  pub before_march : m < 3 → (367 * m - 362) / 12 ≡ month_days y (m - 1)
  unfolding missing
  before_march l = omega (arith, rw (lt-ltb m 3 l) at by_month)

  pub leap_from_march : 3 ≤ m → y % 4 ≡ 0 → (367 * m - 362) / 12 - 1 ≡ month_days y (m - 1)
  unfolding missing
  leap_from_march l e = rw (le-ltb m 3 l, each_fourth y hy hy', eq-eqb (y % 4) 0 e) at by_month

  pub common_from_march : 3 ≤ m → (y % 4 ≡ 0 → ⊥) → (367 * m - 362) / 12 - 2 ≡ month_days y (m - 1)
  unfolding missing
  common_from_march l e = rw (le-ltb m 3 l, each_fourth y hy hy', ne_eqb (y % 4) 0 e) at by_month
