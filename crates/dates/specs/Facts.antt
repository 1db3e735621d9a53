-- What is known of a date, as facts on its numbers.
-- Assumes nothing.
use Rattle.std.specs.Prelude.{◌≡◌, Bool, true, false, [], ◌∷◌, ℕ, ◌≤◌, T, eqb, leb}
use Rattle.std.proofs.Common.{sym, subst, arith, leb→le, le-leb}
use Rattle.laws.specs.Choice.{pick, among, both_left, both_right}
use Rattle.dates.specs.Days.{leap_year, month_length, is_date}

pub record IsDate (y m d : ℕ) : Type 0 where
  pub from_first : 1990 ≤ y
  pub to_last : y ≤ 2099
  pub from_january : 1 ≤ m
  pub to_december : m ≤ 12
  pub from_day_one : 1 ≤ d
  pub in_month : d ≤ month_length y m

pub date_facts : (y m d : ℕ) → is_date y m d ≡ true → IsDate y m d
unfolding is_date
date_facts y m d e =
    let t : T (is_date y m d) = subst T (sym e) tt in
    let t₁ = both_right (leb 1990 y) _ t in
    let t₂ = both_right (leb y 2099) _ t₁ in
    let t₃ = both_right (leb 1 m) _ t₂ in
    let t₄ = both_right (leb m 12) _ t₃ in
    record {
      from_first = leb→le _ _ (both_left (leb 1990 y) _ t);
      to_last = leb→le _ _ (both_left (leb y 2099) _ t₁);
      from_january = leb→le _ _ (both_left (leb 1 m) _ t₂);
      to_december = leb→le _ _ (both_left (leb m 12) _ t₃);
      from_day_one = leb→le _ _ (both_left (leb 1 d) _ t₄);
      in_month = leb→le _ _ (both_right (leb 1 d) _ t₄);
    }

pub facts_date : {y m d : ℕ} → IsDate y m d → is_date y m d ≡ true
unfolding is_date
facts_date {y} {m} {d} h =
    rw (le-leb 1990 y h.from_first, le-leb y 2099 h.to_last, le-leb 1 m h.from_january, le-leb m 12 h.to_december, le-leb 1 d h.from_day_one, le-leb d (month_length y m) h.in_month)

pick_le : (p : Bool) (a b n : ℕ) → a ≤ n → b ≤ n → pick p a b ≤ n
pick_le true a b n h k = h
pick_le false a b n h k = k

le_pick : (p : Bool) (a b n : ℕ) → n ≤ a → n ≤ b → n ≤ pick p a b
le_pick true a b n h k = h
le_pick false a b n h k = k

pub month_at_most : (y m : ℕ) → month_length y m ≤ 31
unfolding month_length
month_at_most y m =
    pick_le (eqb m 2) _ _ 31 (pick_le (leap_year y) 29 28 31 (omega arith) (omega arith))
    (pick_le (among m (4 ∷ 6 ∷ 9 ∷ 11 ∷ [])) 30 31 31 (omega arith) (omega arith))

pub month_at_least : (y m : ℕ) → 28 ≤ month_length y m
unfolding month_length
month_at_least y m =
    le_pick (eqb m 2) _ _ 28 (le_pick (leap_year y) 29 28 28 (omega arith) (omega arith))
    (le_pick (among m (4 ∷ 6 ∷ 9 ∷ 11 ∷ [])) 30 31 28 (omega arith) (omega arith))
