-- Laws on what the iterators over services and over periods have left, one for each way through their code.
-- Assumes nothing.
use Rattle.std.specs.Prelude.{ℕ, zero, suc, ◌+◌, ◌-◌, ◌≤◌, ◌<◌, ◌≡◌, refl, Bool, true, false, ltb, List, [], ◌∷◌, length, Some, None}
use Rattle.std.proofs.Common.{sym, ap, ◌∙◌, arith, ltb-true, ltb-false}
use Rattle.laws.specs.Choice.{choose}
use Rattle.services.specs.declared.Service.{Service}
use Rattle.services.specs.declared.PopRow.{PopRow}
use Rattle.services.specs.declared.Services.{Services}
use Rattle.services.specs.declared.Periods.{Periods}
use Rattle.services.specs.Rows.{row_count, first_from, list_of}
use Rattle.services.specs.Search.{first_bounds, first_skips, list_none, list_some}
use Rattle.services.specs.Services.{next_service, next_period, is_service, service_at, services_from, services_of, periods_from}
use Rattle.services.specs.Ways.{next_found, next_gone, period_found, period_gone}
use Rattle.services.specs.Walks.{services_left, periods_left, First}

module _ (it : Services) where
  pub service_first : (v : Service) → next_service it.s.now it.rows.now it.n it.i ≡ Some v → services_left it ≡ v ∷ services_left (record { s = it.s; rows = it.rows; n = it.n; i = v.to })
  unfolding services_left
  service_first v q = (next_found it.s.now it.rows.now it.n it.i v q).rest

  pub service_none : next_service it.s.now it.rows.now it.n it.i ≡ None → services_left it ≡ []
  unfolding services_left
  service_none q = next_gone it.s.now it.rows.now it.n it.i q

module _ (it : Periods) where
  pub period_first : (v : PopRow) → next_period it.rows.now it.i it.to ≡ Some v → periods_left it ≡ v.offset ∷ periods_left (record { rows = it.rows; to = it.to; i = v.row + 1 })
  unfolding periods_left
  period_first v q = (period_found it.rows.now it.i it.to v q).rest

  pub period_last : next_period it.rows.now it.i it.to ≡ None → periods_left it ≡ []
  unfolding periods_left
  period_last q = period_gone it.rows.now it.i it.to q

begins : {A : Type 0} {x y : A} {l k : List A} → x ∷ l ≡ y ∷ k → (x ≡ y) × (l ≡ k)
begins q = (cc, cc)

nil≢cons : {A : Type 0} {x : A} {l : List A} → [] ≡ x ∷ l → ⊥
nil≢cons q = let z : ◌≡◌ {A = ℕ} 0 1 = cc in omega arith

module _ (s rows : List ℕ) (n i : ℕ) (v : Service) (rest : List Service) where
  abbrev place : ℕ
  place = first_from (is_service rows) i n

  there : v ≡ service_at s rows n place → v.from ≡ place
  unfolding service_at
  there e = ap (λ (x : Service). x.from) e

  pub first_is : services_from s rows n i ≡ v ∷ rest → First s rows n i v rest
  first_is q =
      choose (ltb place n)
      (λ l.
      let b = begins (sym q ∙ list_some (is_service rows) (service_at s rows n) i n (ltb-true place n l)) in
      let e = there b.0 in
      let w = first_bounds (is_service rows) (n - i) i in
      let h = ltb-true place n l in
      record {
        others = b.1 ∙ ap (λ (k : ℕ). services_from s rows n (k + 1)) (sym e);
        further = omega arith;
        inside = omega arith;
        own = b.0 ∙ ap (service_at s rows n) (sym e);
        before = λ j a d. first_skips (is_service rows) (n - i) i j a (omega arith);
      })
      (λ l. absurd (nil≢cons (sym (list_none (is_service rows) (service_at s rows n) i n (ltb-false place n l)) ∙ q)))

-- no more services than rows
list_few : {A : Type 0} (f : ℕ → Bool) (g : ℕ → A) (k i : ℕ) → length (list_of f g k i) ≤ k
unfolding list_of
list_few f g zero i = omega arith
list_few f g (suc k) i =
    let h = list_few f g k (i + 1) in
    choose (f i) (λ q. rw q (omega arith)) (λ q. rw q (omega arith))

pub services_few : (s rows : List ℕ) (n : ℕ) → length (services_of s rows n) ≤ n
services_few s rows n =
    let h = list_few (is_service rows) (service_at s rows (row_count rows n)) (row_count rows n - 0) 0 in
    omega arith
