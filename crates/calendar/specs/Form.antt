-- The weekday form exists exactly when document 01 says: at least one day is selected, and every day of the period that shares its
-- weekday with a selected day is selected too.
-- Assumes nothing.
use Rattle.std.specs.Prelude.{◌≡◌, Bool, true, false, not, List, ◌⊎◌, eqb}
use Rattle.std.proofs.Math.Path.{refl, subst}
use Rattle.std.proofs.Common.{inl, inr, ⊎_elim, arith, not-suc-le-zero, eq-eqb, eqb-true}
use Prim.Native.Nat.{ℕ, zero, suc, ◌+◌, ◌<◌}
use Rattle.std.proofs.Math.Decide.{dec_lt}
use Rattle.laws.specs.Choice.{both, either}
use Rattle.dates.specs.Days.{weekday_of}
use Rattle.calendar.specs.Days.{day}
use Rattle.calendar.specs.Written.{any_day, named, all_on, weekday_form}

-- document 01's words, of the n days from the day number f on; day k is the day k days after the first
pub record HasForm (c : List ℕ) (f n : ℕ) : Type 0 where
  pub some : (k : ℕ) × (k < n) × (day c k ≡ true)
  pub whole : (j k : ℕ) → j < n → k < n → weekday_of (f + j) ≡ weekday_of (f + k) → day c j ≡ true → day c k ≡ true

pub never : {A : Type 0} → false ≡ true → A
never e = let z : ◌≡◌ {A = ℕ} 0 1 = cc in absurd (omega arith)

either_true : (a b : Bool) → either a b ≡ true → (a ≡ true) ⊎ (b ≡ true)
either_true true b e = inl refl
either_true false b e = inr e

either_right : (a b : Bool) → b ≡ true → either a b ≡ true
either_right true b e = refl
either_right false b e = e

both_true : (a b : Bool) → both a b ≡ true → (a ≡ true) × (b ≡ true)
both_true true b e = (refl, e)
both_true false b e = never e

-- of any day
pub any_some : (c : List ℕ) (k n : ℕ) → any_day c k n ≡ true → (i : ℕ) × (i < n) × (day c (k + i) ≡ true)
unfolding any_day
any_some c k zero e = never e
any_some c k (suc n) e =
    ⊎_elim (λ d. (0, omega arith, subst (λ (x : ℕ). day c x ≡ true) (omega arith) d))
    (λ r.
    let s = any_some c (k + 1) n r in
    let h = s.1 in
    (suc s.0, omega arith, subst (λ (x : ℕ). day c x ≡ true) (omega arith) s.2))
    (either_true (day c k) (any_day c (k + 1) n) e)

some_any : (c : List ℕ) (k n i : ℕ) → i < n → day c (k + i) ≡ true → any_day c k n ≡ true
unfolding any_day
some_any c k zero i h d = absurd (not-suc-le-zero h)
some_any c k (suc n) zero h d = let e : day c k ≡ true = subst (λ (x : ℕ). day c x ≡ true) (omega arith) d in rw e
some_any c k (suc n) (suc i) h d =
    either_right (day c k) (any_day c (k + 1) n) (some_any c (k + 1) n i (omega arith) (subst (λ (x : ℕ). day c x ≡ true) (omega arith) d))

-- of the weekdays named
pub named_some : (c : List ℕ) (f n w : ℕ) → named c f n w ≡ true → (k : ℕ) × (k < n) × (day c k ≡ true) × (weekday_of (f + k) ≡ w)
unfolding named
named_some c f zero w e = never e
named_some c f (suc n) w e =
    ⊎_elim (λ d.
    let p = both_true (day c n) (eqb (weekday_of (f + n)) w) d in
    (n, omega arith, p.0, eqb-true (weekday_of (f + n)) w p.1))
    (λ r.
    let s = named_some c f n w r in
    let h = s.1 in
    (s.0, omega arith, s.2, s.3))
    (either_true (both (day c n) (eqb (weekday_of (f + n)) w)) (named c f n w) e)

pub some_named : (c : List ℕ) (f n w k : ℕ) → k < n → day c k ≡ true → weekday_of (f + k) ≡ w → named c f n w ≡ true
unfolding named
some_named c f zero w k h d e = absurd (not-suc-le-zero h)
some_named c f (suc n) w k h d e =
    elim (dec_lt k n) [
      | yes l ↦ either_right (both (day c n) (eqb (weekday_of (f + n)) w)) (named c f n w) (some_named c f n w k l d e)
      | no l ↦
          let q : k ≡ n = omega arith in
          let d' : day c n ≡ true = subst (λ (x : ℕ). day c x ≡ true) q d in
          let e' : weekday_of (f + n) ≡ w = subst (λ (x : ℕ). weekday_of (f + x) ≡ w) q e in
          rw (d', eq-eqb (weekday_of (f + n)) w e')
    ]

-- of the days tested
tested : (a b : Bool) → either (not a) b ≡ true → a ≡ true → b ≡ true
tested true b e h = e
tested false b e h = never h

passes : (a b : Bool) → (a ≡ true → b ≡ true) → either (not a) b ≡ true
passes true b g = g refl
passes false b g = refl

module _ (t : ℕ → Bool) (c : List ℕ) (f : ℕ) where
  Tested : ℕ → Type 0
  Tested k = t (weekday_of (f + k)) ≡ true → day c k ≡ true

  on_each : (k m i : ℕ) → i < m → all_on t c f k m ≡ true → Tested (k + i)
  unfolding all_on Tested
  on_each k zero i h e = absurd (not-suc-le-zero h)
  on_each k (suc m) zero h e =
      let p = both_true (either (not (t (weekday_of (f + k)))) (day c k)) (all_on t c f (k + 1) m) e in
      subst Tested (omega arith) (tested (t (weekday_of (f + k))) (day c k) p.0)
  on_each k (suc m) (suc i) h e =
      let p = both_true (either (not (t (weekday_of (f + k)))) (day c k)) (all_on t c f (k + 1) m) e in
      subst Tested (omega arith) (on_each (k + 1) m i (omega arith) p.1)

  each_on : (k m : ℕ) → ((i : ℕ) → i < m → Tested (k + i)) → all_on t c f k m ≡ true
  unfolding all_on Tested
  each_on k zero g = refl
  each_on k (suc m) g =
      let a = passes (t (weekday_of (f + k))) (day c k) (subst Tested (omega arith) (g 0 (omega arith))) in
      rw a (each_on (k + 1) m (λ i h. subst Tested (omega arith) (g (suc i) (omega arith))))

module _ (c : List ℕ) (f n : ℕ) where
  pub form_told : weekday_form c f n ≡ true → HasForm c f n
  unfolding weekday_form Tested
  form_told e =
      let p = both_true (any_day c 0 n) (all_on (named c f n) c f 0 n) e in
      let s = any_some c 0 n p.0 in
      record {
        some = (s.0, s.1, subst (λ (x : ℕ). day c x ≡ true) (omega arith) s.2);
        whole = λ j k hj hk w d. subst (Tested (named c f n) c f) (omega arith) (on_each (named c f n) c f 0 n k hk p.1) (some_named c f n (weekday_of (f + k)) j hj d w);
      }

  pub form_made : HasForm c f n → weekday_form c f n ≡ true
  unfolding weekday_form Tested
  form_made h =
      let s = h.some in
      let a = some_any c 0 n s.0 s.1 (subst (λ (x : ℕ). day c x ≡ true) (omega arith) s.2) in
      let b = each_on (named c f n) c f 0 n (λ k hk. subst (Tested (named c f n) c f) (omega arith) (λ t.
      let r = named_some c f n (weekday_of (f + k)) t in
      h.whole r.0 k r.1 hk r.3 r.2)) in
      rw (a, b)
