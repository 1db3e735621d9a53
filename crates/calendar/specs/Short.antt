-- The short form of a day string: how many characters it has, and that the days that it leaves out do not run.
-- Assumes nothing.
use Rattle.std.specs.Prelude.{◌≡◌, Bool, true, false, List, ◌⊎◌, leb, length}
use Rattle.std.proofs.Math.Path.{refl}
use Rattle.std.proofs.Common.{sym, ap}
use Rattle.std.proofs.Math.Logic.{inl, inr}
use Prim.Native.Nat.{ℕ, zero, suc, ◌-◌, ◌≤◌, ◌<◌}
use native.Mathlib.Omega.{arith}
use Rattle.std.proofs.Math.Decide.{ℕ_discrete}
use Rattle.laws.specs.Choice.{choose}
use Rattle.answers.specs.Answers.{number, no_weekday_form}
use Rattle.dates.specs.declared.Date.{Date}
use Rattle.calendar.specs.Days.{day}
use Rattle.calendar.specs.Written.{day_count, good_calendar, short_count, character_count, day_string_text, string_text, text_answer, day_string_answer}

module _ (c : List ℕ) where
  -- back from the last day
  pub short_found : (k : ℕ) → 0 < k → day c (k - 1) ≡ true → k ≡ short_count c k
  unfolding short_count
  short_found zero h p = absurd (omega arith)
  short_found (suc k) h p = let e : suc k - 1 ≡ k = omega arith in rw (rw e at p)

  pub short_on : (k : ℕ) → 0 < k → day c (k - 1) ≡ false → short_count c (k - 1) ≡ short_count c k
  unfolding short_count
  short_on zero h p = absurd (omega arith)
  short_on (suc k) h p = let e : suc k - 1 ≡ k = omega arith in rw (rw e at p, e)

  pub short_none : (k : ℕ) → k ≤ 0 → 1 ≡ short_count c k
  unfolding short_count
  short_none zero h = refl
  short_none (suc k) h = absurd (omega arith)

  -- at least one character, at most one for each day, and no running day behind them
  short_some : (n : ℕ) → 1 ≤ short_count c n
  unfolding short_count
  short_some zero = omega arith
  short_some (suc n) = let r = short_some n in choose (day c n) (λ p. rw p (omega arith)) (λ p. rw p r)

  short_few : (n : ℕ) → 1 ≤ n → short_count c n ≤ n
  unfolding short_count
  short_few zero h = absurd (omega arith)
  short_few (suc zero) h = choose (day c 0) (λ p. rw p (omega arith)) (λ p. rw p (omega arith))
  short_few (suc (suc n)) h =
      let r = short_few (suc n) (omega arith) in
      choose (day c (suc n)) (λ p. rw p (omega arith)) (λ p. rw p (omega arith))

  short_past : (n k : ℕ) → short_count c n ≤ k → k < n → day c k ≡ false
  unfolding short_count
  short_past zero k h l = absurd (omega arith)
  short_past (suc n) k h l =
      choose (day c n)
      (λ p. let g = rw p at h in absurd (omega arith))
      (λ p.
      elim (ℕ_discrete k n) [
        | yes e ↦ rw e p
        | no e ↦ short_past n k (rw p at h) (omega arith)
      ])

  -- so it goes up to the last running day, or is a single character where there is none
  pub short_last : (n : ℕ) → (day c (short_count c n - 1) ≡ true) ⊎ ((short_count c n ≡ 1) × ((k : ℕ) → k < n → day c k ≡ false))
  unfolding short_count
  short_last zero = inr (refl, λ k h. absurd (omega arith))
  short_last (suc n) =
      choose (day c n)
      (λ p. let e : suc n - 1 ≡ n = omega arith in inl (rw p (rw e p)))
      (λ p.
      elim (short_last n) [
        | inl q ↦ inl (rw p q)
        | inr q ↦ inr (
          rw p q.0,
          λ k h.
              elim (ℕ_discrete k n) [
                | yes e ↦ rw e p
                | no e ↦ q.1 k (omega arith)
              ],
        )
      ])

-- the same in either form
pub record Counted (c : List ℕ) (n m : ℕ) : Type 0 where
  pub some : 1 ≤ m
  pub few : m ≤ n
  pub past : (k : ℕ) → m ≤ k → k < n → day c k ≡ false

pub counted : (short : Bool) (c : List ℕ) (n : ℕ) → 1 ≤ n → Counted c n (character_count short c n)
counted true c n h = record { some = short_some c n; few = short_few c n h; past = short_past c n }
counted false c n h = record { some = h; few = omega arith; past = λ k l m. absurd (omega arith) }

-- the short form is the full one where the last day runs
pub short_full : (c : List ℕ) (first last : Date) → day c (day_count first last - 1) ≡ true → string_text true c first last ≡ string_text false c first last
short_full c first last p = ap (day_string_text c first last) (sym (short_found c (day_count first last) (omega arith) p))

-- and there always is one: it is never 20
pub string_exists : (short : Bool) (c : List ℕ) (first last : Date) (o : List ℕ) → day_string_answer short c first last o ≡ no_weekday_form → ⊥
unfolding day_string_answer text_answer
string_exists short c first last o e =
    choose (good_calendar c first last)
    (λ p.
    let q = rw p at e in
    choose (leb (length (string_text short c first last)) (length o))
    (λ r. let s = rw r at q in let z : ◌≡◌ {A = ℕ} 0 1 = cc in absurd (omega arith))
    (λ r. let s = rw r at q in let z : ◌≡◌ {A = ℕ} 17 20 = ap number s in absurd (omega arith)))
    (λ p. let q = rw p at e in let z : ◌≡◌ {A = ℕ} 19 20 = ap number q in absurd (omega arith))
