-- The days of a calendar into which periods were joined: "A service's days are those selected by at least one of its periods."
-- Assumes nothing.
use Rattle.std.specs.Prelude.{◌≡◌, Bool, true, false, List, [], ◌∷◌, eqb, leb, ltb, length, get_or, replicate, Result, Ok, Err}
use Rattle.std.proofs.Math.Path.{refl, sym, ap}
use Rattle.std.proofs.Common.{◌∙◌, arith, eq-eqb, ne_eqb, lt-ltb, le-ltb, le-leb, leb-true}
use Prim.Native.Nat.{ℕ, zero, suc, ◌+◌, ◌-◌, ◌*◌, ◌/◌, ◌%◌, ◌≤◌, ◌<◌}
use Rattle.std.proofs.Math.Decide.{dec_lt, ℕ_discrete}
use Rattle.std.proofs.lemmas.Bool.{lt-leb}
use Rattle.laws.specs.Choice.{pick, both, either, both_false, either_true}
use Rattle.dates.specs.Dates.{number}
use Rattle.dates.specs.declared.Date.{Date}
use Rattle.calendar.specs.Days.{day, with_day}
use Rattle.calendar.specs.Bits.{bit_none}
use Rattle.calendar.specs.Laws.{day_same, day_other}
use Rattle.period.specs.Period.{period_of, runs_by, runs_in}
use Rattle.joining.specs.Joined.{marked, in_window, window_answer, window_days, window_answer_by, answered, joined_by, days_joined, join_all, selects_by, selects, any_selects, joined}
use Rattle.joining.specs.Marks.{length_step, length_marked}
use Rattle.period.specs.declared.Period.{Period}
use Rattle.period.specs.declared.Fault.{Fault}
use Rattle.joining.specs.declared.JoinError.TheVariants.{Outside}

pub either_false : (a : Bool) → either a false ≡ a
either_false true = refl
either_false false = refl

either_assoc : (a b c : Bool) → either (either a b) c ≡ either a (either b c)
either_assoc true b c = refl
either_assoc false b c = refl

-- one day marked
one_day : (w : Bool) (c : List ℕ) (i j : ℕ) → i < 8 * length c → day (pick w (with_day c i) c) j ≡ either (day c j) (both w (eqb j i))
one_day false c i j h = sym (either_false (day c j))
one_day true c i j h =
    elim (ℕ_discrete j i) [
      | yes e ↦ rw (e, eq-eqb i i refl, either_true (day c i)) (day_same c i (omega arith))
      | no e ↦ rw (ne_eqb j i e, either_false (day c j)) (day_other c i (omega arith) j e)
    ]

-- whether a day is one of the m from day k on, and the test holds of it
abbrev pub among_marked : (ℕ → Bool) → ℕ → ℕ → ℕ → ℕ → Bool
among_marked t at k m j = both (leb (at + k) j) (both (ltb j (at + k + m)) (t (j - at)))

module _ (t : ℕ → Bool) (at j : ℕ) where
  none_marked : (k : ℕ) → among_marked t at k 0 j ≡ false
  none_marked k =
      elim (dec_lt j (at + k)) [
        | yes l ↦ rw (lt-leb (at + k) j l)
        | no l ↦ rw (le-ltb j (at + k + 0) (omega arith)) (both_false (leb (at + k) j))
      ]

  one_more : (k m : ℕ) → either (both (t k) (eqb j (at + k))) (among_marked t at (k + 1) m j) ≡ among_marked t at k (suc m) j
  one_more k m =
      elim (dec_lt j (at + k)) [
        | yes l ↦
            rw (lt-leb (at + k) j l, lt-leb (at + (k + 1)) j (omega arith), ne_eqb j (at + k) (λ q. omega arith), both_false (t k))
        | no l ↦ elim (ℕ_discrete j (at + k)) [
          | yes e ↦
              let d : j - at ≡ k = omega arith in
              rw (lt-leb (at + (k + 1)) j (omega arith), eq-eqb j (at + k) e, le-leb (at + k) j (omega arith), lt-ltb j (at + k + suc m) (omega arith), d)
              (here (t k))
          | no e ↦
              rw (le-leb (at + (k + 1)) j (omega arith), le-leb (at + k) j (omega arith), ne_eqb j (at + k) e, both_false (t k))
              (ap (λ (x : ℕ). both (ltb j x) (t (j - at))) (omega arith))
        ]
      ]
    where
      here : (b : Bool) → either (both b true) false ≡ b
      here true = refl
      here false = refl

  pub day_marked : (c : List ℕ) (k m : ℕ) → at + k + m ≤ 8 * length c → day (marked t c at k m) j ≡ either (day c j) (among_marked t at k m j)
  unfolding marked
  day_marked c k zero h = sym (ap (either (day c j)) (none_marked k) ∙ either_false (day c j))
  day_marked c k (suc m) h =
      let c' = pick (t k) (with_day c (at + k)) c in
      let l = length_step (t k) c (at + k) {last = pick (t k) (with_day c (at + k)) c} refl in
      day_marked (pick (t k) (with_day c (at + k)) c) (k + 1) m (omega arith)
      ∙ ap (λ (x : Bool). either x (among_marked t at (k + 1) m j)) (one_day (t k) c (at + k) j (omega arith))
      ∙ either_assoc (day c j) (both (t k) (eqb j (at + k))) (among_marked t at (k + 1) m j)
      ∙ ap (either (day c j)) (one_more k m)

-- a period in the window
record Inside (bytes o f n : ℕ) : Type 0 where
  pub from : o ≤ f
  pub to : f - o + n ≤ 8 * bytes

inside_by : (p q : Bool) (bytes o f n : ℕ) → leb o f ≡ p → leb (f - o + n) (8 * bytes) ≡ q → pick (both p q) joined (Err Outside) ≡ joined → Inside bytes o f n
inside_by true true bytes o f n a b e = record { from = leb-true o f a; to = leb-true (f - o + n) (8 * bytes) b }
inside_by true false bytes o f n a b e = let z : ◌≡◌ {A = ℕ} 0 1 = cc in absurd (omega arith)
inside_by false q bytes o f n a b e = let z : ◌≡◌ {A = ℕ} 0 1 = cc in absurd (omega arith)

inside : (bytes o f n : ℕ) → window_answer bytes o f n ≡ joined → Inside bytes o f n
unfolding window_answer
inside bytes o f n e = inside_by (leb o f) (leb (f - o + n) (8 * bytes)) bytes o f n refl refl e

-- the same days by their numbers
by_number : (t : ℕ → Bool) (o f n j : ℕ) → o ≤ f → among_marked t (f - o) 0 n j ≡ both (leb f (o + j)) (both (ltb (o + j - f) n) (t (o + j - f)))
by_number t o f n j h =
    elim (dec_lt (o + j) f) [
      | yes l ↦ rw (lt-leb f (o + j) l, lt-leb (f - o + 0) j (omega arith))
      | no l ↦
          let d : j - (f - o) ≡ o + j - f = omega arith in
          rw (le-leb f (o + j) (omega arith), le-leb (f - o + 0) j (omega arith), d)
          (elim (dec_lt j (f - o + 0 + n)) [
            | yes k ↦ rw (lt-ltb j (f - o + 0 + n) k, lt-ltb (o + j - f) n (omega arith))
            | no k ↦ rw (le-ltb j (f - o + 0 + n) (omega arith), le-ltb (o + j - f) n (omega arith))
          ])
    ]

by_day : (p : Result Period Fault) (c : List ℕ) (o : ℕ) (g : List ℕ) (j : ℕ) → window_answer_by (length c) o p ≡ joined
    → day (joined_by c o g p) j ≡ either (day c j) (selects_by g p (o + j))
unfolding window_days runs_in
by_day (Err x) c o g j e = let z : ◌≡◌ {A = ℕ} 0 1 = cc in absurd (omega arith)
by_day (Ok v) c o g j e =
    let i = inside (length c) o v.days.first v.days.count e in
    let k = i.to in
    rw (le-leb o v.days.first i.from, le-leb (v.days.first - o + v.days.count) (8 * length c) i.to)
    (day_marked (runs_by g v.form v.days.first) (v.days.first - o) j c 0 v.days.count (omega arith) ∙ ap (either (day c j)) (by_number (runs_by g v.form v.days.first) o v.days.first v.days.count j i.from))

refused_by : (p : Result Period Fault) (c : List ℕ) (o : ℕ) (g : List ℕ) → (window_answer_by (length c) o p ≡ joined → ⊥) → joined_by c o g p ≡ c
unfolding window_days window_answer
refused_by (Err x) c o g e = refl
refused_by (Ok v) c o g e = outside (in_window (8 * length c) o v.days.first v.days.count) refl
  where
    outside : (q : Bool) → in_window (8 * length c) o v.days.first v.days.count ≡ q → window_days c o g v.days.first v.days.count v.form ≡ c
    outside true a = absurd (e (rw a))
    outside false a = rw a

length_by : (p : Result Period Fault) (c : List ℕ) (o : ℕ) (g : List ℕ) → length (joined_by c o g p) ≡ length c
unfolding window_days
length_by (Err x) c o g = refl
length_by (Ok v) c o g = picked (in_window (8 * length c) o v.days.first v.days.count)
  where
    picked : (q : Bool) → length (pick q (marked (runs_by g v.form v.days.first) c (v.days.first - o) 0 v.days.count) c) ≡ length c
    picked true = length_marked (runs_by g v.form v.days.first) c (v.days.first - o) 0 v.days.count
    picked false = refl

module _ (wish : Bool) (c : List ℕ) (o : ℕ) (g : List ℕ) where
  -- after a period is joined a day is selected exactly when it was before or the period selects it
  pub joined_day : answered wish (length c) o g ≡ joined → (j : ℕ) → day (days_joined wish c o g) j ≡ either (day c j) (selects wish g (o + j))
  unfolding answered days_joined selects
  joined_day e j = by_day (period_of wish g) c o g j e

  -- a refusal changes nothing
  pub joined_refused : (answered wish (length c) o g ≡ joined → ⊥) → days_joined wish c o g ≡ c
  unfolding answered days_joined
  joined_refused e = refused_by (period_of wish g) c o g e

  pub length_joined : length (days_joined wish c o g) ≡ length c
  unfolding days_joined
  length_joined = length_by (period_of wish g) c o g

-- each of some POPs is good and in the window
abbrev pub AllDone : Bool → ℕ → ℕ → List (List ℕ) → Type 0
AllDone wish bytes o [] = Unit {0}
AllDone wish bytes o (g ∷ gs) = (answered wish bytes o g ≡ joined) × AllDone wish bytes o gs

pub joined_all : (wish : Bool) (gs : List (List ℕ)) (c : List ℕ) (o j : ℕ) → AllDone wish (length c) o gs
    → day (join_all wish c o gs) j ≡ either (day c j) (any_selects wish gs (o + j))
unfolding join_all
joined_all wish [] c o j a = sym (either_false (day c j))
joined_all wish (g ∷ gs) c o j a =
    joined_all wish gs (days_joined wish c o g) o j (rw (length_joined wish c o g) a.1)
    ∙ ap (λ (x : Bool). either x (any_selects wish gs (o + j))) (joined_day wish c o g a.0 j)
    ∙ either_assoc (day c j) (selects wish g (o + j)) (any_selects wish gs (o + j))

-- a calendar with no day
pub no_days : ℕ → List ℕ
no_days n = replicate n 0

zero_at : (n i : ℕ) → ◌≡◌ {A = ℕ} (get_or (replicate n 0) i 0) 0
zero_at zero i = refl
zero_at (suc n) zero = refl
zero_at (suc n) (suc i) = zero_at n i

pub no_byte : (n i : ℕ) → ◌≡◌ {A = ℕ} (get_or (no_days n) i 0) 0
unfolding no_days
no_byte n i = zero_at n i

pub no_day : (n j : ℕ) → day (no_days n) j ≡ false
unfolding day no_days
no_day n j = rw (zero_at n (j / 8)) (bit_none (j % 8) (omega arith))

pub length_none : (n : ℕ) → length (no_days n) ≡ n
unfolding no_days
length_none zero = refl
length_none (suc n) = ap suc (length_none n)

-- a service runs on exactly the dates that its periods select; o is the number of the window's first date
pub service_runs : (wish : Bool) (bytes o : ℕ) (gs : List (List ℕ)) (a : Date) → AllDone wish bytes o gs → o ≤ number a
    → day (join_all wish (no_days bytes) o gs) (number a - o) ≡ any_selects wish gs (number a)
service_runs wish bytes o gs a d h =
    let e : o + (number a - o) ≡ number a = omega arith in
    joined_all wish gs (no_days bytes) o (number a - o) (rw (length_none bytes) d)
    ∙ rw (no_day bytes (number a - o), e)
