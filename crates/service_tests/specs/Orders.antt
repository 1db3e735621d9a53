-- The orders of services that are kept while they are tested, and that they put what the services put.
-- Assumes nothing.
use Prim.Native.Nat.{ℕ, suc, ◌+◌, ◌*◌, ◌≤◌, ◌<◌}
use Rattle.std.specs.Prelude.{◌≡◌, Bool, true, false, Option, Result, Ok, Err}
use Rattle.std.proofs.Math.Path.{refl, ap}
use Rattle.std.proofs.Common.{sym, ◌∙◌}
use mathlib.Core.List.{List, [], ◌∷◌, map}
use Rattle.answers.specs.declared.Refusal.{Refusal}
use native.Mathlib.Omega.{arith}
use Rattle.std.proofs.Math.ListN.{length}
use Rattle.laws.specs.Choice.{choose}
use Rattle.answers.specs.Answers.{Answer, done, refused}
use Rattle.answers.specs.Laws.{refused≢done, done_is}
use Rattle.syntax.specs.Segment.{body_at}
use Rattle.period.specs.Period.{period_of}
use Rattle.joining.specs.Joined.{in_window, window_answer, window_answer_by, answered, days_joined, join_all}
use Rattle.services.specs.declared.Service.{Service}
use Rattle.service_entries.specs.declared.Known.{Known}
use Rattle.service_entries.specs.Room.{put_bytes, puts_in}
use Rattle.service_entries.specs.Orders.{order_of, ordered, order_at, put_order, put_orders, order_same, order_other, order_size, order_enters, ordered_length}
use Rattle.stages.specs.Stage.{outside_by}
use Rattle.service_tests.specs.declared.Totals.{Totals}
use Rattle.service_tests.specs.Tests.{test_one, then_test, test_all}
use Rattle.service_tests.specs.Passed.{passed}
use Rattle.period.specs.declared.Period.{Period}
use Rattle.period.specs.declared.Fault.{Fault}
use Rattle.joining.specs.declared.JoinError.{JoinError}
use Rattle.joining.specs.declared.JoinError.TheVariants.{WrongPeriod, Outside}

-- the orders of the services up to the first that is refused
abbrev pub then_order : (Totals → List ℕ) → List ℕ → Answer Totals → List ℕ
then_order more d (done t) = more t
then_order more d (refused refusal) = d

unfoldable pub orders_all : ℕ → List ℕ → List ℕ → (List ℕ → Option Known) → List Service → Totals → List ℕ → List ℕ
orders_all first s rows look [] t d = d
orders_all first s rows look (v ∷ vs) t d =
    then_order (λ u. orders_all first s rows look vs u (ordered d t.services (order_of first s rows v))) d (test_one first s rows look v t)

-- ---- joining tests too

abbrev pub is_outside : Result (Unit {0}) JoinError → Bool
is_outside (Err Outside) = true
is_outside (Ok x) = false
is_outside (Err (WrongPeriod x)) = false

outside_by_lem : (first : ℕ) (p : Result Period Fault) → is_outside (window_answer_by 64 first p) ≡ outside_by first p
unfolding window_answer
outside_by_lem first (Err x) = refl
outside_by_lem first (Ok v) = choose (in_window 512 first v.days.first v.days.count) (λ q. rw q) (λ q. rw q)

pub outside_told : (first : ℕ) (g : List ℕ) (m : ℕ) (r : Result (Unit {0}) JoinError) → m ≡ 64 → r ≡ answered true m first g → is_outside r ≡ outside_by first (period_of true g)
unfolding answered
outside_told first g m r l e = ap is_outside (e ∙ ap (λ (k : ℕ). window_answer_by k first (period_of true g)) l) ∙ outside_by_lem first (period_of true g)

pub join_told : (first : ℕ) (g c last : List ℕ) (r : Result (Unit {0}) JoinError) → length c ≡ 64 → (r ≡ answered true (length c) first g) × (last ≡ days_joined true c first g)
    → (is_outside r ≡ outside_by first (period_of true g)) × (last ≡ days_joined true c first g)
join_told first g c last r l e = (outside_told first g (length c) r l e.0, e.1)

pub join_next : (first : ℕ) (s l c last : List ℕ) (at : ℕ) (rest : List ℕ) → l ≡ at ∷ rest → last ≡ days_joined true c first (body_at s at)
    → join_all true last first (map (body_at s) rest) ≡ join_all true c first (map (body_at s) l)
unfolding join_all
join_next first s l c last at rest e b = rw (e, b)

-- ---- the ways through the code

module _ (first : ℕ) (s rows : List ℕ) (look : List ℕ → Option Known) (l : List Service) (t : Totals) (d : List ℕ) where
  pub orders_done : l ≡ [] → orders_all first s rows look l t d ≡ d
  unfolding orders_all
  orders_done e = rw e

  module _ (v : Service) (rest : List Service) (e : l ≡ v ∷ rest) where
    pub orders_on : (u : Totals) (last : List ℕ) → done u ≡ test_one first s rows look v t → last ≡ ordered d t.services (order_of first s rows v)
        → orders_all first s rows look rest u last ≡ orders_all first s rows look l t d
    unfolding orders_all
    orders_on u last q a = rw (e, ← q, a)

    pub orders_stop : (x : Refusal) → refused x ≡ test_one first s rows look v t → orders_all first s rows look l t d ≡ d
    unfolding orders_all
    orders_stop x q = rw (e, ← q)

-- ---- the orders put what the services put

module _ (first : ℕ) (s rows : List ℕ) (look : List ℕ → Option Known) where
  -- one that passes counts one more
  count_more : (v : Service) (t w : Totals) → test_one first s rows look v t ≡ done w → w.services ≡ t.services + 1
  count_more v t w e = ap (λ (x : Totals). x.services) (passed first s rows look v t w e).1

  pub services_count : (l : List Service) (t u : Totals) → test_all first s rows look l t ≡ done u → u.services ≡ t.services + length l
  unfolding test_all
  services_count [] t u e = ap (λ (x : Totals). x.services) (sym (done_is e)) ∙ omega arith
  services_count (v ∷ vs) t u e = count_by (λ w. services_count vs w u) (test_one first s rows look v t) refl e
    where
      count_by : ((w : Totals) → test_all first s rows look vs w ≡ done u → u.services ≡ w.services + length vs) → (x : Answer Totals) → test_one first s rows look v t ≡ x
          → then_test (test_all first s rows look vs) x ≡ done u → u.services ≡ t.services + suc (length vs)
      count_by again (refused refusal) q r = absurd (refused≢done r)
      count_by again (done w) q r =
          let c = count_more v t w q in
          let b = again w r in
          omega arith

  -- orders before those that are kept now stay
  orders_keep : (l : List Service) (t : Totals) (d : List ℕ) (j : ℕ) → j < t.services → order_at (orders_all first s rows look l t d) j ≡ order_at d j
  unfolding orders_all
  orders_keep [] t d j h = refl
  orders_keep (v ∷ vs) t d j h = keep_by (λ w b k. orders_keep vs w b j k) (test_one first s rows look v t) refl
    where
      keep_by : ((w : Totals) (b : List ℕ) → j < w.services → order_at (orders_all first s rows look vs w b) j ≡ order_at b j) → (x : Answer Totals) → test_one first s rows look v t ≡ x
          → order_at (then_order (λ u. orders_all first s rows look vs u (ordered d t.services (order_of first s rows v))) d x) j ≡ order_at d j
      keep_by again (refused refusal) e = refl
      keep_by again (done w) e =
          let c = count_more v t w e in
          again w (ordered d t.services (order_of first s rows v)) (omega arith) ∙ order_other d t.services (order_of first s rows v) j h

  pub orders_put : (l : List Service) (t u : Totals) (d room : List ℕ) → test_all first s rows look l t ≡ done u → 75 * (t.services + length l) ≤ length d
      → put_orders (orders_all first s rows look l t d) t.services (length l) room ≡ puts_in first s rows l room
  unfolding test_all orders_all puts_in put_orders
  orders_put [] t u d room e h = refl
  orders_put (v ∷ vs) t u d room e h = put_by_lem (λ w b. orders_put vs w u b (put_bytes first s rows v room)) (test_one first s rows look v t) refl e
    where
      put_by_lem : ((w : Totals) (b : List ℕ) → test_all first s rows look vs w ≡ done u → 75 * (w.services + length vs) ≤ length b
          → put_orders (orders_all first s rows look vs w b) w.services (length vs) (put_bytes first s rows v room) ≡ puts_in first s rows vs (put_bytes first s rows v room))
          → (x : Answer Totals) → test_one first s rows look v t ≡ x → then_test (test_all first s rows look vs) x ≡ done u
          → put_orders (then_order (λ w. orders_all first s rows look vs w (ordered d t.services (order_of first s rows v))) d x) t.services (suc (length vs)) room
          ≡ puts_in first s rows vs (put_bytes first s rows v room)
      put_by_lem again (refused refusal) q r = absurd (refused≢done r)
      put_by_lem again (done w) q r =
          let c = count_more v t w q in
          let o = order_of first s rows v in
          let d₁ = ordered d t.services o in
          let l₁ = ordered_length d t.services o in
          let b = again w d₁ r (omega arith) in
          let a : order_at (orders_all first s rows look vs w d₁) t.services ≡ o = orders_keep vs w d₁ t.services (omega arith) ∙ order_same d t.services o (omega arith) (order_size first s rows v) in
          ap (λ (z : List ℕ). put_orders (orders_all first s rows look vs w d₁) (t.services + 1) (length vs) (put_order z room)) a
          ∙ ap (put_orders (orders_all first s rows look vs w d₁) (t.services + 1) (length vs)) (order_enters first s rows v room)
          ∙ ap (λ (k : ℕ). put_orders (orders_all first s rows look vs w d₁) k (length vs) (put_bytes first s rows v room)) (sym c)
          ∙ b
