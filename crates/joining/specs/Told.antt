-- The answers of joining, in the order of the code.
-- Assumes nothing.
use Rattle.std.specs.Prelude.{◌≡◌, refl, List, Bool, ℕ, ◌+◌, ◌-◌, ◌*◌, ◌≤◌, ◌<◌, Result, Ok, Err}
use Rattle.std.proofs.Common.{ap, ◌∙◌}
use borrow.Author.Tests.{le-leb, lt-leb}
use Rattle.std.proofs.Math.ListN.{length}
use Rattle.laws.specs.Choice.{choose}
use Rattle.period.specs.Period.{period_of, period_answer, runs_by, period_from}
use Rattle.period.specs.Said.{pop_said}
use Rattle.period.specs.declared.Fault.{Fault}
use Rattle.period.specs.declared.Form.{Form}
use Rattle.joining.specs.Joined.{marked, in_window, window_answer, window_days, window_answer_by, answered, days_joined, joined_answer, windowed, join_answer, joined}
use Rattle.period.specs.declared.Period.{Period}
use Rattle.joining.specs.declared.JoinError.{JoinError}
use Rattle.joining.specs.declared.JoinError.TheVariants.{WrongPeriod, Outside}

module _ (c : List ℕ) (o : ℕ) (g : List ℕ) (f n : ℕ) (form : Form) where
  pub before_window : f < o → (Err Outside ≡ window_answer (length c) o f n) × (c ≡ window_days c o g f n form)
  unfolding window_answer window_days
  before_window h = (rw (lt-leb o f h), rw (lt-leb o f h))

  module _ (h : o ≤ f) where
    pub past_window : 8 * length c < f - o + n → (Err Outside ≡ window_answer (length c) o f n) × (c ≡ window_days c o g f n form)
    unfolding window_answer window_days
    past_window k = (rw (le-leb o f h, lt-leb (f - o + n) (8 * length c) k), rw (le-leb o f h, lt-leb (f - o + n) (8 * length c) k))

    pub in_window_lem : {last : List ℕ} → f - o + n ≤ 8 * length c → last ≡ marked (runs_by g form f) c (f - o) 0 n
        → (joined ≡ window_answer (length c) o f n) × (last ≡ window_days c o g f n form)
    unfolding window_answer window_days
    in_window_lem k e = (rw (le-leb o f h, le-leb (f - o + n) (8 * length c) k), rw (le-leb o f h, le-leb (f - o + n) (8 * length c) k) e)

module _ (wish : Bool) (c : List ℕ) (o : ℕ) (g : List ℕ) where
  pub wrong_told : {x : Fault} → period_of wish g ≡ Err x → (Err (WrongPeriod x) ≡ answered wish (length c) o g) × (c ≡ days_joined wish c o g)
  unfolding answered days_joined
  wrong_told e = (rw e, rw e)

  pub good_told : {f n : ℕ} {form : Form} {r : Result (Unit {0}) JoinError} {last : List ℕ} → period_of wish g ≡ period_from f n form
      → (r ≡ window_answer (length c) o f n) × (last ≡ window_days c o g f n form) → (r ≡ answered wish (length c) o g) × (last ≡ days_joined wish c o g)
  unfolding answered days_joined
  good_told e w = (rw e w.0, rw e w.1)

-- what joining comes to is what the table answers
by_said : (at bytes o : ℕ) (p : Result Period Fault) → joined_answer at (window_answer_by bytes o p) ≡ windowed at bytes o (period_answer at p)
unfolding window_answer
by_said at bytes o (Err x) = refl
by_said at bytes o (Ok v) = choose (in_window (8 * bytes) o v.days.first v.days.count) (λ q. rw q) (λ q. rw q)

pub join_said : (wish : Bool) (at bytes o : ℕ) (g : List ℕ) {r : Result (Unit {0}) JoinError} → r ≡ answered wish bytes o g → joined_answer at r ≡ join_answer wish at bytes o g
unfolding answered
join_said wish at bytes o g e = ap (joined_answer at) e ∙ by_said at bytes o (period_of wish g) ∙ ap (windowed at bytes o) (pop_said wish at g)
