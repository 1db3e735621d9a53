-- The numbers of one interchange differ (12), so that each service finds of its own number what the account held at the start: its tests
-- are tests of the start, and removals may all come before puts.
-- Assumes nothing.
use Prim.Native.Nat.{ℕ, zero, suc, ◌+◌, ◌/◌, ◌≤◌, ◌<◌}
use Rattle.std.specs.Prelude.{◌≡◌, false, List, length, Some, None}
use Rattle.std.proofs.Math.Path.{refl}
use Rattle.std.proofs.Common.{◌∙◌, arith}
use Rattle.std.proofs.Math.Bool.{true}
use Rattle.std.proofs.Math.Option.{Option, none, some}
use Rattle.std.specs.declared.option.Option as found
use Rattle.laws.specs.Choice.{both, choose}
use Rattle.answers.specs.Answers.{Answer, done, refused}
use Rattle.syntax.specs.Bytes.{plain}
use Rattle.parts.specs.Places.{bytes_of}
use Rattle.values.specs.Values.{same_text}
use Rattle.services.specs.declared.Service.{Service}
use Rattle.services.specs.Rows.{row_count, list_of}
use Rattle.services.specs.Search.{some_none}
use Rattle.services.specs.Services.{is_service, service_at, periods_of, is_wrong, is_same_service, says_number, is_twice}
use Rattle.contents.specs.Contents.{Record, in_order}
use Rattle.contents.specs.Calls.{lookup, changed}
use Rattle.service_tests.specs.declared.Totals.{Totals}
use Rattle.stages.specs.Stage.{number_in, first_outside, is_unknown, entry, enter_known, enter_inside, enter, and_then, enter_all}
use Rattle.stages.specs.Changing.{other, order, entry_keeps}
use Rattle.service_entries.specs.Room.{known_of, look_in}
use Rattle.service_tests.specs.Tests.{unknown_by, test_known, test_inside, test_one, then_test, test_all}
use Rattle.staging.specs.Passes.{entered}

unknown_same : (o : Option Record) → is_unknown o ≡ unknown_by (known_of o)
unfolding known_of
unknown_same none = refl
unknown_same (some r) = refl

-- the records where the tests are passed
abbrev pub finish : Answer Totals → List Record → Answer (List Record)
finish (done t) rs = done rs
finish (refused refusal) rs = refused refusal

window_same : (o : found.Option ℕ) (x : Answer (List Record)) (y : Answer Totals) (z : List Record) → x ≡ finish y z → enter_inside o x ≡ finish (test_inside o y) z
window_same None x y z e = e
window_same (Some at) x y z e = refl

then_same : (x : Answer Totals) (enters : List Record → Answer (List Record)) (tests : Totals → Answer Totals) (ends : List Record → List Record) (rs : List Record)
    → ((t : Totals) → enters rs ≡ finish (tests t) (ends rs)) → and_then enters (finish x rs) ≡ finish (then_test tests x) (ends rs)
then_same (done t) enters tests ends rs h = h t
then_same (refused refusal) enters tests ends rs h = refl

-- no service before row i has the number
abbrev pub Unsaid : List ℕ → List ℕ → List ℕ → ℕ → Type 0
Unsaid s rows x i = (j : ℕ) → j < i → is_same_service s rows x j ≡ false

-- of the numbers that no service before row i has, the records say what they said at the start
abbrev pub Alike : List ℕ → List ℕ → List Record → ℕ → List Record → Type 0
Alike s rows start i rs = (x : List ℕ) → Unsaid s rows x i → lookup (plain x) rs ≡ lookup (plain x) start

-- the services of k rows from row i on, of n rows
abbrev pub services_in : List ℕ → List ℕ → ℕ → ℕ → ℕ → List Service
services_in s rows n k i = list_of (is_service rows) (service_at s rows n) k i

module _ (s rows : List ℕ) (n : ℕ) (fits : n ≤ length rows / 3) where
  pub alone : (i : ℕ) → i < n → (number : List ℕ) → is_twice s rows number i ≡ false → Unsaid s rows number i
  unfolding is_twice
  alone i h number q j a = some_none (is_same_service s rows number) 0 (row_count rows i) q j (omega arith) (omega arith)

  -- the service of row i does not have a number that no service up to it has
  pub apart : (i : ℕ) → is_service rows i ≡ true → (x : List ℕ) → is_same_service s rows x i ≡ false → same_text (number_in s (service_at s rows n i)) (plain x) ≡ false
  unfolding is_same_service says_number service_at
  apart i h x q = rw h at q

module _ (first : ℕ) (s rows : List ℕ) (n : ℕ) (fits : n ≤ length rows / 3) (start : List Record) where
  abbrev pub service : ℕ → Service
  service i = service_at s rows n i

  abbrev pub after : ℕ → List Record → List Record
  after i rs = changed (number_in s (service_at s rows n i)) (entry first s rows (service_at s rows n i)) rs

  pub after_ordered : (i : ℕ) (rs : List Record) → in_order rs ≡ true → in_order (after i rs) ≡ true
  after_ordered i rs w = order (number_in s (service i)) (entry first s rows (service i)) rs w (entry_keeps first s rows (service i))

  pub after_alike : (i : ℕ) (rs : List Record) → is_service rows i ≡ true → in_order rs ≡ true → Alike s rows start i rs → Alike s rows start (i + 1) (after i rs)
  after_alike i rs h w a x u =
      other (number_in s (service i)) (entry first s rows (service i)) rs w (entry_keeps first s rows (service i)) (plain x) (apart s rows n fits i h x (u i (omega arith)))
      ∙ a x (λ j b. u j (omega arith))

  pub own_row : (i : ℕ) → is_twice s rows (bytes_of s (service i).number) (service i).from ≡ false → is_twice s rows (bytes_of s (service i).number) i ≡ false
  unfolding service_at
  own_row i q = q

  -- one service's tests are tests of the start
  known_same : (i : ℕ) (rs : List Record) (t : Totals) → lookup (number_in s (service i)) rs ≡ lookup (number_in s (service i)) start
      → enter_known first s rows (service i) rs ≡ finish (test_known (service i).removal (service i).prd (look_in start (number_in s (service i))) t) (after i rs)
  unfolding enter_known test_known
  known_same i rs t e =
      rw (e, unknown_same (lookup (number_in s (service i)) start))
      (choose (both (service i).removal (unknown_by (look_in start (number_in s (service i))))) (λ q. rw q) (λ q. rw q))

  one_same : (i : ℕ) (rs : List Record) (t : Totals) → i < n → Alike s rows start i rs
      → enter first s rows (service i) rs ≡ finish (test_one first s rows (look_in start) (service i) t) (after i rs)
  unfolding enter test_one
  one_same i rs t h a =
      choose (is_wrong s rows (service i)) (λ p. rw p)
      (λ p.
      choose (is_twice s rows (bytes_of s (service i).number) (service i).from) (λ q. rw (p, q))
      (λ q.
      rw (p, q)
      (window_same (first_outside true first s (periods_of rows (service i))) (enter_known first s rows (service i) rs)
      (test_known (service i).removal (service i).prd (look_in start (number_in s (service i))) t) (after i rs)
      (known_same i rs t (a (bytes_of s (service i).number) (alone s rows n fits i h (bytes_of s (service i).number) (own_row i q)))))))

  -- the services in order: the first refusal of their tests, or the records that all of them leave
  pub enter_tested : (k i : ℕ) (rs : List Record) (t : Totals) → i + k ≤ n → in_order rs ≡ true → Alike s rows start i rs
      → enter_all first s rows (services_in s rows n k i) rs ≡ finish (test_all first s rows (look_in start) (services_in s rows n k i) t) (entered first s rows (services_in s rows n k i) rs)
  unfolding list_of enter_all test_all entered
  enter_tested zero i rs t h w a = refl
  enter_tested (suc k) i rs t h w a =
      choose (is_service rows i)
      (λ q.
      rw (q, one_same i rs t (omega arith) a)
      (then_same (test_one first s rows (look_in start) (service i) t) (enter_all first s rows (services_in s rows n k (i + 1))) (test_all first s rows (look_in start) (services_in s rows n k (i + 1))) (entered first s rows (services_in s rows n k (i + 1))) (after i rs)
      (λ u. enter_tested k (i + 1) (after i rs) u (omega arith) (after_ordered i rs w) (after_alike i rs q w a))))
      (λ q. rw q (enter_tested k (i + 1) rs t (omega arith) w (λ x u. a x (λ j b. u j (omega arith)))))
