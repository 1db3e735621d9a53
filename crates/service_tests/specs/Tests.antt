-- The tests of the services against what the account holds at the start, and how many records they add and drop.
-- Assumes nothing.
use Rattle.std.specs.Prelude.{ℕ, ◌+◌, ◌<◌, Bool, true, false, List, [], ◌∷◌, Option, Some, None, Result, Ok, Err}
use Rattle.laws.specs.Choice.{pick, both}
use Rattle.answers.specs.declared.Refusal.{Refusal}
use Rattle.answers.specs.Answers.{Answer, done, refused, wrong_service, number_twice, outside_window, unknown_service}
use Rattle.parts.specs.Places.{bytes_of}
use Rattle.services.specs.declared.Service.{Service}
use Rattle.services.specs.Services.{periods_of, is_wrong, is_twice}
use Rattle.service_tests.specs.declared.Totals.{Totals}
use Rattle.service_entries.specs.declared.Known.{Known}
use Rattle.stages.specs.Stage.{number_in, first_outside}

-- "What each number means"
abbrev pub totals_answer : Result Totals Refusal → Answer Totals
totals_answer (Ok t) = done t
totals_answer (Err x) = refused x

-- 14: "it is unknown where the account has no record or already a pending removal"
abbrev pub unknown_by : Option Known → Bool
unknown_by None = true
unknown_by (Some k) = k.removal_pending

-- a put of a number that has no record adds one; a removal drops one that has nothing live
abbrev pub adds : Bool → Option Known → ℕ
adds true k = 0
adds false None = 1
adds false (Some k) = 0

abbrev pub drops : Bool → Option Known → ℕ
drops false k = 0
drops true None = 0
drops true (Some k) = pick k.live 0 1

abbrev pub removals : Bool → ℕ
removals removal = pick removal 1 0

abbrev pub counted : Bool → Option Known → Totals → Totals
counted removal k t =
    record {
      services = t.services + 1;
      added = t.added + adds removal k;
      dropped = t.dropped + drops removal k;
      removals = t.removals + removals removal;
    }

-- 14, then the service counts
unfoldable pub test_known : Bool → ℕ → Option Known → Totals → Answer Totals
test_known removal prd k t = pick (both removal (unknown_by k)) (unknown_service prd) (done (counted removal k t))

abbrev pub test_inside : Option ℕ → Answer Totals → Answer Totals
test_inside None next = next
test_inside (Some at) next = outside_window at

-- one service: 11, 12, 13, 14; `look` says what the account holds of a number
unfoldable pub test_one : ℕ → List ℕ → List ℕ → (List ℕ → Option Known) → Service → Totals → Answer Totals
test_one first s rows look v t =
    pick (is_wrong s rows v) (wrong_service v.prd)
    (pick (is_twice s rows (bytes_of s v.number) v.from) (number_twice v.prd)
    (test_inside (first_outside true first s (periods_of rows v)) (test_known v.removal v.prd (look (number_in s v)) t)))

abbrev pub then_test : (Totals → Answer Totals) → Answer Totals → Answer Totals
then_test more (done t) = more t
then_test more (refused refusal) = refused refusal

-- "services in order", all against what the account holds at the start
unfoldable pub test_all : ℕ → List ℕ → List ℕ → (List ℕ → Option Known) → List Service → Totals → Answer Totals
test_all first s rows look [] t = done t
test_all first s rows look (v ∷ vs) t = then_test (test_all first s rows look vs) (test_one first s rows look v t)

abbrev pub no_totals : Totals
no_totals = record { services = 0; added = 0; dropped = 0; removals = 0 }

-- each of the totals can be counted on by one
pub record Counts (t : Totals) : Type 0 where
  pub services : t.services < 18446744073709551615
  pub added : t.added < 18446744073709551615
  pub dropped : t.dropped < 18446744073709551615
  pub removals : t.removals < 18446744073709551615
