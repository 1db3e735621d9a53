-- What services that pass their tests are.
-- Assumes nothing.
use Rattle.std.specs.Prelude.{ℕ, ◌≡◌, false, List, ◌∷◌, Option, Some, None}
use Rattle.std.proofs.Math.Path.{refl}
use Rattle.std.proofs.Common.{sym, ap, ◌∙◌}
use Rattle.std.proofs.Math.Bool.{true}
use Rattle.laws.specs.Choice.{both, choose}
use Rattle.answers.specs.declared.Refusal.{Refusal}
use Rattle.answers.specs.Answers.{Answer, done, refused}
use Rattle.answers.specs.Laws.{refused≢done, done_is, refused_is}
use Rattle.parts.specs.Places.{bytes_of}
use Rattle.services.specs.declared.Service.{Service}
use Rattle.services.specs.Services.{periods_of, is_wrong, is_twice}
use Rattle.service_tests.specs.declared.Totals.{Totals}
use Rattle.service_entries.specs.declared.Known.{Known}
use Rattle.stages.specs.Stage.{number_in, first_outside}
use Rattle.service_tests.specs.Tests.{unknown_by, counted, test_known, test_inside, test_one, then_test, test_all}

-- a refusal is the same whatever would have been done
pub refused_again : (A : Type 0) (B : Type 0) (x y : Refusal) → ◌≡◌ {A = Answer A} (refused x) (refused y) → ◌≡◌ {A = Answer B} (refused x) (refused y)
refused_again A B x y q = ap refused (refused_is q)

-- what a service that passes its tests is
pub record Pass (first : ℕ) (s rows : List ℕ) (look : List ℕ → Option Known) (v : Service) : Type 0 where
  pub right : is_wrong s rows v ≡ false
  pub once : is_twice s rows (bytes_of s v.number) v.from ≡ false
  pub inside : first_outside true first s (periods_of rows v) ≡ None
  pub known : both v.removal (unknown_by (look (number_in s v))) ≡ false

module _ (first : ℕ) (s rows : List ℕ) (look : List ℕ → Option Known) (v : Service) (t u : Totals) where
  abbrev known : Answer Totals
  known = test_known v.removal v.prd (look (number_in s v)) t

  inside_none : (o : Option ℕ) (y : Answer Totals) → test_inside o y ≡ done u → (o ≡ None) × (y ≡ done u)
  inside_none None y q = (refl, q)
  inside_none (Some at) y q = absurd (refused≢done q)

  known_done : known ≡ done u → (both v.removal (unknown_by (look (number_in s v))) ≡ false) × (u ≡ counted v.removal (look (number_in s v)) t)
  unfolding test_known
  known_done q =
      choose (both v.removal (unknown_by (look (number_in s v))))
      (λ p. absurd (refused≢done (rw p at q)))
      (λ p. (p, done_is (sym (rw p at q))))

  pub passed : test_one first s rows look v t ≡ done u → Pass first s rows look v × (u ≡ counted v.removal (look (number_in s v)) t)
  unfolding test_one
  passed q =
      choose (is_wrong s rows v) (λ p. absurd (refused≢done (rw p at q)))
      (λ p.
      choose (is_twice s rows (bytes_of s v.number) v.from) (λ r. absurd (refused≢done (rw (p, r) at q)))
      (λ r.
      let w = inside_none (first_outside true first s (periods_of rows v)) known (rw (p, r) at q) in
      let k = known_done w.1 in
      (record { right = p; once = r; inside = w.0; known = k.0 }, k.1)))

-- the first passes, and the others are tested on from what it counts
module _ (first : ℕ) (s rows : List ℕ) (look : List ℕ → Option Known) (v : Service) (vs : List Service) (t u : Totals) where
  then_done : (x : Answer Totals) → test_one first s rows look v t ≡ x → then_test (test_all first s rows look vs) x ≡ done u
      → Pass first s rows look v × (test_all first s rows look vs (counted v.removal (look (number_in s v)) t) ≡ done u)
  then_done (done w) e q =
      let p = passed first s rows look v t w e in
      (p.0, ap (test_all first s rows look vs) (sym p.1) ∙ q)
  then_done (refused refusal) e q = absurd (refused≢done q)

  pub passed_first : test_all first s rows look (v ∷ vs) t ≡ done u
      → Pass first s rows look v × (test_all first s rows look vs (counted v.removal (look (number_in s v)) t) ≡ done u)
  unfolding test_all
  passed_first q = then_done (test_one first s rows look v t) refl q
