-- Staging on a room of good records is staging on the records, and what it leaves is good.
-- Assumes nothing.
use Rattle.std.specs.Prelude.{ℕ, ◌+◌, ◌/◌, ◌≤◌, ◌≡◌, false, leb, Option}
use Rattle.std.proofs.Math.Path.{refl, ap}
use Rattle.std.proofs.Common.{◌∙◌, leb-true}
use Rattle.std.proofs.Math.Bool.{true}
use mathlib.Core.List.{List, [], ◌∷◌}
use native.Mathlib.Omega.{arith}
use Rattle.std.proofs.Math.ListN.{length}
use Rattle.laws.specs.Choice.{choose}
use Rattle.answers.specs.Answers.{Answer, done, refused}
use Rattle.slots.specs.Slots.{slots_of}
use Rattle.slots.specs.Rising.{leading}
use Rattle.services.specs.declared.Service.{Service}
use Rattle.services.specs.Services.{periods_of, is_wrong, services_of}
use Rattle.contents.specs.Contents.{Record, good_number, in_order, good_account}
use Rattle.contents.specs.Written.{room_bytes}
use Rattle.contents.specs.Calls.{View, Called, lookup, changed}
use Rattle.rooms.specs.Slots.{length_room, account_fits, account_records, account_order}
use Rattle.rooms.specs.Changed.{changed_length}
use Rattle.rooms.specs.Places.{used_in_room}
use Rattle.service_tests.specs.declared.Totals.{Totals}
use Rattle.service_entries.specs.declared.Known.{Known}
use Rattle.stages.specs.Stage.{number_in, days_of, removed, put_over, stage_services}
use Rattle.stages.specs.Changing.{order, put_keeps}
use Rattle.service_tests.specs.Tests.{test_one, then_test, test_all, no_totals}
use Rattle.staging.specs.Passes.{remove_all, put_all}
use Rattle.service_tests.specs.Passed.{passed_first}
use Rattle.staging.specs.Ends.{passed_size, close_totals, stage_totals}
use Rattle.stages.specs.Permitted.{days_calendar}
use Rattle.stages.specs.Kept.{Named}
use Rattle.service_entries.specs.Room.{look_in, look_at, removes_in, puts_in}
use Rattle.staging.specs.Room.{room_tests, room_fits, room_answer, room_after}
use Rattle.service_entries.specs.Rooms.{put_count, look_room, remove_room, removed_account, put_room_of, put_account}

-- ---- the tests on the room are those on the records

module _ (quota : ℕ) (start : List Record) (g : good_account quota start ≡ true) (first : ℕ) (s rows : List ℕ) where
  then_same : (f h : Totals → Answer Totals) → ((t : Totals) → f t ≡ h t) → (x : Answer Totals) → then_test f x ≡ then_test h x
  then_same f h e (done t) = e t
  then_same f h e (refused refusal) = refl

  one_room : (v : Service) (t : Totals) → (is_wrong s rows v ≡ false → good_number (number_in s v) ≡ true)
      → test_one first s rows (look_at (room_bytes quota start)) v t ≡ test_one first s rows (look_in start) v t
  unfolding test_one
  one_room v t n = choose (is_wrong s rows v) (λ p. rw p) (λ p. rw (p, look_room quota start g (number_in s v) (n p)))

  tests_room : (vs : List Service) (t : Totals) → Named s rows vs → test_all first s rows (look_at (room_bytes quota start)) vs t ≡ test_all first s rows (look_in start) vs t
  unfolding test_all
  tests_room [] t n = refl
  tests_room (v ∷ vs) t n =
      ap (then_test (test_all first s rows (look_at (room_bytes quota start)) vs)) (one_room v t n.0)
      ∙ then_same (test_all first s rows (look_at (room_bytes quota start)) vs) (test_all first s rows (look_in start) vs) (λ u. tests_room vs u n.1) (test_one first s rows (look_in start) v t)

-- ---- all removals, all puts

module _ (quota first : ℕ) (s rows : List ℕ) (look : List ℕ → Option Known) where
  removes_room : (vs : List Service) (rs : List Record) (t u : Totals) → Named s rows vs → test_all first s rows look vs t ≡ done u → good_account quota rs ≡ true
      → (removes_in s vs (room_bytes quota rs) ≡ room_bytes quota (remove_all s vs rs)) × (good_account quota (remove_all s vs rs) ≡ true)
  unfolding removes_in remove_all
  removes_room [] rs t u n e g = (refl, g)
  removes_room (v ∷ vs) rs t u n e g =
      let z = passed_first first s rows look v vs t u e in
      let x = n.0 z.0.right in
      choose v.removal
      (λ q. rw (q, remove_room quota rs g (number_in s v) x) (removes_room vs (changed (number_in s v) removed rs) _ u n.1 z.1 (removed_account quota rs g (number_in s v) x)))
      (λ q. rw q (removes_room vs rs _ u n.1 z.1 g))

  abbrev days : Service → List ℕ
  days v = days_of true first s (periods_of rows v)

  -- no put takes a record out, so none comes in between that the quota does not hold in the end
  puts_room : (vs : List Service) (rs : List Record) (t u : Totals) → Named s rows vs → test_all first s rows look vs t ≡ done u → good_account quota rs ≡ true
      → length (put_all first s rows vs rs) ≤ quota
      → (puts_in first s rows vs (room_bytes quota rs) ≡ room_bytes quota (put_all first s rows vs rs)) × (good_account quota (put_all first s rows vs rs) ≡ true)
  unfolding puts_in put_all
  puts_room [] rs t u n e g l = (refl, g)
  puts_room (v ∷ vs) rs t u n e g l =
      let z = passed_first first s rows look v vs t u e in
      let x = n.0 z.0.right in
      let c = days_calendar true first s (periods_of rows v) in
      choose v.removal
      (λ q. rw q (puts_room vs rs _ u n.1 z.1 g (rw q at l)))
      (λ q.
      let m = rw q at l in
      let h = puts_longer vs (changed (number_in s v) (put_over (number_in s v) (days v)) rs) (order (number_in s v) (put_over (number_in s v) (days v)) rs (account_order quota rs g) (put_keeps (number_in s v) (days v))) in
      let k : length (changed (number_in s v) (put_over (number_in s v) (days v)) rs) ≤ quota = omega arith in
      rw (q, put_room_of quota rs g (number_in s v) x (days v) c k)
      (puts_room vs (changed (number_in s v) (put_over (number_in s v) (days v)) rs) _ u n.1 z.1 (put_account quota rs g (number_in s v) x (days v) c k) m))
    where
      put_longer : (v : Service) (rs : List Record) → in_order rs ≡ true → length rs ≤ length (changed (number_in s v) (put_over (number_in s v) (days v)) rs)
      put_longer v rs w =
          let a = changed_length (number_in s v) (put_over (number_in s v) (days v)) rs w in
          let b = put_count (number_in s v) (days v) (lookup (number_in s v) rs) in
          omega arith

      puts_longer : (vs : List Service) (rs : List Record) → in_order rs ≡ true → length rs ≤ length (put_all first s rows vs rs)
      puts_longer [] rs w = omega arith
      puts_longer (v ∷ vs) rs w =
          choose v.removal
          (λ q. rw q (puts_longer vs rs w))
          (λ q.
          let a = put_longer v rs w in
          let b = puts_longer vs (changed (number_in s v) (put_over (number_in s v) (days v)) rs) (order (number_in s v) (put_over (number_in s v) (days v)) rs w (put_keeps (number_in s v) (days v))) in
          rw q (omega arith))

-- ---- the laws

module _ (s rows : List ℕ) (m : ℕ) (v : View) (g : good_account v.quota v.records ≡ true) (n : Named s rows (services_of s rows m)) where
  abbrev room : List ℕ
  room = room_bytes v.quota v.records

  abbrev all_services : List Service
  all_services = services_of s rows m

  tests_same : room_tests (room_bytes v.quota v.records) v.first s rows m ≡ test_all v.first s rows (look_in v.records) (services_of s rows m) no_totals
  tests_same = tests_room v.quota v.records g v.first s rows all_services no_totals n

  fits_same : (u : Totals) → room_fits (room_bytes v.quota v.records) u ≡ leb (length v.records + u.added) (v.quota + u.dropped)
  fits_same u =
      let r = account_records v.quota v.records g in
      let a : leading (slots_of room) ≡ length v.records = used_in_room v.quota v.records r in
      let l = length_room v.quota v.records r (account_fits v.quota v.records g) in
      let b : length room / 140 ≡ v.quota = omega arith in
      rw (a, b)

  abbrev Same : Answer Totals → Called → Type 0
  Same x c = (room_answer room s x ≡ c.answer) × (room_after room v.first s rows m x ≡ room_bytes v.quota c.records) × (good_account v.quota c.records ≡ true)

  close_room : (x : Answer Totals) → test_all v.first s rows (look_in v.records) (services_of s rows m) no_totals ≡ x → Same x (close_totals v.first s rows (services_of s rows m) v x)
  close_room (refused refusal) e = (refl, refl, g)
  close_room (done u) e =
      choose (leb (length v.records + u.added) (v.quota + u.dropped))
      (λ p.
      let a = removes_room v.quota v.first s rows (look_in v.records) all_services v.records no_totals u n e g in
      let l = total_fits u e p in
      let b = puts_room v.quota v.first s rows (look_in v.records) all_services (remove_all s all_services v.records) no_totals u n e a.1 l in
      rw (fits_same u, p) (refl, ap (puts_in v.first s rows all_services) a.0 ∙ b.0, b.1))
      (λ p. rw (fits_same u, p) (refl, refl, g))
    where
      total_fits : (u : Totals) → test_all v.first s rows (look_in v.records) (services_of s rows m) no_totals ≡ done u
          → leb (length v.records + u.added) (v.quota + u.dropped) ≡ true → length (put_all v.first s rows all_services (remove_all s all_services v.records)) ≤ v.quota
      total_fits u e p =
          let h = leb-true (length v.records + u.added) (v.quota + u.dropped) p in
          let k = passed_size s rows m v (account_order v.quota v.records g) u e in
          omega arith

  -- staging on the room is staging on the records, and leaves good records
  pub staged_room : Same (room_tests (room_bytes v.quota v.records) v.first s rows m) (stage_services s rows (services_of s rows m) v)
  staged_room =
      rw (tests_same, stage_totals s rows m v (account_order v.quota v.records g))
      (close_room (test_all v.first s rows (look_in v.records) (services_of s rows m) no_totals) refl)
