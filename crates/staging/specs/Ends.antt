-- Services that pass their tests: removals may all come before puts, and how many records there are in the end.
-- Assumes nothing.
use Prim.Native.Nat.{ℕ, zero, suc, ◌+◌, ◌-◌, ◌/◌, ◌≤◌, ◌<◌}
use Rattle.std.specs.Prelude.{◌≡◌, Bool, false, List, leb}
use Rattle.std.proofs.Math.Path.{refl, ap}
use Rattle.std.proofs.Common.{sym, ◌∙◌, leb-true, leb-false, le-leb}
use Rattle.std.proofs.Math.Bool.{true}
use Rattle.std.proofs.Math.Option.{Option, none, some}
use native.Mathlib.Omega.{arith}
use Rattle.std.proofs.lemmas.Bool.{lt-leb}
use Rattle.std.proofs.Math.ListN.{length}
use Rattle.laws.specs.Choice.{pick, choose}
use Rattle.answers.specs.Answers.{Answer, done, refused, over_quota}
use Rattle.parts.specs.Places.{bytes_of}
use Rattle.values.specs.Values.{same_text}
use Rattle.services.specs.declared.Service.{Service}
use Rattle.services.specs.Rows.{row_count, list_of}
use Rattle.services.specs.Services.{is_service, service_at, periods_of, services_of}
use Rattle.contents.specs.Contents.{Record, in_order}
use Rattle.contents.specs.Calls.{View, Called, refused_call, lookup, changed}
use Rattle.service_tests.specs.declared.Totals.{Totals}
use Rattle.stages.specs.Stage.{number_in, days_of, removed_by, removed, put_over, entry, close_by, stage_services}
use Rattle.rooms.specs.Listed.{count_of}
use Rattle.rooms.specs.Changed.{changed_length}
use Rattle.stages.specs.Changing.{KeepsNumber, order, swap, removed_keeps, put_keeps}
use Rattle.service_tests.specs.Passed.{Pass, passed_first}
use Rattle.service_entries.specs.Room.{is_live, known_of, look_in}
use Rattle.service_tests.specs.Tests.{adds, drops, counted, test_all, no_totals}
use Rattle.staging.specs.Passes.{entered, remove_all, put_all}
use Rattle.staging.specs.Together.{finish, Alike, services_in, alone, apart, own_row, after_ordered, after_alike, enter_tested}

-- a put adds a record or changes one; a removal changes one or drops it
entry_size : (first : ℕ) (s rows : List ℕ) (v : Service) (o : Option Record) → count_of (entry first s rows v o) + drops v.removal (known_of o) ≡ count_of o + adds v.removal (known_of o)
unfolding entry known_of
entry_size first s rows v o = by_kind v.removal o
  where
    by_live : (r : Record) (l : Option (List ℕ)) → count_of (removed_by r l) + pick (is_live l) 0 1 ≡ 1 + 0
    by_live r none = refl
    by_live r (some c) = refl

    by_kind : (b : Bool) (o : Option Record) → count_of (pick b removed (put_over (number_in s v) (days_of true first s (periods_of rows v))) o) + drops b (known_of o) ≡ count_of o + adds b (known_of o)
    by_kind true none = refl
    by_kind true (some r) = by_live r r.live
    by_kind false none = refl
    by_kind false (some r) = refl

module _ (first : ℕ) (s rows : List ℕ) (n : ℕ) (fits : n ≤ length rows / 3) (start : List Record) where
  abbrev service : ℕ → Service
  service i = service_at s rows n i

  abbrev rest : ℕ → ℕ → List Service
  rest k i = services_in s rows n k i

  -- a service's number is none of an earlier one's
  differ : (i j : ℕ) → i < j → j < n → is_service rows i ≡ true → Pass first s rows (look_in start) (service j) → same_text (number_in s (service i)) (number_in s (service j)) ≡ false
  differ i j h k q p =
      apart s rows n fits i q (bytes_of s (service j).number)
      (alone s rows n fits j k (bytes_of s (service j).number) (own_row first s rows n fits start j p.once) i h)

  module _ (i : ℕ) (f : Option Record → Option Record) (q : is_service rows i ≡ true) (keeps : KeepsNumber (number_in s (service i)) f) where
    abbrev number : List ℕ
    number = number_in s (service i)

    -- a change of its record may come before the removals of later ones
    removals_swap : (k j : ℕ) (rs : List Record) (t u : Totals) → i < j → j + k ≤ n → in_order rs ≡ true → test_all first s rows (look_in start) (rest k j) t ≡ done u
        → remove_all s (rest k j) (changed number f rs) ≡ changed number f (remove_all s (rest k j) rs)
    unfolding list_of remove_all
    removals_swap zero j rs t u h g w e = refl
    removals_swap (suc k) j rs t u h g w e =
        choose (is_service rows j)
        (λ p.
        let z = passed_first first s rows (look_in start) (service j) (rest k (j + 1)) t u (rw p at e) in
        let c = counted (service j).removal (look_in start (number_in s (service j))) t in
        let d = differ i j h (omega arith) q z.0 in
        rw p
        (choose (service j).removal
        (λ r.
        rw r
        (ap (remove_all s (rest k (j + 1))) (sym (swap number f rs w keeps (number_in s (service j)) removed (removed_keeps (number_in s (service j))) d))
        ∙ removals_swap k (j + 1) (changed (number_in s (service j)) removed rs) c u (omega arith) (omega arith)
        (order (number_in s (service j)) removed rs w (removed_keeps (number_in s (service j)))) z.1))
        (λ r. rw r (removals_swap k (j + 1) rs c u (omega arith) (omega arith) w z.1))))
        (λ p. rw p (removals_swap k (j + 1) rs t u (omega arith) (omega arith) w (rw p at e)))

  -- all in order is all removals, then all puts
  pub removals_first : (k i : ℕ) (rs : List Record) (t u : Totals) → i + k ≤ n → in_order rs ≡ true → test_all first s rows (look_in start) (rest k i) t ≡ done u
      → entered first s rows (rest k i) rs ≡ put_all first s rows (rest k i) (remove_all s (rest k i) rs)
  unfolding list_of entered remove_all put_all entry
  removals_first zero i rs t u g w e = refl
  removals_first (suc k) i rs t u g w e =
      choose (is_service rows i)
      (λ p.
      let z = passed_first first s rows (look_in start) (service i) (rest k (i + 1)) t u (rw p at e) in
      let c = counted (service i).removal (look_in start (number_in s (service i))) t in
      let put = put_over (number_in s (service i)) (days_of true first s (periods_of rows (service i))) in
      let keeps = put_keeps (number_in s (service i)) (days_of true first s (periods_of rows (service i))) in
      rw p
      (choose (service i).removal
      (λ r.
      rw r
      (removals_first k (i + 1) (changed (number_in s (service i)) removed rs) c u (omega arith)
      (order (number_in s (service i)) removed rs w (removed_keeps (number_in s (service i)))) z.1))
      (λ r.
      rw r
      (removals_first k (i + 1) (changed (number_in s (service i)) put rs) c u (omega arith) (order (number_in s (service i)) put rs w keeps) z.1
      ∙ ap (put_all first s rows (rest k (i + 1))) (removals_swap i put p keeps k (i + 1) rs c u (omega arith) (omega arith) w z.1)))))
      (λ p. rw p (removals_first k (i + 1) rs t u (omega arith) w (rw p at e)))

  -- the records in the end
  entered_size : (k i : ℕ) (rs : List Record) (t u : Totals) → i + k ≤ n → in_order rs ≡ true → Alike s rows start i rs → test_all first s rows (look_in start) (rest k i) t ≡ done u
      → (length (entered first s rows (rest k i) rs) + (u.dropped + t.added) ≡ length rs + (u.added + t.dropped)) × (u.services ≡ t.services + length (rest k i))
  unfolding list_of entered test_all
  entered_size zero i rs t u g w a e =
      let q : t ≡ u = cc in
      let d = ap (λ (x : Totals). x.dropped) q in
      let f = ap (λ (x : Totals). x.added) q in
      let m = ap (λ (x : Totals). x.services) q in
      (omega arith, omega arith)
  entered_size (suc k) i rs t u g w a e =
      choose (is_service rows i)
      (λ p.
      let v = service i in
      let x = number_in s (service i) in
      let z = passed_first first s rows (look_in start) (service i) (rest k (i + 1)) t u (rw p at e) in
      let c = counted (service i).removal (look_in start (number_in s (service i))) t in
      let l : lookup x rs ≡ lookup x start = a (bytes_of s (service i).number) (alone s rows n fits i (omega arith) (bytes_of s (service i).number) (own_row first s rows n fits start i z.0.once)) in
      let b = changed_length x (entry first s rows (service i)) rs w in
      let b₂ : length (changed x (entry first s rows (service i)) rs) + count_of (lookup x start) ≡ length rs + count_of (entry first s rows (service i) (lookup x start)) = rw l at b in
      let d = entry_size first s rows (service i) (lookup x start) in
      let ih = entered_size k (i + 1) (changed x (entry first s rows (service i)) rs) c u (omega arith) (after_ordered first s rows n fits start i rs w) (after_alike first s rows n fits start i rs p w a) z.1 in
      rw p (omega arith, omega arith))
      (λ p. rw p (entered_size k (i + 1) rs t u (omega arith) w (λ x y. a x (λ j b. y j (omega arith))) (rw p at e)))

-- "then 15": what staging the services comes to, by the totals of their tests
abbrev pub close_totals : ℕ → List ℕ → List ℕ → List Service → View → Answer Totals → Called
close_totals first s rows vs v (refused refusal) = refused_call v (refused refusal)
close_totals first s rows vs v (done u) =
    pick (leb (length v.records + u.added) (v.quota + u.dropped))
    (record { answer = done u.services; records = put_all first s rows vs (remove_all s vs v.records) })
    (refused_call v (over_quota (length s)))

leb_moved : (a b c d x : ℕ) → a + d ≡ b + c → leb (b + c) (x + d) ≡ leb a x
leb_moved a b c d x e =
    choose (leb a x)
    (λ p. let h = leb-true a x p in le-leb (b + c) (x + d) (omega arith) ∙ sym p)
    (λ p. let h = leb-false a x p in lt-leb (b + c) (x + d) (omega arith) ∙ sym p)

module _ (s rows : List ℕ) (m : ℕ) (v : View) (w : in_order v.records ≡ true) where
  abbrev all : List Service
  all = services_of s rows m

  abbrev n : ℕ
  n = row_count rows m

  abbrev tests : Answer Totals
  tests = test_all v.first s rows (look_in v.records) (services_of s rows m) no_totals

  close_by_lem : (x : Answer Totals) → tests ≡ x
      → close_by s (length all) v (finish x (entered v.first s rows all v.records)) ≡ close_totals v.first s rows all v x
  close_by_lem (refused refusal) e = refl
  close_by_lem (done u) e =
      let z = entered_size v.first s rows n (omega arith) v.records (n - 0) 0 v.records no_totals u (omega arith) w (λ x y. refl) e in
      let r = removals_first v.first s rows n (omega arith) v.records (n - 0) 0 v.records no_totals u (omega arith) w e in
      let l : leb (length v.records + u.added) (v.quota + u.dropped) ≡ leb (length (entered v.first s rows all v.records)) v.quota =
      leb_moved (length (entered v.first s rows all v.records)) (length v.records) u.added u.dropped v.quota (omega arith) in
      let k : u.services ≡ length all = omega arith in
      rw (l, k, r)

  -- how many records removals and puts leave
  pub passed_size : (u : Totals) → tests ≡ done u → length (put_all v.first s rows all (remove_all s all v.records)) + u.dropped ≡ length v.records + u.added
  passed_size u e =
      let z = entered_size v.first s rows n (omega arith) v.records (n - 0) 0 v.records no_totals u (omega arith) w (λ x y. refl) e in
      let r = ap length (removals_first v.first s rows n (omega arith) v.records (n - 0) 0 v.records no_totals u (omega arith) w e) in
      omega arith

  -- stage is: all tests on the start, 15 by the totals, then removals, then puts
  pub stage_totals : stage_services s rows (services_of s rows m) v ≡ close_totals v.first s rows (services_of s rows m) v tests
  stage_totals =
      rw (enter_tested v.first s rows n (omega arith) v.records (n - 0) 0 v.records no_totals (omega arith) w (λ x y. refl))
      (close_by_lem tests refl)
