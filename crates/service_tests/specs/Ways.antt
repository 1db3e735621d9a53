-- The ways through the code, a law for each; what a call answered has a name of its own.
-- Assumes nothing.
use Rattle.std.specs.Prelude.{ℕ, ◌+◌, ◌-◌, ◌≤◌, ◌<◌, ◌≡◌, refl, Bool, true, false, not, List, [], ◌∷◌, ltb, length, set, replicate, Option, Some, None, Result}
use mir.Val.{bool_byte}
use Rattle.std.proofs.Common.{sym, ap, ◌∙◌, arith, le-leb, ltb-true, ltb-false}
use Rattle.answers.specs.declared.Refusal.{Refusal}
use Rattle.std.proofs.lemmas.Bool.{lt-leb}
use Rattle.laws.specs.Choice.{both, both_true, either, either_true, choose}
use Rattle.answers.specs.Answers.{done, refused, naming}
use Rattle.answers.specs.Laws.{refused≢done}
use Rattle.syntax.specs.Segment.{body_at}
use Rattle.parts.specs.declared.Part.{Part}
use Rattle.parts.specs.Places.{bytes_of, segment_of}
use Rattle.period.specs.Period.{period_of}
use Rattle.joining.specs.Joined.{in_window}
use Rattle.services.specs.declared.Service.{Service}
use Rattle.parts.specs.Segments.{segment_body}
use Rattle.services.specs.Rows.{offset_at, row_count, first_from}
use Rattle.services.specs.Search.{list_none, list_some}
use Rattle.services.specs.Walks.{First}
use Rattle.services.proofs.Walks.{first_is}
use Rattle.services.specs.Services.{is_period_row, services_from, services_of, periods_from, periods_of, has_period, number_fits, periods_fit, is_wrong, is_twice, tested_of}
use Rattle.service_tests.specs.declared.Totals.{Totals}
use Rattle.service_entries.specs.declared.Known.{Known}
use Rattle.stages.specs.Stage.{number_in, outside_by, first_outside}
use Rattle.service_tests.specs.Tests.{unknown_by, adds, drops, removals, test_known, test_inside, test_one, test_all, no_totals, Counts}
use Rattle.service_tests.specs.Marks.{mark_of, Marked, marked_start, marked_to, marked_on}
use Rattle.service_tests.specs.Passed.{refused_again, passed}
use Rattle.period.specs.declared.Period.{Period}
use Rattle.period.specs.declared.Fault.{Fault}

-- ---- periods and their window

pub period_read : (wish : Bool) (s : List ℕ) (at : ℕ) (p : Part) (y z : Result Period Fault) → p ≡ segment_of s at → y ≡ period_of wish (bytes_of s p) → y ≡ z → period_of wish (body_at s at) ≡ z
period_read wish s at p y z a b e = sym (b ∙ ap (period_of wish) (segment_body s at p a)) ∙ e

module _ (first from n : ℕ) where
  pub past_before : from < first → true ≡ not (in_window 512 first from n)
  past_before h = rw (lt-leb first from h)

  module _ (h : first ≤ from) where
    pub past_long : 512 < n → true ≡ not (in_window 512 first from n)
    past_long k = rw (le-leb first from h, lt-leb (from - first + n) 512 (omega arith))

    pub past_end : n ≤ 512 → ltb (512 - n) (from - first) ≡ not (in_window 512 first from n)
    past_end k =
        choose (ltb (512 - n) (from - first))
        (λ p. let l = ltb-true (512 - n) (from - first) p in rw (p, le-leb first from h, lt-leb (from - first + n) 512 (omega arith)))
        (λ p. let l = ltb-false (512 - n) (from - first) p in rw (p, le-leb first from h, le-leb (from - first + n) 512 (omega arith)))

module _ (wish : Bool) (first : ℕ) (s l : List ℕ) where
  pub outside_none : l ≡ [] → None ≡ first_outside wish first s l
  unfolding first_outside
  outside_none e = rw e

  module _ (at : ℕ) (rest : List ℕ) (e : l ≡ at ∷ rest) where
    pub outside_here : outside_by first (period_of wish (body_at s at)) ≡ true → Some at ≡ first_outside wish first s l
    unfolding first_outside
    outside_here q = rw (e, q)

    pub outside_on : outside_by first (period_of wish (body_at s at)) ≡ false → first_outside wish first s rest ≡ first_outside wish first s l
    unfolding first_outside
    outside_on q = rw (e, q)

-- ---- whether there is any period

abbrev pub any_of : List ℕ → Bool
any_of [] = false
any_of (at ∷ l) = true

pub any_period : (rows : List ℕ) (from to : ℕ) → any_of (periods_from rows from to) ≡ has_period rows from to
unfolding has_period
any_period rows from to =
    let n = row_count rows to in
    let k = first_from (is_period_row rows) from n in
    choose (ltb k n)
    (λ p. ap any_of (list_some (is_period_row rows) (offset_at rows) from n (ltb-true k n p)) ∙ sym p)
    (λ p. ap any_of (list_none (is_period_row rows) (offset_at rows) from n (ltb-false k n p)) ∙ sym p)

any_none : (carries : Bool) → either carries false ≡ carries
any_none true = refl
any_none false = refl

-- what came so far, and what is left
module _ (carries : Bool) (l : List ℕ) (x : Bool) (q : either carries (any_of l) ≡ x) where
  pub any_on : (at : ℕ) (rest : List ℕ) → l ≡ at ∷ rest → true ≡ x
  any_on at rest e = sym (either_true carries) ∙ sym (ap (λ (k : List ℕ). either carries (any_of k)) e) ∙ q

  pub any_done : l ≡ [] → carries ≡ x
  any_done e = sym (any_none carries) ∙ sym (ap (λ (k : List ℕ). either carries (any_of k)) e) ∙ q

-- ---- 11 by what is known of a service

module _ (removal : Bool) (n : ℕ) (carries : Bool) where
  pub wrong_short : n < 1 → true ≡ not (both (number_fits n) (periods_fit removal carries))
  wrong_short h = rw (lt-leb 1 n h)

  pub wrong_long : 10 < n → true ≡ not (both (number_fits n) (periods_fit removal carries))
  wrong_long h = rw (le-leb 1 n (omega arith), lt-leb n 10 h)

  module _ (h : 1 ≤ n) (l : n ≤ 10) where
    pub wrong_removal : removal ≡ true → carries ≡ not (both (number_fits n) (periods_fit removal carries))
    wrong_removal q = rw (le-leb 1 n h, le-leb n 10 l, q) (choose carries (λ p. rw p) (λ p. rw p))

    pub wrong_put : removal ≡ false → not carries ≡ not (both (number_fits n) (periods_fit removal carries))
    wrong_put q = rw (le-leb 1 n h, le-leb n 10 l, q)

pub wrong_is : (s rows : List ℕ) (v : Service) (x : Bool) (n : ℕ) (carries : Bool) → x ≡ not (both (number_fits n) (periods_fit v.removal carries)) → n ≡ length (number_in s v)
    → carries ≡ has_period rows v.from v.to → x ≡ is_wrong s rows v
unfolding is_wrong
wrong_is s rows v x n carries e a b = e ∙ rw (a, b)

-- ---- the tests of a service

module _ (removal : Bool) (prd : ℕ) (k : Option Known) (t : Totals) where
  module _ (h : Option Known) (e : h ≡ k) (b : Bool) (q : b ≡ both removal (unknown_by h)) where
    pub known_refused : b ≡ true → refused (naming 14 prd) ≡ test_known removal prd k t
    unfolding test_known
    known_refused p = rw (← e, ← q, p)

    pub known_counted : b ≡ false → (a d m : ℕ) → a ≡ adds removal h → d ≡ drops removal h → m ≡ removals removal
        → done (record { services = t.services + 1; added = t.added + a; dropped = t.dropped + d; removals = t.removals + m }) ≡ test_known removal prd k t
    unfolding test_known
    known_counted p a d m x y z = rw (← e, ← q, p, x, y, z)

pub removals_is : (removal : Bool) → bool_byte removal ≡ removals removal
removals_is true = refl
removals_is false = refl

-- what a record that is held makes of the counts
module _ (removal : Bool) (h : Option Known) where
  pub adds_removal : removal ≡ true → 0 ≡ adds removal h
  adds_removal q = rw q

  pub adds_put : h ≡ None → removal ≡ false → 1 ≡ adds removal h
  adds_put e q = rw (e, q)

  pub adds_record : (r : Known) → h ≡ Some r → 0 ≡ adds removal h
  adds_record r e = rw e (choose removal (λ q. rw q) (λ q. rw q))

  pub drops_nothing : h ≡ None → 0 ≡ drops removal h
  drops_nothing e = rw e (choose removal (λ q. rw q) (λ q. rw q))

  pub drops_live : (r : Known) → h ≡ Some r → r.live ≡ true → 0 ≡ drops removal h
  drops_live r e q = rw (e, q) (choose removal (λ p. rw p) (λ p. rw p))

  pub drops_put : removal ≡ false → 0 ≡ drops removal h
  drops_put q = rw q

  pub drops_removal : (r : Known) → h ≡ Some r → r.live ≡ false → removal ≡ true → 1 ≡ drops removal h
  drops_removal r e q p = rw (e, q, p)

  pub unknown_nothing : h ≡ None → removal ≡ both removal (unknown_by h)
  unknown_nothing e = rw e (sym (both_true removal))

  pub unknown_record : (r : Known) → h ≡ Some r → removal ≡ true → r.removal_pending ≡ both removal (unknown_by h)
  unknown_record r e q = rw (e, q)

  pub unknown_put : removal ≡ false → false ≡ both removal (unknown_by h)
  unknown_put q = rw q

-- what services' own test says: 11, then 12
module _ (s rows : List ℕ) (v : Service) where
  tested_good : tested_of s rows v ≡ done tt → (is_wrong s rows v ≡ false) × (is_twice s rows (bytes_of s v.number) v.from ≡ false)
  unfolding tested_of
  tested_good q =
      choose (is_wrong s rows v) (λ p. absurd (refused≢done (rw p at q)))
      (λ p. choose (is_twice s rows (bytes_of s v.number) v.from) (λ r. absurd (refused≢done (rw (p, r) at q))) (λ r. (p, r)))

  module _ (first : ℕ) (look : List ℕ → Option Known) (t : Totals) where
    pub one_refused : (x : Refusal) → refused x ≡ tested_of s rows v → refused x ≡ test_one first s rows look v t
    unfolding tested_of test_one
    one_refused x q =
        choose (is_wrong s rows v)
        (λ p. rw p (refused_again (Unit {0}) Totals x (naming 11 v.prd) (rw p at q)))
        (λ p.
        choose (is_twice s rows (bytes_of s v.number) v.from)
        (λ r. rw (p, r) (refused_again (Unit {0}) Totals x (naming 12 v.prd) (rw (p, r) at q)))
        (λ r. absurd (refused≢done (rw (p, r) at q))))

    module _ (g : done tt ≡ tested_of s rows v) where
      pub one_tested : (w : Option ℕ) → w ≡ first_outside true first s (periods_of rows v) → test_inside w (test_known v.removal v.prd (look (number_in s v)) t) ≡ test_one first s rows look v t
      unfolding test_one
      one_tested w o =
          let k = tested_good (sym g) in
          rw (k.0, k.1, o)

adds_few : (removal : Bool) (k : Option Known) → adds removal k ≤ 1
adds_few true k = omega arith
adds_few false None = omega arith
adds_few false (Some r) = omega arith

drops_few : (removal : Bool) (k : Option Known) → drops removal k ≤ 1
drops_few false k = omega arith
drops_few true None = omega arith
drops_few true (Some r) = choose r.live (λ q. rw q (omega arith)) (λ q. rw q (omega arith))

removals_few : (removal : Bool) → removals removal ≤ 1
removals_few true = omega arith
removals_few false = omega arith

module _ (first : ℕ) (s rows : List ℕ) (look : List ℕ → Option Known) where
  -- a service more is counted, and at most one record more
  pub one_more : (v : Service) (t u : Totals) → done u ≡ test_one first s rows look v t
      → (u.services ≡ t.services + 1) × (u.added ≤ t.added + 1) × (u.dropped ≤ t.dropped + 1) × (u.removals ≤ t.removals + 1)
  one_more v t u q =
      let e = (passed first s rows look v t u (sym q)).1 in
      let a = adds_few v.removal (look (number_in s v)) in
      let d = drops_few v.removal (look (number_in s v)) in
      let m = removals_few v.removal in
      let o = ap (λ (w : Totals). w.removals) e in
      let x = ap (λ (w : Totals). w.services) e in
      let y = ap (λ (w : Totals). w.added) e in
      let z = ap (λ (w : Totals). w.dropped) e in
      (x, omega arith, omega arith, omega arith)

  module _ (l : List Service) (t : Totals) where
    pub all_done : l ≡ [] → done t ≡ test_all first s rows look l t
    unfolding test_all
    all_done e = rw e

    module _ (v : Service) (rest : List Service) (e : l ≡ v ∷ rest) where
      pub all_on_lem : (u : Totals) → done u ≡ test_one first s rows look v t → test_all first s rows look rest u ≡ test_all first s rows look l t
      unfolding test_all
      all_on_lem u q = rw (e, ← q)

      pub all_stop : (x : Refusal) → refused x ≡ test_one first s rows look v t → refused x ≡ test_all first s rows look l t
      unfolding test_all
      all_stop x q = rw (e, ← q)

-- ---- the services passed so far: from some row on are those that are left, the marks of the others are set, and no more of them are counted

pub record Walked (marks s rows : List ℕ) (n : ℕ) (left : List Service) (t : Totals) : Type 0 where
  pub row : ℕ
  pub onward : left ≡ services_from s rows n row
  pub marked : Marked marks s rows row
  pub services : t.services ≤ row
  pub added : t.added ≤ row
  pub dropped : t.dropped ≤ row
  pub removals : t.removals ≤ row

pub walked_start : (s rows : List ℕ) (m : ℕ) → Walked (replicate 16384 0) s rows (row_count rows m) (services_of s rows m) no_totals
walked_start s rows m =
    record { row = 0; onward = refl; marked = marked_start s rows; services = omega arith; added = omega arith; dropped = omega arith; removals = omega arith }

module _ (marks s rows : List ℕ) (n : ℕ) (left : List Service) (t : Totals) (w : Walked marks s rows n left t) (v : Service) (rest : List Service) (e : left ≡ v ∷ rest) where
  next : First s rows n w.row v rest
  next = first_is s rows n w.row v rest (sym w.onward ∙ e)

  pub walked_to : Marked marks s rows v.from
  walked_to = marked_to marks s rows w.row w.marked n v rest next

  pub walked_counts : n < 18446744073709551616 → Counts t
  walked_counts h =
      let a = next.further in
      let b = next.inside in
      let c = w.services in
      let d = w.added in
      let f = w.dropped in
      let g = w.removals in
      record { services = omega arith; added = omega arith; dropped = omega arith; removals = omega arith }

  pub walked_on : (first : ℕ) (look : List ℕ → Option Known) (u : Totals) → done u ≡ test_one first s rows look v t → Walked (set marks (mark_of (number_in s v)) 1) s rows n rest u
  walked_on first look u q =
      let m = one_more first s rows look v t u q in
      let a = next.further in
      let c = w.services in
      let d = w.added in
      let f = w.dropped in
      let g = w.removals in
      record {
        row = v.from + 1;
        onward = next.others;
        marked = marked_on marks s rows w.row w.marked n v rest next;
        services = omega arith;
        added = omega arith;
        dropped = omega arith;
        removals = omega arith;
      }
