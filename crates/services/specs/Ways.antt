-- The ways through the code, a law for each; what a call answered has a name of its own.
-- Assumes nothing.
use Rattle.std.specs.Prelude.{ℕ, ◌+◌, ◌-◌, ◌/◌, ◌≤◌, ◌<◌, ◌≡◌, refl, Bool, true, false, not, ltb, length, Some, None}
use Rattle.std.proofs.Math.Path.{sym, ap, subst}
use Rattle.std.proofs.Common.{◌∙◌, arith}
use mathlib.Core.List.{List, [], ◌∷◌}
use borrow.Author.Tests.{lt-ltb, le-ltb, ltb-true, ltb-false}
use Rattle.std.proofs.lemmas.Option.{none-some, same_Some}
use Rattle.laws.specs.Choice.{both_parts, choose}
use Rattle.answers.specs.Answers.{done, refused, wrong_service, number_twice}
use Rattle.answers.specs.declared.Refusal.{Refusal}
use Rattle.syntax.specs.Bytes.{plain}
use Rattle.syntax.specs.Pieces.{part_of}
use Rattle.parts.specs.declared.Part.{Part}
use Rattle.parts.specs.Places.{bytes_of, part_at, segment_of}
use Rattle.parts.specs.Located.{part_bytes}
use Rattle.parts.specs.Segments.{segment_bytes}
use Rattle.values.specs.Values.{same_text}
use Rattle.messages.specs.Tags.{MSD, POP, UIT}
use Rattle.services.specs.declared.Service.{Service}
use Rattle.services.specs.declared.PopRow.{PopRow}
use Rattle.services.specs.Rows.{offset_at, is_row, row_count, first_from}
use Rattle.services.specs.Search.{row_other, first_past, first_here, first_on, first_bounds, first_skips, first_through, some_holds, list_none, list_some, list_skip}
use Rattle.services.specs.Inner.{key_of, key_other, Passes, passes_first}
use Rattle.services.specs.Extents.{Reaches, reach_end, reach_removes}
use Rattle.services.specs.Services.{is_service, is_period_row, service_number, says_number, says_removal, service_end, removes, service_at, next_service, next_period, has_period, number_fits, is_wrong, is_same_service, is_twice, tested_of, services_from, periods_from, count_on, counted_of}

-- a search for a period leaves out the rows of other tags
pub period_pass : (rows : List ℕ) (i to r : ℕ) → to ≤ length rows / 3 → Passes (key_of rows 2 POP) 1 i r → r ≤ to → first_from (is_period_row rows) r to ≡ first_from (is_period_row rows) i to
period_pass rows i to r h p d =
    passes_first (key_of rows 2 POP) (is_period_row rows) 1 i to r p d (λ j l g. row_other rows 4 POP j (omega arith) (key_other rows 2 POP j g))

module _ (s : List ℕ) (at : ℕ) (g p : Part) (a : g ≡ segment_of s at) where
  pub number_is : p ≡ part_at s g 1 1 1 → p ≡ service_number s at
  unfolding service_number
  number_is b = b ∙ ap (λ (x : Part). part_at s x 1 1 1) a

  pub removal_says : p ≡ part_at s g 1 1 2 → (t : List ℕ) (x : Bool) → t ≡ bytes_of s p → x ≡ same_text (plain t) (53 ∷ 54 ∷ []) → x ≡ says_removal s at
  unfolding says_removal
  removal_says b t x d e =
      e
      ∙ ap (λ (y : List ℕ). same_text (plain y) (53 ∷ 54 ∷ []))
      (d ∙ ap (bytes_of s) (b ∙ ap (λ (y : Part). part_at s y 1 1 2) a) ∙ part_bytes s (segment_of s at) 1 1 2 ∙ ap (λ (y : List ℕ). part_of y 1 1 2) (segment_bytes s at))

pub number_says : (s : List ℕ) (at : ℕ) (number : List ℕ) (p : Part) (t : List ℕ) (x : Bool) → p ≡ service_number s at → t ≡ bytes_of s p → x ≡ same_text (plain t) (plain number) → x ≡ says_number s at number
unfolding says_number
number_says s at number p t x a b e = e ∙ ap (λ (y : List ℕ). same_text (plain y) (plain number)) (b ∙ ap (bytes_of s) a)

-- the first period
module _ (rows : List ℕ) (i to n k : ℕ) (a : n ≡ row_count rows to) (b : k ≡ first_from (is_period_row rows) i n) where
  pub period_none : n ≤ k → None ≡ next_period rows i to
  unfolding next_period
  period_none h = rw (sym a, sym b, le-ltb k n h)

  pub period_some : (o : ℕ) → o ≡ offset_at rows k → k < n → Some (record { row = k; offset = o }) ≡ next_period rows i to
  unfolding next_period
  period_some o e h = rw (sym a, sym b, lt-ltb k n h, e)

  pub period_has : ltb k n ≡ has_period rows i to
  unfolding has_period
  period_has = rw (sym a, sym b)

-- the MSD of a service
module _ (s rows : List ℕ) (from to k : ℕ) (b : k ≡ first_from (is_row rows 2 MSD) from to) where
  pub removes_none : to ≤ k → false ≡ removes s rows from to
  unfolding removes
  removes_none h = rw (sym b, le-ltb k to h)

  pub removes_some : (o : ℕ) (x : Bool) → o ≡ offset_at rows k → x ≡ says_removal s o → k < to → x ≡ removes s rows from to
  unfolding removes
  removes_some o x e f h = rw (sym b, lt-ltb k to h) (f ∙ ap (says_removal s) e)

-- a service
pub service_is : (s rows : List ℕ) (n k own to prd : ℕ) (number : Part) (removal : Bool) → Reaches rows (k + 1) n own to → prd ≡ offset_at rows k → number ≡ service_number s prd
    → removal ≡ removes s rows (k + 1) own → record { prd = prd; number = number; removal = removal; from = k; to = to } ≡ service_at s rows n k
unfolding service_at
service_is s rows n k own to prd number removal r d e f =
    rw (f ∙ reach_removes s rows (k + 1) n own to r, e, d, reach_end rows k n own to r)

module _ (s rows : List ℕ) (i m n k : ℕ) (a : n ≡ row_count rows m) (b : k ≡ first_from (is_service rows) i n) where
  pub next_none : n ≤ k → None ≡ next_service s rows m i
  unfolding next_service
  next_none h = rw (sym a, sym b, le-ltb k n h)

  pub next_some : (v : Service) → v ≡ service_at s rows n k → k < n → Some v ≡ next_service s rows m i
  unfolding next_service
  next_some v e h = rw (sym a, sym b, lt-ltb k n h, e)

-- 11
module _ (s rows : List ℕ) (v : Service) (fits : Bool) (a : fits ≡ number_fits (length (plain (bytes_of s v.number)))) where
  pub wrong_number : fits ≡ false → true ≡ is_wrong s rows v
  unfolding is_wrong
  wrong_number h = rw (sym a, h)

  module _ (h : fits ≡ true) (x : Bool) (b : x ≡ has_period rows v.from v.to) where
    pub wrong_removal : v.removal ≡ true → x ≡ is_wrong s rows v
    unfolding is_wrong
    wrong_removal q = rw (sym a, h, sym b, q) (choose x (λ p. rw p) (λ p. rw p))

    pub wrong_put : v.removal ≡ false → not x ≡ is_wrong s rows v
    unfolding is_wrong
    wrong_put q = rw (sym a, h, sym b, q)

-- 12: from one service to the next
same_service : (s rows number : List ℕ) (j : ℕ) → is_same_service s rows number j ≡ true → is_service rows j ≡ true
unfolding is_same_service
same_service s rows number j q = (both_parts (is_service rows j) (says_number s (offset_at rows j) number) q).0

module _ (s rows number : List ℕ) (before n i k : ℕ) (a : n ≡ row_count rows before) (l : i ≤ n) (v : first_from (is_same_service s rows number) i n ≡ first_from (is_same_service s rows number) 0 n) (b : k ≡ first_from (is_service rows) i n) where
  twice_from : first_from (is_same_service s rows number) k n ≡ first_from (is_same_service s rows number) 0 n
  twice_from = ap (λ (x : ℕ). first_from (is_same_service s rows number) x n) b ∙ sym (first_through (is_same_service s rows number) (is_service rows) (same_service s rows number) i n l) ∙ v

  pub twice_no : n ≤ k → false ≡ is_twice s rows number before
  unfolding is_twice
  twice_no h = rw (sym a, sym twice_from, first_past (is_same_service s rows number) k n h, le-ltb k n h)

  pub twice_further : (i ≤ k) × (k ≤ n)
  twice_further =
      let w = first_bounds (is_service rows) (n - i) i in
      (omega arith, omega arith)

  module _ (h : k < n) (o : ℕ) (x : Bool) (d : o ≡ offset_at rows k) (e : x ≡ says_number s o number) where
    same_is : is_same_service s rows number k ≡ x
    unfolding is_same_service
    same_is = rw (subst (λ (y : ℕ). is_service rows y ≡ true) (sym b) (some_holds (is_service rows) i n (lt-ltb (first_from (is_service rows) i n) n (subst (λ (y : ℕ). y < n) b h)))) (sym (e ∙ ap (λ (y : ℕ). says_number s y number) d))

    pub twice_yes : x ≡ true → true ≡ is_twice s rows number before
    unfolding is_twice
    twice_yes q = rw (sym a, sym twice_from, first_here (is_same_service s rows number) k n h (same_is ∙ q), lt-ltb k n h)

    pub twice_on : x ≡ false → first_from (is_same_service s rows number) (k + 1) n ≡ first_from (is_same_service s rows number) 0 n
    twice_on q = sym (first_on (is_same_service s rows number) k n h (same_is ∙ q)) ∙ twice_from

-- 11, then 12
module _ (s rows : List ℕ) (v : Service) where
  pub tested_wrong : is_wrong s rows v ≡ true → wrong_service v.prd ≡ tested_of s rows v
  unfolding tested_of
  tested_wrong p = rw p

  module _ (p : is_wrong s rows v ≡ false) (t : List ℕ) (e : t ≡ bytes_of s v.number) where
    pub tested_twice : is_twice s rows t v.from ≡ true → number_twice v.prd ≡ tested_of s rows v
    unfolding tested_of
    tested_twice q = rw (p, sym e, q)

    pub tested_good : is_twice s rows t v.from ≡ false → done tt ≡ tested_of s rows v
    unfolding tested_of
    tested_good q = rw (p, sym e, q)

-- what the next service tells of those that are left
pub record Next (s rows : List ℕ) (m i : ℕ) (v : Service) : Type 0 where
  pub rest : services_from s rows (row_count rows m) i ≡ v ∷ services_from s rows (row_count rows m) v.to
  pub further : i ≤ v.from
  pub some : v.from < v.to
  pub inside : v.to ≤ row_count rows m
  -- the service of its row, and none but it begins on the way
  pub own : v ≡ service_at s rows (row_count rows m) v.from
  pub before : (j : ℕ) → i ≤ j → j < v.from → is_service rows j ≡ false
  pub behind : (j : ℕ) → v.from < j → j < v.to → is_service rows j ≡ false

module _ (rows : List ℕ) (n k : ℕ) (h : k < n) where
  -- a service has its PRD's row at least, and its rows are among the n
  pub service_rows : (k < service_end rows n k) × (service_end rows n k ≤ n)
  service_rows =
      let m = first_from (is_service rows) (k + 1) n in
      let a = first_bounds (is_service rows) (n - (k + 1)) (k + 1) in
      let b = first_bounds (is_row rows 0 UIT) (m - (k + 1)) (k + 1) in
      (omega arith, omega arith)

  service_alone : (j : ℕ) → k < j → j < service_end rows n k → is_service rows j ≡ false
  service_alone j a b =
      let m = first_from (is_service rows) (k + 1) n in
      let d = first_bounds (is_service rows) (n - (k + 1)) (k + 1) in
      let e = first_bounds (is_row rows 0 UIT) (m - (k + 1)) (k + 1) in
      first_skips (is_service rows) (n - (k + 1)) (k + 1) j (omega arith) (omega arith)

module _ (s rows : List ℕ) (m i : ℕ) where
  abbrev all : ℕ
  all = row_count rows m

  abbrev place : ℕ
  place = first_from (is_service rows) i (row_count rows m)

  next_there : place < all → Next s rows m i (service_at s rows all place)
  unfolding service_at
  next_there h =
      let w = first_bounds (is_service rows) (all - i) i in
      let r = service_rows rows all place h in
      record {
        rest =
            list_some (is_service rows) (service_at s rows all) i all h
            ∙ ap (λ (l : List Service). service_at s rows all place ∷ l)
            (list_skip (is_service rows) (service_at s rows all) (place + 1) (service_end rows all place) all (omega arith) r.1 (λ j a b. service_alone rows all place h j (omega arith) b));
        further = w.0;
        some = r.0;
        inside = r.1;
        own = refl;
        before = λ j a b. first_skips (is_service rows) (all - i) i j a b;
        behind = λ j a b. service_alone rows all place h j a b;
      }

  pub next_found : (v : Service) → next_service s rows m i ≡ Some v → Next s rows m i v
  unfolding next_service
  next_found v q =
      choose (ltb place all)
      (λ l. subst (Next s rows m i) (same_Some (service_at s rows all place) v (rw l at q)) (next_there (ltb-true place all l)))
      (λ l. absurd (none-some v (rw l at q)))

  pub next_gone : next_service s rows m i ≡ None → services_from s rows all i ≡ []
  unfolding next_service
  next_gone q =
      choose (ltb place all)
      (λ l. absurd (none-some (service_at s rows all place) (sym (rw l at q))))
      (λ l. list_none (is_service rows) (service_at s rows all) i all (ltb-false place all l))

-- and the next period
pub record NextPeriod (rows : List ℕ) (to i : ℕ) (v : PopRow) : Type 0 where
  pub rest : periods_from rows i to ≡ v.offset ∷ periods_from rows (v.row + 1) to
  pub further : i ≤ v.row
  pub inside : v.row < row_count rows to

module _ (rows : List ℕ) (i to : ℕ) where
  abbrev end : ℕ
  end = row_count rows to

  abbrev pop : ℕ
  pop = first_from (is_period_row rows) i (row_count rows to)

  abbrev found : PopRow
  found = record { row = pop; offset = offset_at rows pop }

  pub period_found : (v : PopRow) → next_period rows i to ≡ Some v → NextPeriod rows to i v
  unfolding next_period
  period_found v q =
      choose (ltb pop end)
      (λ l.
      let h = ltb-true pop end l in
      let w = first_bounds (is_period_row rows) (end - i) i in
      subst (NextPeriod rows to i) (same_Some found v (rw l at q))
      (record { rest = list_some (is_period_row rows) (offset_at rows) i end h; further = w.0; inside = h }))
      (λ l. absurd (none-some v (rw l at q)))

  pub period_gone : next_period rows i to ≡ None → periods_from rows i to ≡ []
  unfolding next_period
  period_gone q =
      choose (ltb pop end)
      (λ l. absurd (none-some found (sym (rw l at q))))
      (λ l. list_none (is_period_row rows) (offset_at rows) i end (ltb-false pop end l))

  -- where there is no period the list is empty
  pub has_none : has_period rows i to ≡ false → periods_from rows i to ≡ []
  unfolding has_period
  has_none q = list_none (is_period_row rows) (offset_at rows) i end (ltb-false pop end q)

-- the count goes on
module _ (s rows : List ℕ) (l : List Service) (count : ℕ) where
  pub count_none : l ≡ [] → count_on s rows l count ≡ done count
  unfolding count_on
  count_none e = rw e

  module _ (v : Service) (rest : List Service) (e : l ≡ v ∷ rest) where
    pub count_good : tested_of s rows v ≡ done tt → count_on s rows l count ≡ count_on s rows rest (count + 1)
    unfolding count_on
    count_good q = rw (e, q)

    pub count_stop : (x : Refusal) → tested_of s rows v ≡ refused x → count_on s rows l count ≡ refused x
    unfolding count_on
    count_stop x q = rw (e, q)

pub count_start : (s rows : List ℕ) (n : ℕ) → count_on s rows (services_from s rows (row_count rows n) 0) 0 ≡ counted_of s rows n
unfolding counted_of
count_start s rows n = refl
