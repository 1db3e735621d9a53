-- What stands in the buffer past the n rows changes nothing: the rows alone decide.
-- Assumes nothing.
use Prim.Native.Nat.{ℕ, zero, suc, ◌+◌, ◌-◌, ◌*◌, ◌/◌, ◌≤◌, ◌<◌}
use Rattle.std.specs.Prelude.{◌≡◌, Bool, List, ◌++◌, ltb, length}
use Rattle.std.proofs.Math.Path.{refl}
use Rattle.std.proofs.Common.{sym, ◌∙◌, arith, length-append}
use borrow.Author.Tests.{lt-ltb, ltb-true}
use Rattle.std.proofs.Math.ListN.{get_or-append}
use Rattle.laws.specs.Choice.{choose}
use Rattle.answers.specs.Answers.{Answer, done, refused}
use Rattle.parts.specs.Places.{bytes_of}
use Rattle.messages.specs.Tags.{PRD, MSD, POP, UIT}
use Rattle.services.specs.declared.Service.{Service}
use Rattle.services.specs.Rows.{offset_at, is_row, row_count, first_in, first_from, list_of}
use Rattle.services.specs.Search.{first_bounds}
use Rattle.services.specs.Services.{is_service, is_period_row, service_end, removes, service_at, next_service, next_period, has_period, is_wrong, is_same_service, is_twice, tested_of, after_test, count_on, counted_of}
use Rattle.services.specs.Ways.{service_rows}

-- two tests that agree from i on and below n
abbrev Agree : (ℕ → Bool) → (ℕ → Bool) → ℕ → ℕ → Type 0
Agree f g i n = (j : ℕ) → i ≤ j → j < n → f j ≡ g j

of_same : (f g : ℕ → Bool) (k i : ℕ) → Agree f g i (i + k) → first_in f k i ≡ first_in g k i
unfolding first_in
of_same f g zero i h = refl
of_same f g (suc k) i h = rw (h i (omega arith) (omega arith), of_same f g k (i + 1) (λ j a b. h j (omega arith) (omega arith)))

first_same : (f g : ℕ → Bool) (i n : ℕ) → Agree f g i n → first_from f i n ≡ first_from g i n
first_same f g i n h = of_same f g (n - i) i (λ j a b. h j a (omega arith))

-- a count that goes on in the same way
after_same : (f g : ℕ → Answer ℕ) → ((c : ℕ) → f c ≡ g c) → (count : ℕ) (t : Answer (Unit {0})) → after_test f count t ≡ after_test g count t
after_same f g h count (done _) = h (count + 1)
after_same f g h count (refused refusal) = refl

module _ (l m : List ℕ) (n : ℕ) (h : 3 * n ≤ length l) where
  -- so many rows are held, with more behind them or not
  count_whole : (k : ℕ) → k ≤ n → row_count (l ++ m) k ≡ k
  count_whole k a =
      let e = length-append l m in
      omega arith

  count_front : (k : ℕ) → k ≤ n → row_count l k ≡ k
  count_front k a = omega arith

  module _ (i : ℕ) (a : i < n) where
    held : ltb i (length (l ++ m) / 3) ≡ ltb i (length l / 3)
    held =
        let e = length-append l m in
        lt-ltb i (length (l ++ m) / 3) (omega arith) ∙ sym (lt-ltb i (length l / 3) (omega arith))

    pub row_front : (group tag : ℕ) → is_row (l ++ m) group tag i ≡ is_row l group tag i
    unfolding is_row
    row_front group tag = rw (held, get_or-append l m 0 (3 * i + 1) (omega arith), get_or-append l m 0 (3 * i + 2) (omega arith))

    pub offset_front : offset_at (l ++ m) i ≡ offset_at l i
    unfolding offset_at
    offset_front = rw (held, get_or-append l m 0 (3 * i) (omega arith))

  -- a search among them finds the same
  search_front : (group tag i k : ℕ) → k ≤ n → first_from (is_row (l ++ m) group tag) i k ≡ first_from (is_row l group tag) i k
  search_front group tag i k a = first_same (is_row (l ++ m) group tag) (is_row l group tag) i k (λ j b d. row_front j (omega arith) group tag)

  module _ (s : List ℕ) where
    removes_front : (from to : ℕ) → to ≤ n → removes s (l ++ m) from to ≡ removes s l from to
    unfolding removes
    removes_front from to a =
        rw (search_front 2 MSD from to a)
        (choose (ltb (first_from (is_row l 2 MSD) from to) to)
        (λ q.
        let b = ltb-true (first_from (is_row l 2 MSD) from to) to q in
        rw (q, offset_front (first_from (is_row l 2 MSD) from to) (omega arith)))
        (λ q. rw q))

    end_front : (k : ℕ) → k < n → service_end (l ++ m) n k ≡ service_end l n k
    end_front k a =
        let x = first_from (is_service l) (k + 1) n in
        let b = first_bounds (is_service l) (n - (k + 1)) (k + 1) in
        rw (search_front 2 PRD (k + 1) n (omega arith)) (search_front 0 UIT (k + 1) x (omega arith))

    service_front : (k : ℕ) → k < n → service_at s (l ++ m) n k ≡ service_at s l n k
    unfolding service_at
    service_front k a =
        let b = service_rows l n k a in
        rw (offset_front k a, end_front k a, removes_front (k + 1) (service_end l n k) b.1)

    pub next_front : (i : ℕ) → next_service s (l ++ m) n i ≡ next_service s l n i
    unfolding next_service
    next_front i =
        let x = first_from (is_service l) i n in
        rw (count_whole n (omega arith), count_front n (omega arith), search_front 2 PRD i n (omega arith))
        (choose (ltb (first_from (is_service l) i n) n)
        (λ q. rw (q, service_front x (ltb-true x n q)))
        (λ q. rw q))

    same_front : (number : List ℕ) (j : ℕ) → j < n → is_same_service s (l ++ m) number j ≡ is_same_service s l number j
    unfolding is_same_service
    same_front number j a = rw (row_front j a 2 PRD, offset_front j a)

    twice_front : (number : List ℕ) (before : ℕ) → before ≤ n → is_twice s (l ++ m) number before ≡ is_twice s l number before
    unfolding is_twice
    twice_front number before a =
        rw (count_whole before a, count_front before a, first_same (is_same_service s (l ++ m) number) (is_same_service s l number) 0 before (λ j b d. same_front number j (omega arith)))

    period_has : (from to : ℕ) → to ≤ n → has_period (l ++ m) from to ≡ has_period l from to
    unfolding has_period
    period_has from to a = rw (count_whole to a, count_front to a, search_front 4 POP from to a)

    pub tested_front : (v : Service) → v.from ≤ n → v.to ≤ n → tested_of s (l ++ m) v ≡ tested_of s l v
    unfolding tested_of is_wrong
    tested_front v a b = rw (period_has v.from v.to b, twice_front (bytes_of s v.number) v.from a)

    count_on_lem : (k i count : ℕ) → i + k ≤ n → count_on s (l ++ m) (list_of (is_service (l ++ m)) (service_at s (l ++ m) n) k i) count ≡ count_on s l (list_of (is_service l) (service_at s l n) k i) count
    unfolding list_of count_on service_at
    count_on_lem zero i count a = refl
    count_on_lem (suc k) i count a =
        let w = service_rows l n i (omega arith) in
        rw (row_front i (omega arith) 2 PRD, service_front i (omega arith))
        (choose (is_service l i)
        (λ q.
        rw (q, tested_front (service_at s l n i) (omega arith) w.1)
        (after_same (count_on s (l ++ m) (list_of (is_service (l ++ m)) (service_at s (l ++ m) n) k (i + 1))) (count_on s l (list_of (is_service l) (service_at s l n) k (i + 1))) (λ c. count_on_lem k (i + 1) c (omega arith)) count (tested_of s l (service_at s l n i))))
        (λ q. rw q (count_on_lem k (i + 1) count (omega arith))))

    pub counted_front : counted_of s (l ++ m) n ≡ counted_of s l n
    unfolding counted_of
    counted_front = rw (count_whole n (omega arith), count_front n (omega arith)) (count_on_lem (n - 0) 0 0 (omega arith))

  pub period_front : (i to : ℕ) → to ≤ n → next_period (l ++ m) i to ≡ next_period l i to
  unfolding next_period
  period_front i to a =
      let x = first_from (is_period_row l) i to in
      rw (count_whole to a, count_front to a, search_front 4 POP i to a)
      (choose (ltb (first_from (is_period_row l) i to) to)
      (λ q.
      let b = ltb-true x to q in
      rw (q, offset_front x (omega arith)))
      (λ q. rw q))
