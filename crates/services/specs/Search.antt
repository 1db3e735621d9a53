-- Laws of rows, of searches among them and of lists of them.
-- Assumes nothing.
use Prim.Native.Nat.{ℕ, zero, suc, ◌+◌, ◌-◌, ◌*◌, ◌/◌, ◌≤◌, ◌<◌}
use Rattle.std.specs.Prelude.{◌≡◌, Bool, true, false, List, [], ◌∷◌, eqb, ltb, length, get_or, Option, Some, None, is_some}
use Rattle.std.proofs.Math.Path.{refl, ap}
use Rattle.std.proofs.Common.{sym, subst, ◌∙◌}
use native.Mathlib.Omega.{arith}
use Rattle.std.proofs.Math.Decide.{dec_lt}
use borrow.Author.Tests.{eq-eqb, ne_eqb, lt-ltb, le-ltb, ltb-true, ltb-false}
use Rattle.std.proofs.lemmas.Option.{none-some, same_Some}
use Rattle.laws.specs.Choice.{pick, either, both_false, both_true, choose, false≢true}
use Rattle.services.specs.Rows.{offset_at, is_row, first_in, first_from, found_from, some_from, list_of, list_from}

pub offset_some : (rows : List ℕ) (i : ℕ) → i < length rows / 3 → get_or rows (3 * i) 0 ≡ offset_at rows i
unfolding offset_at
offset_some rows i h = rw (lt-ltb i (length rows / 3) h)

pub offset_none : (rows : List ℕ) (i : ℕ) → length rows / 3 ≤ i → 0 ≡ offset_at rows i
unfolding offset_at
offset_none rows i h = rw (le-ltb i (length rows / 3) h)

-- the ways through the test of a row
module _ (rows : List ℕ) (group tag i : ℕ) where
  module _ (h : i < length rows / 3) where
    pub row_inner : (get_or rows (3 * i + 1) 0 ≡ group → ⊥) → is_row rows group tag i ≡ false
    unfolding is_row
    row_inner q = simp (lt-ltb i (length rows / 3) h, ne_eqb (get_or rows (3 * i + 1) 0) group q)

    pub row_other : (get_or rows (3 * i + 2) 0 ≡ tag → ⊥) → is_row rows group tag i ≡ false
    unfolding is_row
    row_other q = simp (lt-ltb i (length rows / 3) h, ne_eqb (get_or rows (3 * i + 2) 0) tag q, both_false)

    pub row_group : get_or rows (3 * i + 2) 0 ≡ tag → is_row rows group tag i ≡ eqb (get_or rows (3 * i + 1) 0) group
    unfolding is_row
    row_group q = simp (lt-ltb i (length rows / 3) h, eq-eqb (get_or rows (3 * i + 2) 0) tag q, both_true)

-- the steps of a search
module _ (f : ℕ → Bool) (i n : ℕ) where
  pub first_past : n ≤ i → first_from f i n ≡ i
  unfolding first_in
  first_past h =
      let e : n - i ≡ 0 = omega arith in
      rw e

  module _ (h : i < n) where
    pub first_here : f i ≡ true → first_from f i n ≡ i
    unfolding first_in
    first_here q =
        let e : n - i ≡ suc (n - (i + 1)) = omega arith in
        rw (e, q)

    pub first_on : f i ≡ false → first_from f i n ≡ first_from f (i + 1) n
    unfolding first_in
    first_on q =
        let e : n - i ≡ suc (n - (i + 1)) = omega arith in
        rw (e, q)

-- what a search finds, or that it finds none
module _ (f : ℕ → Bool) (i n : ℕ) where
  pub found_there : first_from f i n < n → Some (first_from f i n) ≡ found_from f i n
  found_there h = rw (lt-ltb (first_from f i n) n h)

  pub found_nowhere : n ≤ first_from f i n → None ≡ found_from f i n
  found_nowhere h = rw (le-ltb (first_from f i n) n h)

  pub found_some : (r : Option ℕ) → r ≡ found_from f i n → is_some r ≡ ltb (first_from f i n) n
  found_some r e = rw e (choose (ltb (first_from f i n) n) (λ l. rw l) (λ l. rw l))

  pub found_row : (r : Option ℕ) → r ≡ found_from f i n → (k : ℕ) → r ≡ Some k → (k ≡ first_from f i n) × (k < n)
  found_row r e k q =
      choose (ltb (first_from f i n) n)
      (λ l.
      let d = same_Some (first_from f i n) k (rw l at (sym e ∙ q)) in
      let h = ltb-true (first_from f i n) n l in
      (sym d, omega arith))
      (λ l. absurd (none-some k (rw l at (sym e ∙ q))))

  pub found_no_row : (r : Option ℕ) → r ≡ found_from f i n → r ≡ None → n ≤ first_from f i n
  found_no_row r e q =
      choose (ltb (first_from f i n) n)
      (λ l. absurd (none-some (first_from f i n) (sym (rw l at (sym e ∙ q)))))
      (λ l. ltb-false (first_from f i n) n l)

-- a search ends at or behind its start, and at or before its end
pub first_bounds : (f : ℕ → Bool) (k i : ℕ) → (i ≤ first_in f k i) × (first_in f k i ≤ i + k)
unfolding first_in
first_bounds f zero i = (omega arith, omega arith)
first_bounds f (suc k) i =
    let w = first_bounds f k (i + 1) in
    choose (f i) (λ q. rw q (omega arith, omega arith)) (λ q. rw q (omega arith, omega arith))

-- the test holds where a search ends before its end, and of nothing before that
first_holds : (f : ℕ → Bool) (k i : ℕ) → first_in f k i < i + k → f (first_in f k i) ≡ true
unfolding first_in
first_holds f zero i h = absurd (omega arith)
first_holds f (suc k) i h =
    choose (f i) (λ q. rw q q) (λ q. let x = rw q at h in rw q (first_holds f k (i + 1) (omega arith)))

pub first_skips : (f : ℕ → Bool) (k i j : ℕ) → i ≤ j → j < first_in f k i → f j ≡ false
unfolding first_in
first_skips f zero i j a h = absurd (omega arith)
first_skips f (suc k) i j a h =
    choose (f i) (λ q. let x = rw q at h in absurd (omega arith))
    (λ q.
    let x = rw q at h in
    elim (dec_lt i j) [
      | yes l ↦ first_skips f k (i + 1) j (omega arith) x
      | no l ↦
          let e : i ≡ j = omega arith in
          subst (λ (y : ℕ). f y ≡ false) e q
    ])

module _ (f : ℕ → Bool) (i n : ℕ) where
  pub some_holds : some_from f i n ≡ true → f (first_from f i n) ≡ true
  some_holds q =
      let h = ltb-true (first_from f i n) n q in
      let w = first_bounds f (n - i) i in
      first_holds f (n - i) i (omega arith)

  pub some_none : some_from f i n ≡ false → (j : ℕ) → i ≤ j → j < n → f j ≡ false
  some_none q j a b =
      let h = ltb-false (first_from f i n) n q in
      first_skips f (n - i) i j a (omega arith)

  -- where it holds of none the search comes to the end
  pub first_none : ((j : ℕ) → i ≤ j → j < n → f j ≡ false) → n ≤ first_from f i n
  first_none q =
      let w = first_bounds f (n - i) i in
      elim (dec_lt (first_from f i n) n) [
        | yes h ↦ absurd (false≢true (sym (q (first_from f i n) w.0 h) ∙ first_holds f (n - i) i (omega arith)))
        | no h ↦ omega arith
      ]

  pub none_holds : ((j : ℕ) → i ≤ j → j < n → f j ≡ false) → some_from f i n ≡ false
  none_holds q = le-ltb (first_from f i n) n (first_none q)

  -- what is found before m is found before any later end too
  pub first_short : (m : ℕ) → m ≤ n → first_from f i m < m → first_from f i n ≡ first_from f i m
  first_short m l h =
      let v = first_bounds f (m - i) i in
      let w = first_bounds f (n - i) i in
      let q = first_holds f (m - i) i (omega arith) in
      elim (dec_lt (first_from f i n) (first_from f i m)) [
        | yes a ↦ absurd (false≢true (sym (first_skips f (m - i) i (first_from f i n) w.0 a) ∙ first_holds f (n - i) i (omega arith)))
        | no a ↦ elim (dec_lt (first_from f i m) (first_from f i n)) [
          | yes b ↦ absurd (false≢true (sym (first_skips f (n - i) i (first_from f i m) v.0 b) ∙ q))
          | no b ↦ omega arith
        ]
      ]

-- a test that implies another holds first where the other does, or later
of_through : (f g : ℕ → Bool) → ((j : ℕ) → f j ≡ true → g j ≡ true) → (k i : ℕ) → first_in f k i ≡ first_in f (i + k - first_in g k i) (first_in g k i)
unfolding first_in
of_through f g q zero i =
    let e : i + 0 - i ≡ 0 = omega arith in
    rw e
of_through f g q (suc k) i =
    let e : i + suc k - i ≡ suc k = omega arith in
    choose (g i) (λ p. rw (p, e))
    (λ p.
    let n : f i ≡ false = choose (f i) (λ r. absurd (false≢true (sym p ∙ q i r))) (λ r. r) in
    let d : i + suc k ≡ i + 1 + k = omega arith in
    rw (p, n, d) (of_through f g q k (i + 1)))

pub first_through : (f g : ℕ → Bool) → ((j : ℕ) → f j ≡ true → g j ≡ true) → (i n : ℕ) → i ≤ n → first_from f i n ≡ first_from f (first_from g i n) n
first_through f g q i n h =
    let e : i + (n - i) ≡ n = omega arith in
    of_through f g q (n - i) i ∙ ap (λ (x : ℕ). first_in f (x - first_from g i n) (first_from g i n)) e

-- the first of one test, up to the first of another, is the first of either
of_either : (f g : ℕ → Bool) (k i : ℕ) → first_in f (first_in g k i - i) i ≡ first_in (λ j. either (g j) (f j)) k i
unfolding first_in
of_either f g zero i =
    let e : i - i ≡ 0 = omega arith in
    rw e
of_either f g (suc k) i =
    let e : i - i ≡ 0 = omega arith in
    choose (g i) (λ p. rw (p, e))
    (λ p.
    let w = first_bounds g k (i + 1) in
    let d : first_in g k (i + 1) - i ≡ suc (first_in g k (i + 1) - (i + 1)) = omega arith in
    rw (p, d) (ap (pick (f i) i) (of_either f g k (i + 1))))

pub first_either : (f g : ℕ → Bool) (i n : ℕ) → first_from f i (first_from g i n) ≡ first_from (λ j. either (g j) (f j)) i n
first_either f g i n = of_either f g (n - i) i

-- a list begins with what a search finds
module _ {A : Type 0} (f : ℕ → Bool) (g : ℕ → A) where
  of_none : (k i : ℕ) → i + k ≤ first_in f k i → list_of f g k i ≡ []
  unfolding first_in list_of
  of_none zero i h = refl
  of_none (suc k) i h =
      choose (f i) (λ q. let x = rw q at h in absurd (omega arith))
      (λ q. let x = rw q at h in rw q (of_none k (i + 1) (omega arith)))

  of_some : (k i n : ℕ) → first_in f k i < i + k → i + k ≡ n → list_of f g k i ≡ g (first_in f k i) ∷ list_of f g (n - (first_in f k i + 1)) (first_in f k i + 1)
  unfolding first_in list_of
  of_some zero i n h z = absurd (omega arith)
  of_some (suc k) i n h z =
      choose (f i)
      (λ q.
      let e : n - (i + 1) ≡ k = omega arith in
      rw (q, e))
      (λ q. let x = rw q at h in rw q (of_some k (i + 1) n (omega arith) (omega arith)))

  pub list_none : (i n : ℕ) → n ≤ first_from f i n → list_from f g i n ≡ []
  list_none i n h =
      let w = first_bounds f (n - i) i in
      of_none (n - i) i (omega arith)

  pub list_some : (i n : ℕ) → first_from f i n < n → list_from f g i n ≡ g (first_from f i n) ∷ list_from f g (first_from f i n + 1) n
  list_some i n h =
      let w = first_bounds f (n - i) i in
      of_some (n - i) i n (omega arith) (omega arith)

  -- numbers of which the test does not hold may be left out
  of_skip : (d k m i : ℕ) → m ≡ d + k → ((j : ℕ) → i ≤ j → j < i + d → f j ≡ false) → list_of f g m i ≡ list_of f g k (i + d)
  unfolding list_of
  of_skip zero k m i z q =
      let e : m ≡ k = omega arith in
      let a : i ≡ i + 0 = omega arith in
      ap (λ (x : ℕ). list_of f g x i) e ∙ ap (list_of f g k) a
  of_skip (suc d) k m i z q =
      let e : m ≡ suc (d + k) = omega arith in
      let a : i + 1 + d ≡ i + suc d = omega arith in
      rw (e, q i (omega arith) (omega arith)) (of_skip d k (d + k) (i + 1) refl (λ j a b. q j (omega arith) (omega arith)) ∙ ap (list_of f g k) a)

  pub list_skip : (i m n : ℕ) → i ≤ m → m ≤ n → ((j : ℕ) → i ≤ j → j < m → f j ≡ false) → list_from f g i n ≡ list_from f g m n
  list_skip i m n h l q =
      let e : n - i ≡ m - i + (n - m) = omega arith in
      let d : i + (m - i) ≡ m = omega arith in
      of_skip (m - i) (n - m) (n - i) i e (λ j a b. q j a (omega arith)) ∙ ap (list_of f g (n - m)) d
