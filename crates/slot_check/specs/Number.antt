-- A number in its ten bytes: which bytes hold one, and how two of them stand to each other.
-- Assumes nothing.
use Rattle.std.specs.Prelude.{◌≡◌, refl, Bool, true, false, List, [], ◌∷◌, eqb, leb, length, get_or, take, drop, replicate}
use Rattle.std.proofs.Math.Path.{sym}
use Rattle.std.proofs.Common.{◌∙◌, ap, eq-eqb, eqb-true, le-leb, lt-ltb, length-append, length-take-le}
use Prim.Native.Nat.{ℕ, zero, suc, ◌+◌, ◌-◌, ◌≤◌, ◌<◌, min}
use native.Mathlib.Omega.{arith}
use Rattle.std.proofs.Math.Nat.{sub-zero, zero-min, min-zero, suc-min-suc}
use Rattle.std.proofs.lemmas.Bool.{eqb-false}
use Rattle.std.proofs.lemmas.List.{length-replicate}
use Rattle.std.proofs.Math.ListN.{drop_of_length-le}
use Rattle.laws.specs.Choice.{both, choose, all, both_parts, both_assoc, both_true}
use Rattle.laws.specs.Lists.{drop_here, drop_past, drop_take}
use Rattle.laws.specs.Filled.{filled_up}
use Rattle.syntax.specs.Bytes.{permitted_of}
use Rattle.syntax.specs.Segment.{permitted_run}
use Rattle.values.specs.Values.{same_text}
use Rattle.gaps.specs.Zero.{all_zero}
use Rattle.slots.specs.Order.{order_of}
use Rattle.slots.specs.Rising.{is_before}
use Rattle.contents.specs.Contents.{good_number, comes_before}
use Rattle.contents.specs.Written.{up_to_zero}
use Rattle.rooms.specs.Order.{same_told, before_order, number_least, number_order_lem}
use Rattle.slot_check.specs.Same.{same_zeros}

-- whether bytes are a number, filled up with zeros
unfoldable pub is_number : List ℕ → Bool
is_number x = both (good_number (up_to_zero x)) (same_text (filled_up 10 (up_to_zero x)) x)

-- ---- for the loop

pub run_le : (l : List ℕ) → permitted_run l ≤ length l
unfolding permitted_run
run_le [] = omega arith
run_le (b ∷ l) = choose (permitted_of b) (λ p. rw p (let h = run_le l in omega arith)) (λ p. rw p (omega arith))

module _ (s : List ℕ) (i : ℕ) where
  pub run_end : length s ≤ i → permitted_run (drop i s) ≡ 0
  unfolding permitted_run
  run_end h = rw (drop_past s i h)

  module _ (h : i < length s) where
    pub run_stop : permitted_of (get_or s i 0) ≡ false → permitted_run (drop i s) ≡ 0
    unfolding permitted_run
    run_stop q = rw (drop_here s i h, q)

    pub run_on : permitted_of (get_or s i 0) ≡ true → permitted_run (drop i s) ≡ suc (permitted_run (drop (i + 1) s))
    unfolding permitted_run
    run_on q = rw (drop_here s i h, q)

-- ---- a run of permitted bytes, then zeros

zero_not : permitted_of 0 ≡ false
unfolding permitted_of
zero_not = refl

pub length_up : (l : List ℕ) → length (up_to_zero l) ≤ length l
unfolding up_to_zero
length_up [] = omega arith
length_up (b ∷ l) = choose (eqb b 0) (λ p. rw p (omega arith)) (λ p. rw p (let h = length_up l in omega arith))

pub length_filled : (n : ℕ) (x : List ℕ) → length x ≤ n → length (filled_up n x) ≡ n
unfolding filled_up
length_filled n x h = rw (length-append, length-replicate) (omega arith)

rest_zero_lem : (x : List ℕ) → both (all permitted_of (up_to_zero x)) (same_text (filled_up (length x) (up_to_zero x)) x) ≡ all_zero (drop (permitted_run x) x)
unfolding up_to_zero filled_up permitted_run same_text all_zero
rest_zero_lem [] = refl
rest_zero_lem (b ∷ l) =
    choose (eqb b 0)
    (λ p.
    let e = eqb-true b 0 p in
    rw e (rw (zero_not, sub-zero) (same_zeros (suc (length l)) (0 ∷ l) refl)))
    (λ p.
    let e : suc (length l) - suc (length (up_to_zero l)) ≡ length l - length (up_to_zero l) = omega arith in
    choose (permitted_of b)
    (λ q. rw (p, q) (rw (eq-eqb b b refl, e) (rest_zero_lem l)))
    (λ q. rw (p, q) (rw p)))

some_first : (x : List ℕ) → both (leb 1 (length (up_to_zero x))) (all_zero (drop (permitted_run x) x)) ≡ both (leb 1 (permitted_run x)) (all_zero (drop (permitted_run x) x))
unfolding up_to_zero permitted_run all_zero
some_first [] = refl
some_first (b ∷ l) =
    choose (eqb b 0)
    (λ p.
    let e = eqb-true b 0 p in
    rw e (rw zero_not))
    (λ p.
    let h : leb 1 (suc (length (up_to_zero l))) ≡ true = le-leb 1 (suc (length (up_to_zero l))) (omega arith) in
    choose (permitted_of b)
    (λ q.
    let k : leb 1 (suc (permitted_run l)) ≡ true = le-leb 1 (suc (permitted_run l)) (omega arith) in
    rw (p, q, h, k))
    (λ q. rw (p, q, h) (rw p)))

-- what `is_number` tests
pub number_is : (x : List ℕ) → length x ≡ 10 → is_number x ≡ both (leb 1 (permitted_run x)) (all_zero (drop (permitted_run x) x))
unfolding is_number good_number
number_is x h =
    let u = length_up x in
    let a : Bool = leb 1 (length (up_to_zero x)) in
    rw (le-leb (length (up_to_zero x)) 10 (omega arith), both_true a)
    (both_assoc a (all permitted_of (up_to_zero x)) (same_text (filled_up 10 (up_to_zero x)) x)
    ∙ ap (λ (n : ℕ). both a (both (all permitted_of (up_to_zero x)) (same_text (filled_up n (up_to_zero x)) x))) (sym h)
    ∙ rw (rest_zero_lem x) (some_first x))

run_take : (k : ℕ) (s : List ℕ) → permitted_run (take k s) ≡ min k (permitted_run s)
unfolding permitted_run
run_take zero s = sym (zero-min (permitted_run s))
run_take (suc k) [] = sym (min-zero (suc k))
run_take (suc k) (b ∷ s) = choose (permitted_of b) (λ p. rw p (ap suc (run_take k s) ∙ sym (suc-min-suc k (permitted_run s)))) (λ p. rw p (sym (min-zero (suc k))))

module _ (s : List ℕ) (h : length s ≡ 140) (n : ℕ) (e : n ≡ permitted_run s) where
  ten : length (take 10 s) ≡ 10
  ten = length-take-le 10 s (omega arith)

  run_here : permitted_run (take 10 s) ≡ min 10 n
  run_here = run_take 10 s ∙ ap (min 10) (sym e)

  pub number_none : n ≡ 0 → false ≡ is_number (take 10 s)
  number_none q = sym (number_is (take 10 s) ten ∙ rw (run_here, q))

  pub number_full : 10 ≤ n → true ≡ is_number (take 10 s)
  unfolding all_zero
  number_full q =
      let m : min 10 n ≡ 10 = omega arith in
      sym (number_is (take 10 s) ten ∙ rw (run_here, m, drop_of_length-le (take 10 s) {i = 10} (let t = ten in omega arith)))

  pub number_rest : (n ≡ 0 → ⊥) → n < 10 → (z : Bool) → z ≡ all_zero (take (10 - n) (drop n s)) → z ≡ is_number (take 10 s)
  number_rest d q z t =
      let m : min 10 n ≡ n = omega arith in
      t ∙ sym (number_is (take 10 s) ten ∙ rw (run_here, m, le-leb 1 n (omega arith), drop_take n 10 s))

-- ---- numbers filled up with zeros stand to each other as the numbers do

pub before_any : (l : List ℕ) → 1 ≤ length l → comes_before [] l ≡ true
unfolding comes_before
before_any [] h = absurd (omega arith)
before_any (b ∷ l) h = refl

zeros_before : (x : List ℕ) → 1 ≤ length (up_to_zero x) → is_before (order_of (replicate 10 0) x) ≡ true
unfolding up_to_zero order_of
zeros_before [] h = absurd (omega arith)
zeros_before (b ∷ l) h =
    choose (eqb b 0)
    (λ p. absurd (let g = rw p at h in omega arith))
    (λ p. let d = eqb-false b 0 p in rw (lt-ltb 0 b (omega arith)))

module _ (x : List ℕ) (q : is_number x ≡ true) where
  number_filled : filled_up 10 (up_to_zero x) ≡ x
  unfolding is_number
  number_filled = same_told (filled_up 10 (up_to_zero x)) x (both_parts (good_number (up_to_zero x)) (same_text (filled_up 10 (up_to_zero x)) x) q).1

  number_good : good_number (up_to_zero x) ≡ true
  unfolding is_number
  number_good = (both_parts (good_number (up_to_zero x)) (same_text (filled_up 10 (up_to_zero x)) x) q).0

  -- zeros come before every number
  pub before_first_lem : is_before (order_of (replicate 10 0) x) ≡ comes_before [] (up_to_zero x)
  before_first_lem =
      let m = number_least (up_to_zero x) number_good in
      zeros_before x m ∙ sym (before_any (up_to_zero x) m)

pub before_filled : (x y : List ℕ) → is_number x ≡ true → is_number y ≡ true → is_before (order_of x y) ≡ comes_before (up_to_zero x) (up_to_zero y)
before_filled x y p q =
    let a : List ℕ = up_to_zero x in
    let b : List ℕ = up_to_zero y in
    let e : order_of x y ≡ order_of (filled_up 10 a) (filled_up 10 b) = ap (λ (l : List ℕ). order_of l y) (sym (number_filled x p)) ∙ ap (order_of (filled_up 10 a)) (sym (number_filled y q)) in
    ap is_before (e ∙ number_order_lem a b (number_good x p) (number_good y q)) ∙ sym (before_order a b)
