-- The order of two texts, byte by byte; a shorter text comes before its extensions.
-- Assumes nothing.
use Rattle.std.specs.Prelude.{◌≡◌, ℕ, ◌+◌, ◌<◌, ◌≤◌, List, [], ◌∷◌, length, drop, nat_lt, slice_index, slice_index_or}
use Rattle.std.proofs.Common.{sym, ap, refl, ◌∙◌, arith, add-one}
use Rattle.std.proofs.Math.Decide.{dec_lt}
use borrow.Author.Tests.{lt-ltb, le-ltb, eq-eqb, ne_eqb}
use Rattle.std.proofs.Math.ListN.{drop_of_length-le}
use Rattle.std.proofs.Math.Seq.{drop-cons}
use Rattle.std.specs.declared.cmp.Ordering.{Ordering}
use Rattle.std.specs.declared.cmp.Ordering.TheVariants.{Less, Equal, Greater}
use Rattle.std.specs.Ordering.{nat_cmp, ordering_then}
use Rattle.std.specs.Cmp.Lexicographic.{slice_cmp}
use Rattle.laws.specs.Choice.{pick}

unfoldable pub order_of : List ℕ → List ℕ → Ordering
order_of [] [] = Equal
order_of [] (y ∷ m) = Less
order_of (x ∷ l) [] = Greater
order_of (x ∷ l) (y ∷ m) = pick (nat_lt x y) Less (pick (nat_lt y x) Greater (order_of l m))

-- two numbers; where they are the same, what else decides
abbrev pub order_by : Ordering → ℕ → ℕ → Ordering
order_by same a b = pick (nat_lt a b) Less (pick (nat_lt b a) Greater same)

then_equal : (o : Ordering) → ordering_then o Equal ≡ o
then_equal Less = refl
then_equal Equal = refl
then_equal Greater = refl

module _ (same : Ordering) (a b : ℕ) where
  pub by_less : a < b → Less ≡ order_by same a b
  by_less h = rw (lt-ltb a b h)

  pub by_more : b < a → Greater ≡ order_by same a b
  by_more h = rw (le-ltb a b (omega arith), lt-ltb b a h)

  pub by_same : b ≤ a → a ≤ b → same ≡ order_by same a b
  by_same h k = rw (le-ltb a b h, le-ltb b a k)

  -- as the library compares numbers
  pub by_cmp : ordering_then (nat_cmp a b) same ≡ order_by same a b
  by_cmp =
      elim (dec_lt a b) [
        | yes q ↦ rw (lt-ltb a b q)
        | no q ↦ elim (dec_lt b a) [
          | yes r ↦ rw (le-ltb a b (omega arith), ne_eqb a b (λ e. q (omega arith)), lt-ltb b a r)
          | no r ↦ rw (le-ltb a b (omega arith), eq-eqb a b (omega arith), le-ltb b a (omega arith))
        ]
      ]

pub cmp_by : (a b : ℕ) → nat_cmp a b ≡ order_by Equal a b
cmp_by a b = sym (then_equal (nat_cmp a b)) ∙ by_cmp Equal a b

-- the library's order of slices
pub slice_order : (a b : List ℕ) → slice_cmp nat_cmp a b ≡ order_of a b
unfolding order_of
slice_order [] [] = refl
slice_order [] (y ∷ m) = refl
slice_order (x ∷ l) [] = refl
slice_order (x ∷ l) (y ∷ m) = by_cmp (slice_cmp nat_cmp l m) x y ∙ ap (λ o. order_by o x y) (slice_order l m)

-- two more by the same
pub by_moved : (same : Ordering) (a b c d e : ℕ) → c ≡ a + e → d ≡ b + e → order_by same c d ≡ order_by same a b
by_moved same a b c d e h k =
    elim (dec_lt a b) [
      | yes q ↦ sym (by_less same c d (omega arith)) ∙ by_less same a b q
      | no q ↦ elim (dec_lt b a) [
        | yes r ↦ sym (by_more same c d (omega arith)) ∙ by_more same a b r
        | no r ↦ sym (by_same same c d (omega arith) (omega arith)) ∙ by_same same a b (omega arith) (omega arith)
      ]
    ]

-- the comparison at an index of both
module _ (a b : List ℕ) (i : ℕ) where
  pub ended : length a ≤ i → length b ≤ i → Equal ≡ order_of (drop i a) (drop i b)
  unfolding order_of
  ended h k = rw (drop_of_length-le a h, drop_of_length-le b k)

  pub shorter : length a ≤ i → i < length b → Less ≡ order_of (drop i a) (drop i b)
  unfolding order_of
  shorter h k = rw (drop_of_length-le a h, drop-cons b i 0 k)

  module _ (h : i < length a) where
    pub longer : length b ≤ i → Greater ≡ order_of (drop i a) (drop i b)
    unfolding order_of
    longer k = rw (drop_of_length-le b k, drop-cons a i 0 h)

    module _ (k : i < length b) where
      pub below : slice_index_or a i 0 < slice_index b i → Less ≡ order_of (drop i a) (drop i b)
      unfolding order_of
      below l = rw (drop-cons a i 0 h, drop-cons b i 0 k, lt-ltb _ _ l)

      pub above : slice_index_or b i 0 < slice_index a i → Greater ≡ order_of (drop i a) (drop i b)
      unfolding order_of
      above l = rw (drop-cons a i 0 h, drop-cons b i 0 k, lt-ltb _ _ l, le-ltb (slice_index a i) (slice_index b i) (omega arith))

      pub level : slice_index_or b i 0 ≤ slice_index a i → slice_index a i ≤ slice_index b i → order_of (drop (i + 1) a) (drop (i + 1) b) ≡ order_of (drop i a) (drop i b)
      unfolding order_of
      level l m = rw (add-one, drop-cons a i 0 h, drop-cons b i 0 k, le-ltb _ _ l, le-ltb _ _ m)
