-- The end of a segment that has too few characters and marks to pass a limit, which is found without counting its parts.
-- Assumes nothing.
use Rattle.std.specs.Prelude.{◌≡◌, refl, Bool, true, false, Option, Some, None, List, ℕ, zero, suc, ◌+◌, ◌-◌, ◌*◌, ◌≤◌, ◌<◌, min, leb, ltb, eqb, length, drop, get_or, Ok}
use Rattle.std.proofs.Common.{sym, ◌∙◌, arith}
use Rattle.std.proofs.Math.Path.{ap}
use borrow.Author.Tests.{eqb-true, eqb-false, leb-true, leb-false, le-leb, lt-leb, lt-ltb, le-ltb, ltb-true}
use Rattle.std.specs.Int.Bits.{bit_or, bit_xor, or_add_and, or_zero_l, xor_self}
use Rattle.std.proofs.lemmas.Nat.{and_le_r}
use Rattle.laws.specs.Choice.{pick, both, either, choose, false≢true}
use Rattle.laws.specs.Lists.{between, length_between}
use Rattle.laws.specs.Words.{xor_zero}
use Rattle.syntax.specs.Segment.{capital, segment_at}
use Rattle.syntax.specs.Tags.{tag_ahead, tag_four}
use Rattle.syntax.specs.Found.{end_from, end_past, told_of, told_is}
use Rattle.syntax.specs.Few.{marks_in}
use Rattle.syntax.specs.Whole.{end_most, end_after_plus, whole_short, whole_small}

-- whether the bytes from an index to another, a tag and `+` before them, are too few to pass a limit, or have too few marks among them
unfoldable pub is_few : List ℕ → ℕ → ℕ → Bool
is_few s at e = either (leb (e - at) 34) (both (leb (length (between s at e)) 512) (leb (marks_in (between s at e)) 31))

-- the terminator's index of such a segment whose tag, with the `+` behind it, starts at an offset; the input's length where there is none
unfoldable pub quick_end : List ℕ → ℕ → ℕ
quick_end s at = pick (is_few s at (end_from s (at + 4))) (end_from s (at + 4)) (length s)

-- the same as it is told
unfoldable pub quick_of : List ℕ → ℕ → Option ℕ
quick_of s at = told_of (length s) (quick_end s at)

pub quick_told : (s : List ℕ) (at e : ℕ) → e ≡ quick_end s at → told_of (length s) e ≡ quick_of s at
unfolding quick_of
quick_told s at e q = ap (told_of (length s)) q

-- a terminator and a count of at most 34, in one number
pub close_two : (b n : ℕ) → leb (bit_or (bit_xor b 39 * 256) n) 34 ≡ both (eqb b 39) (leb n 34)
close_two b n =
    choose (eqb b 39)
    (λ p.
    let z = eqb-true b 39 p in
    let e : bit_xor b 39 ≡ 0 = ap (λ (x : ℕ). bit_xor x 39) z ∙ xor_self 39 in
    rw (p, e, or_zero_l n))
    (λ p.
    let s = or_add_and (bit_xor b 39 * 256) n in
    let r = and_le_r (bit_xor b 39 * 256) n in
    let d : 0 < bit_xor b 39 = some (bit_xor b 39) (λ e. eqb-false b 39 p (xor_zero b 39 e)) in
    rw (p, lt-leb (bit_or (bit_xor b 39 * 256) n) 34 (omega arith)))
  where
    some : (k : ℕ) → (k ≡ 0 → ⊥) → 0 < k
    some zero h = absurd (h refl)
    some (suc k) h = omega arith

pub quick_is : (s : List ℕ) (at e : ℕ) → quick_of s at ≡ Some e → (quick_end s at ≡ e) × (quick_end s at < length s)
unfolding quick_of
quick_is s at e q = told_is (length s) (quick_end s at) e q

-- where no end is found there is none, as in an input that ends before that
pub quick_none : (s : List ℕ) (at : ℕ) → end_from s (at + 4) ≡ length s → length s ≡ quick_end s at
unfolding quick_end
quick_none s at e = choose (is_few s at (end_from s (at + 4))) (λ p. rw p (sym e)) (λ p. rw p)

pub quick_past : (s : List ℕ) (at : ℕ) → length s < at + 4 → length s ≡ quick_end s at
quick_past s at h = quick_none s at (end_past s (at + 4) (omega arith))

-- what a search for the end tells
module _ (s : List ℕ) (at e : ℕ) (f : e ≡ end_from s (at + 4)) where
  by_few : pick (is_few s at e) e (length s) ≡ quick_end s at
  unfolding quick_end
  by_few = ap (λ (x : ℕ). pick (is_few s at x) x (length s)) f

  pub quick_short : e - at ≤ 34 → e ≡ quick_end s at
  unfolding is_few
  quick_short h = rw (le-leb (e - at) 34 h) at by_few

  long : length (between s at e) ≡ e - at
  long = let m = end_most s (at + 4) in length_between s at e (omega arith)

  pub quick_small : (b : Bool) → b ≡ leb (marks_in (between s at e)) 31 → 34 < e - at → e - at ≤ 512 → pick b e (length s) ≡ quick_end s at
  unfolding is_few
  quick_small b q h k =
      let l = long in
      ap (λ (x : Bool). pick x e (length s)) q ∙ (rw (lt-leb (e - at) 34 h, le-leb (length (between s at e)) 512 (omega arith)) at by_few)

  pub quick_far : 512 < e - at → length s ≡ quick_end s at
  unfolding is_few
  quick_far h =
      let l = long in
      rw (lt-leb (e - at) 34 (omega arith), lt-leb (length (between s at e)) 512 (omega arith)) at by_few

-- nor is one found within the input that is near
pub quick_beyond : (s : List ℕ) (at : ℕ) → min (length s) (at + 513) ≤ end_from s (at + 4) → length s ≡ quick_end s at
quick_beyond s at h =
    let m = end_most s (at + 4) in
    choose (leb (length s) (end_from s (at + 4)))
    (λ p. let l = leb-true (length s) (end_from s (at + 4)) p in quick_none s at (omega arith))
    (λ p. let l = leb-false (length s) (end_from s (at + 4)) p in quick_far s at (end_from s (at + 4)) refl (omega arith))

-- three capital letters and `+` are a tag
pub tag_plus : (s : List ℕ) (at : ℕ) → at + 4 ≤ length s → capital (get_or s at 0) ≡ true → capital (get_or s (at + 1) 0) ≡ true → capital (get_or s (at + 2) 0) ≡ true
    → get_or s (at + 3) 0 ≡ 43 → tag_ahead (drop at s) ≡ true
tag_plus s at h a b c d = tag_four s at h ∙ rw (a, b, c, d)

-- and the segment that they begin is whole where its end is found so
module _ (s : List ℕ) (at : ℕ) (q : tag_ahead (drop at s) ≡ true) where
  whole : (e : ℕ) → e ≡ end_from s (at + 3) → e < length s → is_few s at e ≡ true → Ok e ≡ segment_at s at
  unfolding is_few
  whole e f h p =
      choose (leb (e - at) 34) (λ g. whole_short s at q e f h (leb-true (e - at) 34 g))
      (λ g. whole_small s at q e f h (rw g at p))

  pub quick_whole : get_or s (at + 3) 0 ≡ 43 → quick_end s at < length s → segment_at s at ≡ Ok (quick_end s at)
  unfolding quick_end
  quick_whole d h =
      choose (is_few s at (end_from s (at + 4)))
      (λ p. rw p (sym (whole (end_from s (at + 4)) (end_after_plus s at q d) (rw p at h) p)))
      (λ p. let g = rw p at h in absurd (omega arith))

  pub quick_segment : (e : ℕ) → get_or s (at + 3) 0 ≡ 43 → quick_of s at ≡ Some e → segment_at s at ≡ Ok e
  quick_segment e d h =
      let k = quick_is s at e h in
      quick_whole d k.1 ∙ ap Ok k.0
