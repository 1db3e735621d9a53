-- The end of a segment that is sought no further than an index.
-- Assumes nothing.
use Rattle.std.specs.Prelude.{◌≡◌, refl, Bool, false, List, [], ◌∷◌, ℕ, zero, suc, ◌+◌, ◌-◌, ◌≤◌, ◌<◌, min, ltb, drop}
use Rattle.std.proofs.Common.{ap, ap₂, ◌∙◌, arith, length-take-le}
use borrow.Author.Tests.{lt-ltb, le-ltb, ltb-true, ltb-false}
use Rattle.std.proofs.Math.ListN.{length, take, length-take}
use Rattle.std.proofs.Math.Seq.{take_all}
use Rattle.laws.specs.Choice.{both, all, choose, both_false}
use Rattle.laws.specs.Lists.{drop_take}
use Rattle.syntax.specs.Bytes.{permitted_of, stands, releases}
use Rattle.syntax.specs.Pieces.{first_piece}
use Rattle.syntax.specs.Found.{found_end, end_from, told_of}

-- the first piece of a front is the front of the first piece
first_front : (c : ℕ) (r : Bool) (k : ℕ) (l : List ℕ) → first_piece c r (take k l) ≡ take k (first_piece c r l)
unfolding first_piece
first_front c r zero l = refl
first_front c r (suc k) [] = refl
first_front c r (suc k) (b ∷ l) =
    choose (stands c r b) (λ q. rw q) (λ q. rw q (ap (λ (x : List ℕ). b ∷ x) (first_front c (releases r b) k l)))

module _ (n m i : ℕ) (g : List ℕ) (h : m ≤ n) where
  found_within : i + length g < m → found_end m i (take (m - i) g) ≡ min (found_end n i g) m
  unfolding found_end
  found_within l =
      let t : take (m - i) g ≡ g = take_all (m - i) g (omega arith) in
      rw (t, lt-ltb (i + length g) m l, lt-ltb (i + length g) n (omega arith))
      (choose (all permitted_of g) (λ p. rw p (omega arith)) (λ p. rw p (omega arith)))

  found_past : m ≤ i + length g → found_end m i (take (m - i) g) ≡ min (found_end n i g) m
  unfolding found_end
  found_past l =
      let t = length-take (m - i) g in
      rw (le-ltb (i + length (take (m - i) g)) m (omega arith), both_false)
      (choose (both (all permitted_of g) (ltb (i + length g) n)) (λ p. rw p (omega arith)) (λ p. rw p (omega arith)))

-- an end that is sought in a front is the end, or that of the front
pub end_front : (s : List ℕ) (m i : ℕ) → m ≤ length s → end_from (take m s) i ≡ min (end_from s i) m
end_front s m i h =
    let g = first_piece 39 false (drop i s) in
    let e : first_piece 39 false (drop i (take m s)) ≡ take (m - i) g = ap (first_piece 39 false) (drop_take i m s) ∙ first_front 39 false (m - i) (drop i s) in
    ap₂ (λ (n : ℕ) (l : List ℕ). found_end n i l) (length-take-le m s h) e
    ∙ choose (ltb (i + length g) m)
    (λ p. found_within (length s) m i g h (ltb-true (i + length g) m p))
    (λ p. found_past (length s) m i g h (ltb-false (i + length g) m p))

-- and is told so
pub told_front : (s : List ℕ) (m i : ℕ) → m ≤ length s → told_of m (end_from (take m s) i) ≡ told_of m (end_from s i)
unfolding told_of
told_front s m i h =
    let e = end_front s m i h in
    choose (ltb (end_from s i) m)
    (λ p.
    let l = ltb-true (end_from s i) m p in
    let f : end_from (take m s) i ≡ end_from s i = omega arith in
    rw f)
    (λ p.
    let l = ltb-false (end_from s i) m p in
    rw (le-ltb (end_from (take m s) i) m (omega arith), p))
