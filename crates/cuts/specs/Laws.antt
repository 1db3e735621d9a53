-- The steps of a search for a segment's end.
-- Assumes nothing.
use Rattle.std.specs.Prelude.{◌≡◌, refl, Bool, true, false, List, [], ◌∷◌, ℕ, ◌+◌, ◌≤◌, ◌<◌, eqb, length, drop, get_or}
use Rattle.std.proofs.Common.{sym, ap, subst, ◌∙◌, not-suc-le-zero, eq-eqb, ne_eqb}
use native.Mathlib.Omega.{arith}
use Rattle.laws.specs.Choice.{choose, false≢true}
use Rattle.laws.specs.Lists.{drop_here, drop_past}
use Rattle.syntax.specs.Bytes.{releases, stands}
use Rattle.syntax.specs.Pieces.{first_piece}
use Rattle.syntax.specs.Found.{end_from, end_body}
use Rattle.cuts.specs.Cuts.{released_after}

-- what is still to be found from an index on leads to what is sought: its number and its flag
pub record Left (s : List ℕ) (r : Bool) (i n : ℕ) (flag : Bool) : Type 0 where
  pub count : i + length (first_piece 39 r (drop i s)) ≡ n
  pub last : released_after r (first_piece 39 r (drop i s)) ≡ flag

pub left_start : (s : List ℕ) (r : Bool) → Left s r 0 (length (first_piece 39 r s)) (released_after r (first_piece 39 r s))
left_start s r = record { count = omega arith; last = refl }

module _ (s : List ℕ) (r : Bool) (i n : ℕ) (flag : Bool) (v : Left s r i n flag) where
  -- past the end, or at a terminator
  pub left_over : length s ≤ i → (i ≡ n) × (r ≡ flag)
  unfolding first_piece released_after
  left_over h =
      let e = drop_past s i h in
      let c = rw e at v.count in
      let l = rw e at v.last in
      (omega arith, l)

  module _ (h : i < length s) where
    pub left_here : stands 39 r (get_or s i 0) ≡ true → (i ≡ n) × (r ≡ flag)
    unfolding first_piece released_after
    left_here q =
        let c = rw (drop_here s i h, q) at v.count in
        let l = rw (drop_here s i h, q) at v.last in
        (omega arith, l)

    pub left_on : stands 39 r (get_or s i 0) ≡ false → Left s (releases r (get_or s i 0)) (i + 1) n flag
    unfolding first_piece released_after
    left_on q =
        let c = rw (drop_here s i h, q) at v.count in
        let l = rw (drop_here s i h, q) at v.last in
        record { count = omega arith; last = l }

-- a release, and the byte behind it; a byte that is neither a terminator nor a release
module _ (s : List ℕ) (i n : ℕ) (flag : Bool) (v : Left s false i n flag) (h : i < length s) where
  pub left_end : get_or s i 0 ≡ 39 → (i ≡ n) × (false ≡ flag)
  left_end e = left_here s false i n flag v h (eq-eqb (get_or s i 0) 39 e)

  pub left_plain : (get_or s i 0 ≡ 39 → ⊥) → (get_or s i 0 ≡ 63 → ⊥) → Left s false (i + 1) n flag
  left_plain a b = subst (λ (r : Bool). Left s r (i + 1) n flag) (ne_eqb (get_or s i 0) 63 b) (left_on s false i n flag v h (ne_eqb (get_or s i 0) 39 a))

  pub left_release : get_or s i 0 ≡ 63 → Left s true (i + 1) n flag
  left_release e =
      let z = eq-eqb (get_or s i 0) 63 e in
      subst (λ (r : Bool). Left s r (i + 1) n flag) z (left_on s false i n flag v h (ap (λ (b : ℕ). eqb b 39) e))

pub left_past : (s : List ℕ) (i n : ℕ) (flag : Bool) → Left s true i n flag → i < length s → Left s false (i + 1) n flag
left_past s i n flag v h = left_on s true i n flag v h refl

-- the same where the index may lie one past the end, its byte being released and still to come
pub record Gone (s : List ℕ) (i n : ℕ) (flag : Bool) : Type 0 where
  pub within : i ≤ length s → Left s false i n flag
  pub beyond : length s < i → (length s ≡ n) × (true ≡ flag)

module _ (s : List ℕ) (i : ℕ) (h : i < length s) (t : get_or s i 0 ≡ 39 → ⊥) (n : ℕ) (flag : Bool) (v : Left s false i n flag) where
  pub gone_plain : (get_or s i 0 ≡ 63 → ⊥) → Gone s (i + 1) n flag
  gone_plain q = record { within = λ _. left_plain s i n flag v h t q; beyond = λ g. absurd (omega arith) }

  pub gone_release : get_or s i 0 ≡ 63 → Gone s (i + 2) n flag
  gone_release q =
      let w = left_release s i n flag v h q in
      record {
        within = λ g.
            let z : i + 1 + 1 ≡ i + 2 = omega arith in
            subst (λ (k : ℕ). Left s false k n flag) z (left_past s (i + 1) n flag w (omega arith));
        beyond = λ g.
            let o = left_over s true (i + 1) n flag w (omega arith) in
            let z : length s ≡ i + 1 = omega arith in
            (z ∙ o.0, o.1);
      }

-- what is sought from an index on, and that it is found
abbrev pub found_at : List ℕ → ℕ → ℕ
found_at s i = i + length (first_piece 39 false (drop i s))

abbrev pub found_flag : List ℕ → ℕ → Bool
found_flag s i = released_after false (first_piece 39 false (drop i s))

pub left_tells : (s : List ℕ) (from i : ℕ) (r : Bool) → (i ≡ found_at s from) × (r ≡ found_flag s from) → Left s false from i r
left_tells s from i r e = record { count = sym e.0; last = sym e.1 }

-- from the second byte on, where the first is released
pub released_told : (s : List ℕ) (at : ℕ) (flag : Bool) → 0 < length s → Left s false 1 at flag → (at ≡ length (first_piece 39 true s)) × (flag ≡ released_after true (first_piece 39 true s))
released_told s at flag h v =
    let w = left_past s 0 (length (first_piece 39 true s)) (released_after true (first_piece 39 true s)) (left_start s true) h in
    (sym v.count ∙ w.count, sym v.last ∙ w.last)

pub none_told : (s : List ℕ) → length s ≡ 0 → (0 ≡ length (first_piece 39 true s)) × (true ≡ released_after true (first_piece 39 true s))
none_told s h = left_over s true 0 (length (first_piece 39 true s)) (released_after true (first_piece 39 true s)) (left_start s true) (omega arith)

pub search_told : (s : List ℕ) (at : ℕ) (flag : Bool) → Left s false 0 at flag → (at ≡ length (first_piece 39 false s)) × (flag ≡ released_after false (first_piece 39 false s))
search_told s at flag v = (sym v.count ∙ (left_start s false).count, sym v.last)

-- a terminator that stands is not released
pub first_unreleased : (r : Bool) (l : List ℕ) → length (first_piece 39 r l) < length l → released_after r (first_piece 39 r l) ≡ false
unfolding first_piece released_after
first_unreleased r [] h = absurd (not-suc-le-zero h)
first_unreleased r (b ∷ l) h =
    choose (stands 39 r b) (λ q. rw q (unreleased r b q))
    (λ q. let g = rw q at h in rw q (first_unreleased (releases r b) l (omega arith)))
  where
    unreleased : (r : Bool) (b : ℕ) → stands 39 r b ≡ true → r ≡ false
    unreleased true b q = absurd (false≢true q)
    unreleased false b q = refl

-- an end that is found by a scan over permitted bytes
pub end_told : (s : List ℕ) (e : ℕ) → e ≡ end_from s 0 → e < length s → (e ≡ length (first_piece 39 false s)) × (false ≡ released_after false (first_piece 39 false s))
end_told s e q h =
    let w = end_body s 0 (subst (λ (n : ℕ). n < length s) q h) in
    let z : e ≡ length (first_piece 39 false s) = omega arith in
    (z, sym (first_unreleased false s (omega arith)))
