-- A tagged segment whose end is found and that is small, is whole.
-- Assumes nothing.
use Rattle.std.specs.Prelude.{◌≡◌, true, List, ◌∷◌, ℕ, ◌+◌, ◌-◌, ◌≤◌, ◌<◌, leb, ltb, eqb, Ok}
use Rattle.std.proofs.Math.Path.{refl, sym, ap}
use Rattle.std.proofs.Common.{◌∙◌}
use Rattle.std.proofs.Math.Bool.{false}
use native.Mathlib.Omega.{arith}
use borrow.Author.Tests.{leb-true, leb-false, lt-ltb, ltb-true, eqb-true, ne_eqb}
use Rattle.std.proofs.Math.ListN.{length, drop, get_or, length-drop}
use Rattle.laws.specs.Choice.{both, all, choose, both_parts, false≢true}
use Rattle.laws.specs.Sweep.{agree}
use Rattle.laws.specs.Lists.{between, drop_here}
use Rattle.syntax.specs.Passed.{goes}
use Rattle.syntax.specs.Bytes.{permitted_of, is_mark}
use Rattle.syntax.specs.Pieces.{first_piece}
use Rattle.syntax.specs.Firsts.{first_take}
use Rattle.syntax.specs.Segment.{body_at, capital, well_formed, scan_of, segment_at}
use Rattle.syntax.specs.Tags.{tag_closes, tag_ahead, tag_ahead_lem, tag_four, tag_few, capital_other, first_capital, three}
use Rattle.syntax.specs.Found.{found_end, end_from, goes_on, end_quote}
use Rattle.syntax.specs.Few.{marks_in, marks_length, limits_few}

-- a capital letter is passed over
capital_goes : (b : ℕ) → capital b ≡ true → goes b ≡ true
unfolding goes
capital_goes b q =
    let h = leb-true b 90 (both_parts (leb 65 b) (leb b 90) q).1 in
    let e = agree (λ b. both (capital b) (goes b)) capital 91 tt b (omega arith) in
    (both_parts (capital b) (goes b) (e ∙ q)).1

-- the first bytes of a tagged segment
pub record Tag (s : List ℕ) (at : ℕ) : Type 0 where
  pub long : at + 4 ≤ length s
  pub a : capital (get_or s at 0) ≡ true
  pub b : capital (get_or s (at + 1) 0) ≡ true
  pub c : capital (get_or s (at + 2) 0) ≡ true
  pub d : tag_closes (get_or s (at + 3) 0) ≡ true

pub tag_facts : (s : List ℕ) (at : ℕ) → tag_ahead (drop at s) ≡ true → Tag s at
tag_facts s at q =
    choose (leb (at + 4) (length s))
    (λ p.
    let h = leb-true (at + 4) (length s) p in
    let x = both_parts (capital (get_or s at 0)) (both (capital (get_or s (at + 1) 0)) (both (capital (get_or s (at + 2) 0)) (tag_closes (get_or s (at + 3) 0)))) (sym (tag_four s at h) ∙ q) in
    let y = both_parts (capital (get_or s (at + 1) 0)) (both (capital (get_or s (at + 2) 0)) (tag_closes (get_or s (at + 3) 0))) x.1 in
    let z = both_parts (capital (get_or s (at + 2) 0)) (tag_closes (get_or s (at + 3) 0)) y.1 in
    record { long = h; a = x.0; b = y.0; c = z.0; d = z.1 })
    (λ p. absurd (false≢true (sym (tag_few s at (leb-false (at + 4) (length s) p)) ∙ q)))

-- an end that is found lies past where it is sought
pub end_past_start : (s : List ℕ) (i : ℕ) → i ≤ length s → i ≤ end_from s i
unfolding found_end
end_past_start s i h =
    choose (both (all permitted_of (first_piece 39 false (drop i s))) (ltb (i + length (first_piece 39 false (drop i s))) (length s)))
    (λ p. rw p (omega arith)) (λ p. rw p h)

-- and not past the input
pub end_most : (s : List ℕ) (i : ℕ) → end_from s i ≤ length s
unfolding found_end
end_most s i =
    let n = length (body_at s i) in
    choose (both (all permitted_of (body_at s i)) (ltb (i + n) (length s)))
    (λ p. let h = ltb-true (i + n) (length s) (both_parts (all permitted_of (body_at s i)) (ltb (i + n) (length s)) p).1 in rw p (omega arith))
    (λ p. rw p (omega arith))

-- and the body stands before it
body_found : (s : List ℕ) (i : ℕ) → end_from s i < length s → (all permitted_of (body_at s i) ≡ true) × (end_from s i ≡ i + length (body_at s i))
unfolding found_end
body_found s i h =
    choose (both (all permitted_of (body_at s i)) (ltb (i + length (body_at s i)) (length s)))
    (λ p. ((both_parts (all permitted_of (body_at s i)) (ltb (i + length (body_at s i)) (length s)) p).0, rw p))
    (λ p. let g = rw p at h in absurd (omega arith))

module _ (s : List ℕ) (at : ℕ) (q : tag_ahead (drop at s) ≡ true) where
  abbrev t : Tag s at
  t = tag_facts s at q

  -- so the tag is passed over
  pub end_after_tag : end_from s at ≡ end_from s (at + 3)
  end_after_tag =
      let n = length s in
      let h = t.long in
      let y = get_or s (at + 1) 0 in
      let z = get_or s (at + 2) 0 in
      let e : at + 1 + 1 + 1 ≡ at + 3 = omega arith in
      ap (λ (l : List ℕ). found_end n at (first_piece 39 false l)) (three s at (omega arith))
      ∙ goes_on n at (get_or s at 0) (y ∷ z ∷ drop (at + 3) s) (capital_goes (get_or s at 0) t.a)
      ∙ goes_on n (at + 1) y (z ∷ drop (at + 3) s) (capital_goes y t.b)
      ∙ goes_on n (at + 1 + 1) z (drop (at + 3) s) (capital_goes z t.c)
      ∙ ap (λ (k : ℕ). found_end n k (first_piece 39 false (drop (at + 3) s))) e

  -- what follows a tag and is no terminator is `+`
  pub plus_after : (get_or s (at + 3) 0 ≡ 39 → ⊥) → get_or s (at + 3) 0 ≡ 43
  plus_after o =
      let b = get_or s (at + 3) 0 in
      let p = t.d in
      eqb-true b 43 (choose (eqb b 43) (λ y. y) (λ y. absurd (false≢true (rw (y, ne_eqb b 39 o) at p))))

  -- which is passed over as well
  pub end_after_plus : get_or s (at + 3) 0 ≡ 43 → end_from s (at + 4) ≡ end_from s (at + 3)
  unfolding goes
  end_after_plus r =
      let h = t.long in
      let e : at + 3 + 1 ≡ at + 4 = omega arith in
      sym (rw (drop_here s (at + 3) (omega arith), r, e) (goes_on (length s) (at + 3) 43 (drop (at + 4) s) refl ∙ rw e))

  no_mark : (b : ℕ) → capital b ≡ true → is_mark b ≡ false
  unfolding is_mark
  no_mark b p = rw (capital_other b 43 (omega arith) p, capital_other b 42 (omega arith) p, capital_other b 58 (omega arith) p)

  -- three of its bytes are no marks
  tag_marks : marks_in (body_at s at) + 3 ≤ length (body_at s at)
  unfolding marks_in
  tag_marks =
      let h = t.long in
      let x = get_or s at 0 in
      let y = get_or s (at + 1) 0 in
      let z = get_or s (at + 2) 0 in
      let l = first_piece 39 false (drop (at + 3) s) in
      let e : body_at s at ≡ x ∷ y ∷ z ∷ l =
      ap (first_piece 39 false) (three s at (omega arith))
      ∙ rw (first_capital x (y ∷ z ∷ drop (at + 3) s) t.a, first_capital y (z ∷ drop (at + 3) s) t.b, first_capital z (drop (at + 3) s) t.c) in
      let m = marks_length l in
      rw (e, no_mark x t.a, no_mark y t.b, no_mark z t.c) (omega arith)

  module _ (e : ℕ) (f : e ≡ end_from s (at + 3)) (h : e < length s) where
    found : (all permitted_of (body_at s at) ≡ true) × (e ≡ at + length (body_at s at))
    found =
        let g = end_after_tag in
        let w = body_found s at (omega arith) in
        (w.0, f ∙ sym g ∙ w.1)

    whole : marks_in (body_at s at) ≤ 31 → length (body_at s at) ≤ 512 → Ok e ≡ segment_at s at
    unfolding scan_of well_formed
    whole m k =
        let w = found in
        let p = w.1 in
        let d = length-drop at s in
        rw (w.0, lt-ltb (at + length (body_at s at)) (length s) (omega arith), tag_ahead_lem (drop at s) (omega arith), q, limits_few (body_at s at) m k) (ap Ok p)

    pub whole_short : e - at ≤ 34 → Ok e ≡ segment_at s at
    whole_short k =
        let p = found.1 in
        let m = tag_marks in
        whole (omega arith) (omega arith)

    pub whole_small : both (leb (length (between s at e)) 512) (leb (marks_in (between s at e)) 31) ≡ true → Ok e ≡ segment_at s at
    whole_small k =
        let p = found.1 in
        let n : e - at ≡ length (body_at s at) = omega arith in
        let b : between s at e ≡ body_at s at = rw n (sym (first_take 39 false (drop at s))) in
        let w = both_parts (leb (length (between s at e)) 512) (leb (marks_in (between s at e)) 31) k in
        let x = leb-true (length (between s at e)) 512 w.0 in
        let y = leb-true (marks_in (between s at e)) 31 w.1 in
        let i = ap length b in
        let j = ap marks_in b in
        whole (omega arith) (omega arith)

  -- a segment that is its tag alone
  pub whole_bare : get_or s (at + 3) 0 ≡ 39 → Ok (at + 3) ≡ segment_at s at
  whole_bare e =
      let h = t.long in
      whole_short (at + 3) (sym (end_quote s (at + 3) (omega arith) e)) (omega arith) (omega arith)
