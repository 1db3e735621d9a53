-- Where the test of a table holds, one of the placing rule's choices at most fits a tag, from any place reached. Assumes nothing.
use Rattle.std.specs.Prelude.{◌≡◌, Bool, true, false, not, T, eqb, ltb, Some}
use Rattle.std.proofs.Math.Path.{refl, sym, ap}
use Rattle.std.proofs.Common.{◌∙◌, subst}
use mathlib.Core.List.{List, [], ◌∷◌, map}
use Prim.Native.Nat.{ℕ, zero, suc, ◌≤◌}
use native.Mathlib.Omega.{arith}
use borrow.Author.Tests.{eqb-true, ltb-true, lt-ltb, le-leb, not-true}
use Rattle.laws.specs.Choice.{pick, either, choose, both_left, both_right, both_parts, either_parts, either_right, holds, among}
use Rattle.laws.specs.Sweep.{below, at}
use Rattle.placing.specs.declared.Place.{Place}
use Rattle.placing.specs.Table.{Table, rows, is_group, conditional, most, level_of, outer, later}
use Rattle.placing.specs.Place.{count_at, reached_of, start_place}
use Rattle.placing.specs.Rule.{Choice, choices}
use Rattle.placing.specs.WellFormed.{well_formed}
use Rattle.placing.proofs.Message.{level_most}
use Rattle.one_way.specs.Placings.{before_all, first_choices}
use Rattle.one_way.specs.Test.{Reached, first, next, choices_fitting, OneFits, first_time, fitting_tag, tag_of, differ, one_way}
use Rattle.one_way.proofs.Reach.{Reach, outside, Way, to, more, Found, at as found, nowhere, first_fit, fitting, may_pass, entered, ways_in, ways, start}
use Rattle.one_way.proofs.Levels.{levels, reach_of, Open, Inside}
use Rattle.one_way.proofs.Step.{Same}
use Rattle.one_way.proofs.Alike.{Alike, choices_alike, step_same, fits_same, first_alike, first_same, first_fits_same}

-- Every place reached is inside

same_inside : (t : Table) (q : Place) (f : Found) → Same t (Some q) f → Inside t q
same_inside t q (found r) h = h.1
same_inside t q nowhere h = absurd h

pub reached_inside : (t : Table) (good : T (well_formed t)) (p : Place) → Reached t p → Inside t p
reached_inside t good q (first tag e) =
    same_inside t q (first_fit tag (ways t (start t))) (subst (λ s. Same t s (first_fit tag (ways t (start t)))) e (first_same t good tag))
reached_inside t good q (next p tag c e) =
    let i = reached_inside t good p c in
    same_inside t q (first_fit tag (ways t (reach_of t p))) (subst (λ s. Same t s (first_fit tag (ways t (reach_of t p)))) e (step_same t good p i tag))

-- A choice only falls away when a number rises

more_fewer : (x tag : ℕ) (q s : Reach) (b d : Bool) (l m : List Way) → (b ≡ true → d ≡ true) → fitting x l ≤ fitting x m
    → fitting x (more b (to tag q) l) ≤ fitting x (more d (to tag s) m)
unfolding fitting
more_fewer x tag q s true true l m f h = choose (eqb x tag) (λ p. rw p (omega arith)) (λ p. rw p (omega arith))
more_fewer x tag q s true false l m f h = let e = f refl in let z : ◌≡◌ {A = ℕ} 0 1 = cc in absurd (omega arith)
more_fewer x tag q s false true l m f h = choose (eqb x tag) (λ p. rw p (omega arith)) (λ p. rw p (omega arith))
more_fewer x tag q s false false l m f h = h

pick_fewer : (x : ℕ) (b : Bool) (l m : List Way) → fitting x l ≤ fitting x m → fitting x (pick b l []) ≤ fitting x (pick b m [])
pick_fewer x true l m h = h
pick_fewer x false l m h = omega arith

module _ (t : Table) (x : ℕ) where
  fewer_in : (l : List ℕ) (r s : Reach) (up top : List Way) → fitting x up ≤ fitting x top → fitting x (ways_in t l 0 r up) ≤ fitting x (ways_in t l 0 s top)
  unfolding ways_in
  fewer_in [] r s up top h = h
  fewer_in (row ∷ l) r s up top h =
      more_fewer x (fitting_tag t row) (entered t row l 0 r) (entered t row l 0 s) (ltb 0 (most t row)) (ltb 0 (most t row))
      (pick (may_pass t row 0) (ways_in t l 0 r up) []) (pick (may_pass t row 0) (ways_in t l 0 s top) []) (λ e. e)
      (pick_fewer x (may_pass t row 0) (ways_in t l 0 r up) (ways_in t l 0 s top) (fewer_in l r s up top h))

  fewer_here : (row : ℕ) (l : List ℕ) (n m : ℕ) (r s : Reach) (up top : List Way) → 1 ≤ m → m ≤ n → fitting x up ≤ fitting x top
      → fitting x (ways_in t (row ∷ l) n r up) ≤ fitting x (ways_in t (row ∷ l) m s top)
  unfolding ways_in
  fewer_here row l n m r s up top k h f =
      let a : may_pass t row n ≡ may_pass t row m = ap (either (conditional t row)) (lt-ltb 0 n (omega arith) ∙ sym (lt-ltb 0 m (omega arith))) in
      rw a
      (more_fewer x (fitting_tag t row) (entered t row l n r) (entered t row l m s) (ltb n (most t row)) (ltb m (most t row))
      (pick (may_pass t row m) (ways_in t l 0 r up) []) (pick (may_pass t row m) (ways_in t l 0 s top) [])
      (λ e. let w = ltb-true n (most t row) e in lt-ltb m (most t row) (omega arith))
      (pick_fewer x (may_pass t row m) (ways_in t l 0 r up) (ways_in t l 0 s top) (fewer_in l r s up top f)))

  fewer : (p q : Place) (l row : ℕ) → Open l t p row → ((k : ℕ) → k ≤ l → count_at q k ≡ 1) → fitting x (ways t (levels l t p row)) ≤ fitting x (ways t (levels l t q row))
  unfolding ways levels
  fewer p q zero row o f =
      fewer_here row (later t 0 row) (count_at p 0) (count_at q 0) outside outside [] [] (omega (arith, f 0 (omega arith))) (omega (arith, o, f 0 (omega arith))) (omega arith)
  fewer p q (suc l) row o f =
      fewer_here row (later t (suc l) row) (count_at p (suc l)) (count_at q (suc l)) (levels l t p (outer t row)) (levels l t q (outer t row))
      (ways t (levels l t p (outer t row))) (ways t (levels l t q (outer t row)))
      (omega (arith, f (suc l) (omega arith))) (omega (arith, o.0, f (suc l) (omega arith)))
      (fewer p q l (outer t row) o.1 (λ k h. f k (omega arith)))

-- The place of a row where each level came once

first_count : (row last k : ℕ) → k ≤ last → last ≤ 4 → count_at (reached_of start_place 0 1 row last) k ≡ 1
first_count row last zero h m = refl
first_count row last (suc zero) h m = rw (le-leb 1 last h)
first_count row last (suc (suc zero)) h m = rw (le-leb 2 last h)
first_count row last (suc (suc (suc zero))) h m = rw (le-leb 3 last h)
first_count row last (suc (suc (suc (suc zero)))) h m = rw (le-leb 4 last h)
first_count row last (suc (suc (suc (suc (suc k))))) h m = absurd (omega arith)

open_by : (t : Table) (p : Place) (l row : ℕ) → ((k : ℕ) → k ≤ l → count_at p k ≡ 1) → Open l t p row
open_by t p zero row f = omega (arith, f 0 (omega arith))
open_by t p (suc l) row f = (omega (arith, f (suc l) (omega arith)), open_by t p l (outer t row) (λ k h. f k (omega arith)))

-- Different tags

module _ (t : Table) (good : T (well_formed t)) (p : Place) (x : ℕ) where
  none_fits : (k : List Choice) (m : List Way) → Alike t good p k m → among x (map (tag_of t) k) ≡ false → fitting x m ≡ 0
  unfolding fitting
  none_fits [] [] h e = refl
  none_fits [] (d ∷ m) h e = absurd h
  none_fits (c ∷ k) [] h e = absurd h
  none_fits (c ∷ k) (to y r ∷ m) h e =
      let w = either_parts (eqb x (tag_of t c)) (among x (map (tag_of t) k)) e in
      rw (ap (eqb x) (sym h.0) ∙ w.0) (none_fits k m h.2 w.1)

  differ_fits : (k : List Choice) (m : List Way) → Alike t good p k m → differ (map (tag_of t) k) ≡ true → fitting x m ≤ 1
  unfolding fitting differ
  differ_fits [] [] h e = omega arith
  differ_fits [] (d ∷ m) h e = absurd h
  differ_fits (c ∷ k) [] h e = absurd h
  differ_fits (c ∷ k) (to y r ∷ m) h e =
      let w = both_parts (not (among (tag_of t c) (map (tag_of t) k))) (differ (map (tag_of t) k)) e in
      choose (eqb x y)
      (λ q.
      let z : x ≡ tag_of t c = eqb-true x y q ∙ sym h.0 in
      let n : fitting x m ≡ 0 = none_fits k m h.2 (ap (λ v. among v (map (tag_of t) k)) z ∙ not-true (among (tag_of t c) (map (tag_of t) k)) w.0) in
      rw q (omega arith))
      (λ q. rw q (differ_fits k m h.2 w.1))

-- The law

module _ (t : Table) (good : T (well_formed t)) (h : T (one_way t)) where
  abbrev firsts : Bool
  firsts = differ (map (tag_of t) (first_choices t))

  abbrev behind : ℕ → Bool
  behind row = either (is_group t row) (differ (map (tag_of t) (choices t (first_time t row))))

  one_before : (tag : ℕ) → choices_fitting t before_all tag (first_choices t) ≤ 1
  unfolding one_way
  one_before tag =
      let d = holds firsts (both_left firsts (below behind (rows t)) h) in
      let most = differ_fits t good before_all tag (first_choices t) (ways t (start t)) (first_alike t good) d in
      omega (arith, first_fits_same t good tag)

  one_from : (p : Place) → Reached t p → (tag : ℕ) → choices_fitting t p tag (choices t p) ≤ 1
  unfolding one_way reach_of
  one_from p c tag =
      let row = p.row in
      let q = first_time t row in
      let i = reached_inside t good p c in
      let counts : (k : ℕ) → k ≤ level_of t row → count_at q k ≡ 1 = λ k m. first_count row (level_of t row) k m (level_most t row) in
      let j : Inside t q = record { in_table = i.in_table; segment = i.segment; opened = open_by t q (level_of t row) row counts } in
      let tested = at behind (rows t) (both_right firsts (below behind (rows t)) h) row i.in_table in
      let d = holds (differ (map (tag_of t) (choices t q))) (either_right (is_group t row) (differ (map (tag_of t) (choices t q))) tested i.segment) in
      let less = fewer t tag p q (level_of t row) row i.opened counts in
      let most = differ_fits t good q tag (choices t q) (ways t (reach_of t q)) (choices_alike t good q j) d in
      omega (arith, fits_same t good p i tag)

  pub one_fits : OneFits t
  one_fits = record { before = λ tag. omega (arith, one_before tag); from = λ p c tag. omega (arith, one_from p c tag) }
