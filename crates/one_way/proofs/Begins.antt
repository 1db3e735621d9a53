-- What is left of an arrangement begins with a way on, and with the trigger's tag where it enters a group. Assumes nothing.
use Rattle.std.proofs.Math.Path.{◌≡◌, sym, ap, subst⁻¹}
use Rattle.std.proofs.Common.{◌∙◌, subst, arith, eqb-true, eq-eqb, ne_eqb}
use Rattle.std.specs.Prelude.{true, false, ℕ, ◌+◌, ◌≤◌, ◌<◌, T, ltb}
use mathlib.Core.List.{List, [], ◌∷◌, ◌++◌}
use Rattle.laws.specs.Choice.{pick, either, false≢true}
use Rattle.placing.specs.Table.{Table, rows, tag_at, is_group, conditional, most, after_of, places, held}
use Rattle.placing.specs.WellFormed.{well_formed}
use Rattle.placing.proofs.Formed.{trigger}
use Rattle.one_way.specs.Arrangement.{segment, group, Times, nothing, ◌&◌, Arrangement, end, ◌▸◌, stands_at, is_arranged, tags_all, tags_of}
use Rattle.one_way.specs.Test.{fitting_tag}
use Rattle.one_way.proofs.Reach.{Reach, outside, level, ways, ways_in, fitting, may_pass, entered, fit_alone, more_fitting, here, passed, inner, way_in, ways_pass, ways_again, tag_segment, Sane, held_trigger, held_in, ways_inner}
use Rattle.one_way.proofs.Left.{LeftIn, Left, tags_left, by_moves, tags_group, segment_at_lem, group_at, to_left}

module _ (t : Table) (good : T (well_formed t)) where
  -- what is left inside a group that is entered
  pub inside : (row : ℕ) (l : List ℕ) (n : ℕ) (r : Reach) (b : Arrangement) (ts : Times) (a : Arrangement) (m : List Arrangement)
      → Left t (here t row l n r) ((group b & ts ▸ a) ∷ m) → Left t (inner t row l n r) (b ∷ (ts ▸ a) ∷ m)
  inside row l n r b ts a m v = (to_left b t (held t row) (group_at t row b v.0.0.1).1, ((v.0.0.2, v.0.1), v.1))

  abbrev Begins : List Arrangement → Type 0
  Begins m = (r : Reach) (x : ℕ) (w : List ℕ) → Sane t r → Left t r m → tags_left m ≡ x ∷ w → 1 ≤ fitting x (ways t r)

  begins_end : (m : List Arrangement) → Begins m → Begins (end ∷ m)
  unfolding tags_of tags_left ways ways_in
  begins_end m ih outside x w s v e = absurd v
  begins_end m ih (level [] n r) x w s v e = ih r x w s.1 v.1 e
  begins_end m ih (level (row ∷ l) n r) x w s v e = absurd v.0

  begins_next : (a : Arrangement) (m : List Arrangement) → Begins (a ∷ m) → Begins ((nothing ▸ a) ∷ m)
  unfolding tags_of tags_left
  begins_next a m ih outside x w s v e = absurd v
  begins_next a m ih (level [] n r) x w s v e = absurd v.0
  begins_next a m ih (level (row ∷ l) n r) x w s v e =
      let k = ih (passed t row l n r) x w (s.0.1, s.1) (v.0.1, v.1) e in
      let f = more_fitting x (ltb n (most t row)) (way_in t row l n r) (ways t (passed t row l n r)) in
      rw (ways_pass t row l n r v.0.0) (omega arith)

  begins_segment : (y : ℕ) (ts : Times) (a : Arrangement) (m : List Arrangement) → Begins ((ts ▸ a) ∷ m) → Begins ((segment y & ts ▸ a) ∷ m)
  unfolding tags_of tags_left fitting
  begins_segment y ts a m ih outside x w s v e = absurd v
  begins_segment y ts a m ih (level [] n r) x w s v e = absurd v.0
  begins_segment y ts a m ih (level (row ∷ l) n r) x w s v e =
      let k : y ≡ x = cc in
      let p = segment_at_lem t row y v.0.0.1 in
      let d : x ≡ fitting_tag t row = sym k ∙ p.1 ∙ sym (tag_segment t row l n r p.0) in
      subst⁻¹ (λ c. 1 ≤ fitting x c) (ways_again t row l n r v.0.0.0) (rw (eq-eqb x (fitting_tag t row) d) (omega arith))

  begins_group : (b : Arrangement) (ts : Times) (a : Arrangement) (m : List Arrangement) → Begins (b ∷ (ts ▸ a) ∷ m) → Begins ((group b & ts ▸ a) ∷ m)
  begins_group b ts a m ih outside x w s v e = absurd v
  begins_group b ts a m ih (level [] n r) x w s v e = absurd v.0
  begins_group b ts a m ih (level (row ∷ l) n r) x w s v e =
      let p = group_at t row b v.0.0.1 in
      let k = ih (inner t row l n r) x w (held_in t row, s) (inside row l n r b ts a m v) (sym (tags_group b ts a m) ∙ e) in
      let f = subst (λ c. 1 ≤ fitting x c) (ways_inner t good row s.0.0 p.0 l n r) k in
      subst⁻¹ (λ c. 1 ≤ fitting x c) (ways_again t row l n r v.0.0.0)
      (fit_alone x (fitting_tag t row) (entered t row l n r) (pick (may_pass t row n) (ways t (passed t row l n r)) []) f).1

  begins_nil : Begins []
  unfolding tags_left
  begins_nil r x w s v e = let z : ◌≡◌ {A = ℕ} 0 1 = cc in absurd (omega arith)

  pub begins : (m : List Arrangement) → Begins m
  begins = by_moves Begins begins_end begins_next begins_segment begins_group begins_nil

  -- a group has a first segment, its trigger
  headed_by : (row : ℕ) (l : List ℕ) (b : Arrangement) → is_group t row ≡ false → conditional t row ≡ false → LeftIn b t (row ∷ l) 0
      → (w : List ℕ) × (tags_of b ≡ tag_at t row ∷ w)
  unfolding tags_of
  headed_by row l end g c v = absurd v
  headed_by row l (nothing ▸ a) g c v = absurd (false≢true (ap (λ x. either x (ltb 0 0)) (sym c) ∙ v.0))
  headed_by row l (segment x & ts ▸ a) g c v = (tags_all ts ++ tags_of a, ap (λ y. y ∷ (tags_all ts ++ tags_of a)) (segment_at_lem t row x v.0.1).1)
  headed_by row l (group b & ts ▸ a) g c v = absurd (false≢true (sym g ∙ (group_at t row b v.0.1).0))

  headed : (row : ℕ) (b : Arrangement) → row < rows t → is_group t row ≡ true → is_arranged b t (held t row) ≡ true
      → (w : List ℕ) × (tags_of b ≡ tag_at t (row + 1) ∷ w)
  headed row b h g v =
      let f = trigger t good row h (eqb-true (tag_at t row) 0 g) in
      headed_by (row + 1) (places t (after_of t (row + 1)) (after_of t row)) b (ne_eqb (tag_at t (row + 1)) 0 f.segment) f.mandatory
      (to_left b t ((row + 1) ∷ places t (after_of t (row + 1)) (after_of t row)) (ap (is_arranged b t) (sym (held_trigger t good row h g)) ∙ v))

  -- what is left begins with the tag of a group that it enters
  pub tags_headed : (row : ℕ) (b : Arrangement) (ts : Times) (a : Arrangement) (m : List Arrangement) → row < rows t → stands_at (group b) t row ≡ true
      → (w : List ℕ) × (tags_left ((group b & ts ▸ a) ∷ m) ≡ fitting_tag t row ∷ w)
  unfolding tags_left
  tags_headed row b ts a m h e =
      let p = group_at t row b e in
      let w = headed row b h p.0 p.1 in
      let f : tag_at t (row + 1) ≡ fitting_tag t row = ap (λ c. pick c (tag_at t (row + 1)) (tag_at t row)) (sym p.0) in
      (w.0 ++ tags_left ((ts ▸ a) ∷ m), tags_group b ts a m ∙ ap (λ k. k ++ tags_left ((ts ▸ a) ∷ m)) w.1 ∙ ap (λ x. x ∷ (w.0 ++ tags_left ((ts ▸ a) ∷ m))) f)
