-- Where one way at most fits, what is left can be arranged in one way at most, and the ways lead through it. Assumes nothing.
use Rattle.std.specs.Prelude.{◌≡◌, ℕ, suc, T}
use Rattle.std.proofs.Math.Path.{refl, sym, ap}
use Rattle.std.proofs.Common.{◌∙◌}
use mathlib.Core.List.{List, [], ◌∷◌}
use Rattle.laws.specs.Choice.{false≢true}
use Rattle.laws.specs.Lists.{cons_parts}
use Rattle.placing.specs.Table.{Table}
use Rattle.placing.specs.WellFormed.{well_formed}
use Rattle.one_way.specs.Arrangement.{segment, group, Times, nothing, ◌&◌, Arrangement, end, ◌▸◌, tags_of}
use Rattle.one_way.specs.Test.{fitting_tag}
use Rattle.one_way.proofs.Reach.{Reach, outside, level, ways, ways_in, passed, inner, tag_segment}
use Rattle.one_way.proofs.Begins.{inside, begins, tags_headed}
use Rattle.one_way.proofs.Clear.{Clear, clear_pass, clear_segment, clear_inner, apart}
use Rattle.one_way.proofs.Left.{Left, tags_left, by_moves, tags_group, segment_at_lem, group_at}

next_tags : (a : Arrangement) (m : List Arrangement) → tags_left (a ∷ m) ≡ tags_left ((nothing ▸ a) ∷ m)
unfolding tags_of tags_left
next_tags a m = refl

module _ (t : Table) (good : T (well_formed t)) (Fine : Reach → Type 0) (clear : (r : Reach) → Fine r → Clear t Fine r) where
  -- At most one arrangement

  abbrev Only : List Arrangement → Type 0
  Only m = (r : Reach) (k : List Arrangement) → Clear t Fine r → Left t r m → Left t r k → tags_left m ≡ tags_left k → m ≡ k

  only_nil : Only []
  only_nil outside [] c v w e = refl
  only_nil outside (b ∷ k) c v w e = absurd w
  only_nil (level l n r) k c v w e = absurd v

  only_end : (m : List Arrangement) → Only m → Only (end ∷ m)
  unfolding tags_of tags_left ways ways_in
  only_end m ih outside k c v w e = absurd v
  only_end m ih (level [] n r) [] c v w e = absurd w
  only_end m ih (level [] n r) (end ∷ k) c v w e =
      ap (λ x. end ∷ x) (ih r k (record { sane = c.sane.1; most_one = c.most_one; leads = c.leads }) v.1 w.1 e)
  only_end m ih (level [] n r) ((ts ▸ b) ∷ k) c v w e = absurd w.0
  only_end m ih (level (row ∷ l) n r) k c v w e = absurd v.0

  only_next : (a : Arrangement) (m : List Arrangement) → Only (a ∷ m) → Only ((nothing ▸ a) ∷ m)
  unfolding tags_of tags_left
  only_next a m ih outside k c v w e = absurd v
  only_next a m ih (level [] n r) k c v w e = absurd v.0
  only_next a m ih (level (row ∷ l) n r) [] c v w e = absurd w
  only_next a m ih (level (row ∷ l) n r) (end ∷ k) c v w e = absurd w.0
  only_next a m ih (level (row ∷ l) n r) ((nothing ▸ b) ∷ k) c v w e =
      let s = ih (passed t row l n r) (b ∷ k) (clear_pass t good Fine clear row l n r c v.0.0) (v.0.1, v.1) (w.0.1, w.1) e in
      let p = cons_parts s in
      cc
  only_next a m ih (level (row ∷ l) n r) ((segment x & ts ▸ b) ∷ k) c v w e =
      let p = segment_at_lem t row x w.0.0.1 in
      absurd (apart t good Fine clear row l n r c x w.0.0.0 v.0.0 (p.1 ∙ sym (tag_segment t row l n r p.0))
      (begins t good (a ∷ m) (passed t row l n r) x (tags_left ((ts ▸ b) ∷ k)) (c.sane.0.1, c.sane.1) (v.0.1, v.1) e))
  only_next a m ih (level (row ∷ l) n r) ((group d & ts ▸ b) ∷ k) c v w e =
      let h = tags_headed t good row d ts b k c.sane.0.0 w.0.0.1 in
      absurd (apart t good Fine clear row l n r c (fitting_tag t row) w.0.0.0 v.0.0 refl
      (begins t good (a ∷ m) (passed t row l n r) (fitting_tag t row) h.0 (c.sane.0.1, c.sane.1) (v.0.1, v.1) (e ∙ h.1)))

  only_segment : (y : ℕ) (ts : Times) (a : Arrangement) (m : List Arrangement) → Only ((ts ▸ a) ∷ m) → Only ((segment y & ts ▸ a) ∷ m)
  unfolding tags_of tags_left
  only_segment y ts a m ih outside k c v w e = absurd v
  only_segment y ts a m ih (level [] n r) k c v w e = absurd v.0
  only_segment y ts a m ih (level (row ∷ l) n r) [] c v w e = absurd w
  only_segment y ts a m ih (level (row ∷ l) n r) (end ∷ k) c v w e = absurd w.0
  only_segment y ts a m ih (level (row ∷ l) n r) ((nothing ▸ b) ∷ k) c v w e =
      let p = segment_at_lem t row y v.0.0.1 in
      absurd (apart t good Fine clear row l n r c y v.0.0.0 w.0.0 (p.1 ∙ sym (tag_segment t row l n r p.0))
      (begins t good (b ∷ k) (passed t row l n r) y (tags_left ((ts ▸ a) ∷ m)) (c.sane.0.1, c.sane.1) (w.0.1, w.1) (sym e)))
  only_segment y ts a m ih (level (row ∷ l) n r) ((segment x & us ▸ b) ∷ k) c v w e =
      let p = cons_parts e in
      let s = ih (level (row ∷ l) (suc n) r) ((us ▸ b) ∷ k) (clear_segment t good Fine clear row l n r c v.0.0.0 (segment_at_lem t row y v.0.0.1).0)
      ((v.0.0.2, v.0.1), v.1) ((w.0.0.2, w.0.1), w.1) p.1 in
      let q = cons_parts s in
      cc
  only_segment y ts a m ih (level (row ∷ l) n r) ((group d & us ▸ b) ∷ k) c v w e =
      absurd (false≢true (sym (segment_at_lem t row y v.0.0.1).0 ∙ (group_at t row d w.0.0.1).0))

  only_group : (b : Arrangement) (ts : Times) (a : Arrangement) (m : List Arrangement) → Only (b ∷ (ts ▸ a) ∷ m) → Only ((group b & ts ▸ a) ∷ m)
  only_group d ts a m ih outside k c v w e = absurd v
  only_group d ts a m ih (level [] n r) k c v w e = absurd v.0
  only_group d ts a m ih (level (row ∷ l) n r) [] c v w e = absurd w
  only_group d ts a m ih (level (row ∷ l) n r) (end ∷ k) c v w e = absurd w.0
  only_group d ts a m ih (level (row ∷ l) n r) ((nothing ▸ b) ∷ k) c v w e =
      let h = tags_headed t good row d ts a m c.sane.0.0 v.0.0.1 in
      absurd (apart t good Fine clear row l n r c (fitting_tag t row) v.0.0.0 w.0.0 refl
      (begins t good (b ∷ k) (passed t row l n r) (fitting_tag t row) h.0 (c.sane.0.1, c.sane.1) (w.0.1, w.1) (next_tags b k ∙ sym e ∙ h.1)))
  only_group d ts a m ih (level (row ∷ l) n r) ((segment x & us ▸ b) ∷ k) c v w e =
      absurd (false≢true (sym (segment_at_lem t row x w.0.0.1).0 ∙ (group_at t row d v.0.0.1).0))
  only_group d ts a m ih (level (row ∷ l) n r) ((group f & us ▸ b) ∷ k) c v w e =
      let s = ih (inner t row l n r) (f ∷ (us ▸ b) ∷ k) (clear_inner t good Fine clear row l n r c v.0.0.0 (group_at t row d v.0.0.1).0)
      (inside t good row l n r d ts a m v) (inside t good row l n r f us b k w) (sym (tags_group d ts a m) ∙ e ∙ tags_group f us b k) in
      let q = cons_parts s in
      let g = cons_parts q.1 in
      cc

  pub only : (m : List Arrangement) → Only m
  only = by_moves Only only_end only_next only_segment only_group only_nil
