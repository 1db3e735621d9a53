-- Where one way at most fits, the ways lead through what is left: each segment goes where it stands. Assumes nothing.
use Rattle.std.specs.Prelude.{◌≡◌, true, false, T, ltb}
use Rattle.std.proofs.Math.Path.{refl, sym, ap}
use Rattle.std.proofs.Common.{◌∙◌}
use mathlib.Core.List.{List, [], ◌∷◌}
use Prim.Native.Nat.{ℕ, suc, ◌≤◌}
use Rattle.placing.specs.Table.{Table, is_group, most}
use Rattle.placing.specs.WellFormed.{well_formed}
use Rattle.one_way.specs.Arrangement.{segment, group, Times, nothing, ◌&◌, Arrangement, end, ◌▸◌, tags_of, where_in}
use Rattle.one_way.specs.Test.{fitting_tag}
use Rattle.one_way.proofs.Reach.{Reach, outside, level, path, ways, ways_in, fitting, at, first_fit, may_pass, entered, ends_in, may_end, placed, behind, onward, put, fit_first, fit_later, here, passed, inner, way_in, ways_pass, tag_segment, entered_segment, ways_inner}
use Rattle.one_way.proofs.Left.{Left, tags_left, where_left, by_moves, tags_group, where_next, where_group, segment_at_lem, group_at}
use Rattle.one_way.proofs.Begins.{inside, begins, tags_headed}
use Rattle.one_way.proofs.Clear.{Clear, clear_pass, goes_in, clear_segment, clear_inner}

put_end : (t : Table) (n : ℕ) (r : Reach) (w : List ℕ) → put t (level [] n r) w ≡ put t r w
unfolding put ways ways_in may_end ends_in
put_end t n r [] = refl
put_end t n r (x ∷ w) = refl

module _ (t : Table) (good : T (well_formed t)) (Fine : Reach → Type 0) (clear : (r : Reach) → Fine r → Clear t Fine r) where
  module _ (row : ℕ) (l : List ℕ) (n : ℕ) (r : Reach) (c : Clear t Fine (here t row l n r)) where
    put_pass : may_pass t row n ≡ true → (w : List ℕ) → ((x : ℕ) (u : List ℕ) → w ≡ x ∷ u → 1 ≤ fitting x (ways t (passed t row l n r)))
        → put t (here t row l n r) w ≡ put t (passed t row l n r) w
    unfolding put may_end ends_in
    put_pass p [] f = rw p
    put_pass p (x ∷ w) f =
        let e = ways_pass t row l n r p in
        let g = rw e at (c.most_one x) in
        ap (onward (λ q. put t q w)) (ap (first_fit x) e ∙ fit_later x (ltb n (most t row)) (way_in t row l n r) (ways t (passed t row l n r)) g (f x w refl))

    put_segment : ltb n (most t row) ≡ true → is_group t row ≡ false → (x : ℕ) (w : List ℕ) → x ≡ fitting_tag t row
        → put t (here t row l n r) (x ∷ w) ≡ behind ((row, suc n) ∷ path r) (put t (level (row ∷ l) (suc n) r) w)
    unfolding put path
    put_segment p g x w e =
        ap (onward (λ q. put t q w)) (goes_in t good Fine clear row l n r c x p e ∙ ap at (entered_segment t row l n r g))

    put_inner : ltb n (most t row) ≡ true → is_group t row ≡ true → (w : List ℕ)
        → put t (here t row l n r) (fitting_tag t row ∷ w) ≡ put t (inner t row l n r) (fitting_tag t row ∷ w)
    unfolding put
    put_inner p g w =
        let x = fitting_tag t row in
        ap (onward (λ q. put t q w))
        (goes_in t good Fine clear row l n r c x p refl
        ∙ sym (ap (first_fit x) (ways_inner t good row c.sane.0.0 g l n r) ∙ fit_first x x (entered t row l n r) [] refl))

  abbrev Finds : List Arrangement → Type 0
  Finds m = (r : Reach) → Clear t Fine r → Left t r m → put t r (tags_left m) ≡ placed (where_left t r m)

  finds_nil : Finds []
  unfolding tags_left where_left put may_end
  finds_nil outside c v = refl
  finds_nil (level l n r) c v = absurd v

  finds_end : (m : List Arrangement) → Finds m → Finds (end ∷ m)
  unfolding tags_of tags_left where_left ways ways_in
  finds_end m ih outside c v = absurd v
  finds_end m ih (level [] n r) c v = put_end t n r (tags_left m) ∙ ih r (record { sane = c.sane.1; most_one = c.most_one; leads = c.leads }) v.1
  finds_end m ih (level (row ∷ l) n r) c v = absurd v.0

  finds_next : (a : Arrangement) (m : List Arrangement) → Finds (a ∷ m) → Finds ((nothing ▸ a) ∷ m)
  unfolding tags_of tags_left
  finds_next a m ih outside c v = absurd v
  finds_next a m ih (level [] n r) c v = absurd v.0
  finds_next a m ih (level (row ∷ l) n r) c v =
      let q = passed t row l n r in
      put_pass row l n r c v.0.0 (tags_left (a ∷ m)) (λ x u e. begins t good (a ∷ m) q x u (c.sane.0.1, c.sane.1) (v.0.1, v.1) e)
      ∙ ih q (clear_pass t good Fine clear row l n r c v.0.0) (v.0.1, v.1)
      ∙ ap placed (where_next t row l n r a m)

  finds_segment : (y : ℕ) (ts : Times) (a : Arrangement) (m : List Arrangement) → Finds ((ts ▸ a) ∷ m) → Finds ((segment y & ts ▸ a) ∷ m)
  unfolding tags_of tags_left where_in where_left
  finds_segment y ts a m ih outside c v = absurd v
  finds_segment y ts a m ih (level [] n r) c v = absurd v.0
  finds_segment y ts a m ih (level (row ∷ l) n r) c v =
      let p = segment_at_lem t row y v.0.0.1 in
      put_segment row l n r c v.0.0.0 p.0 y (tags_left ((ts ▸ a) ∷ m)) (p.1 ∙ sym (tag_segment t row l n r p.0))
      ∙ ap (behind ((row, suc n) ∷ path r)) (ih (level (row ∷ l) (suc n) r) (clear_segment t good Fine clear row l n r c v.0.0.0 p.0) ((v.0.0.2, v.0.1), v.1))

  finds_group : (b : Arrangement) (ts : Times) (a : Arrangement) (m : List Arrangement) → Finds (b ∷ (ts ▸ a) ∷ m) → Finds ((group b & ts ▸ a) ∷ m)
  finds_group b ts a m ih outside c v = absurd v
  finds_group b ts a m ih (level [] n r) c v = absurd v.0
  finds_group b ts a m ih (level (row ∷ l) n r) c v =
      let p = group_at t row b v.0.0.1 in
      let h = tags_headed t good row b ts a m c.sane.0.0 v.0.0.1 in
      ap (put t (here t row l n r)) h.1
      ∙ put_inner row l n r c v.0.0.0 p.0 h.0
      ∙ ap (put t (inner t row l n r)) (sym h.1 ∙ tags_group b ts a m)
      ∙ ih (inner t row l n r) (clear_inner t good Fine clear row l n r c v.0.0.0 p.0) (inside t good row l n r b ts a m v)
      ∙ ap placed (sym (where_group t row l n r b ts a m))

  pub finds : (m : List Arrangement) → Finds m
  finds = by_moves Finds finds_end finds_next finds_segment finds_group finds_nil
