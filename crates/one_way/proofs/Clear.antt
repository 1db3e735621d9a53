-- The places from which the rule goes on: one way at most fits, and it leads to such a place again. Assumes nothing.
use Rattle.std.specs.Prelude.{◌≡◌, refl, true, false, ℕ, suc, ◌≤◌, T, ltb}
use Rattle.std.proofs.Math.Path.{sym, ap, subst⁻¹}
use Rattle.std.proofs.Common.{◌∙◌, subst, arith}
use mathlib.Core.List.{List, [], ◌∷◌}
use Rattle.laws.specs.Choice.{pick}
use Rattle.placing.specs.Table.{Table, is_group, most}
use Rattle.placing.specs.WellFormed.{well_formed}
use Rattle.one_way.specs.Test.{fitting_tag}
use Rattle.one_way.proofs.Reach.{Reach, level, Way, more, ways, fitting, at, first_fit, may_pass, entered, fit_some, fit_first, fit_alone, alone_fits, more_fitting, fit_later, not_both, here, passed, inner, way_in, ways_pass, ways_again, entered_segment, Sane, held_in, ways_inner}

module _ (t : Table) (Fine : Reach → Type 0) where
  pub record Clear (r : Reach) : Type 0 where
    pub sane : Sane t r
    pub most_one : (x : ℕ) → fitting x (ways t r) ≤ 1
    pub leads : (x : ℕ) (q : Reach) → first_fit x (ways t r) ≡ at q → Fine q

module _ (t : Table) (good : T (well_formed t)) (Fine : Reach → Type 0) (clear : (r : Reach) → Fine r → Clear t Fine r) where
  abbrev pub Free : Reach → Type 0
  Free r = Clear t Fine r

  module _ (row : ℕ) (l : List ℕ) (n : ℕ) (r : Reach) (c : Free (here t row l n r)) where
    pub clear_pass : may_pass t row n ≡ true → Free (passed t row l n r)
    clear_pass p =
        let e = ways_pass t row l n r p in
        let q = way_in t row l n r in
        let k = ways t (passed t row l n r) in
        let f : (x : ℕ) → fitting x (more (ltb n (most t row)) q k) ≤ 1 = λ x. rw e at (c.most_one x) in
        record {
          sane = (c.sane.0.1, c.sane.1);
          most_one = λ x. let m = more_fitting x (ltb n (most t row)) q k in let g = f x in omega arith;
          leads = λ x y d. c.leads x y (rw e (fit_later x (ltb n (most t row)) q k (f x) (fit_some x y k d) ∙ d));
        }

    abbrev others : List Way
    others = pick (may_pass t row n) (ways t (passed t row l n r)) []

    pub goes_in : (x : ℕ) → ltb n (most t row) ≡ true → x ≡ fitting_tag t row → first_fit x (ways t (here t row l n r)) ≡ at (entered t row l n r)
    goes_in x p e = ap (first_fit x) (ways_again t row l n r p) ∙ fit_first x (fitting_tag t row) (entered t row l n r) others e

    pub clear_segment : ltb n (most t row) ≡ true → is_group t row ≡ false → Free (level (row ∷ l) (suc n) r)
    clear_segment p g = subst Free (entered_segment t row l n r g) (clear (entered t row l n r) (c.leads (fitting_tag t row) (entered t row l n r) (goes_in (fitting_tag t row) p refl)))

    -- inside a group, before its trigger, the only way is the group's own
    goes_inner : (x : ℕ) (q : Reach) → ltb n (most t row) ≡ true → is_group t row ≡ true → first_fit x (ways t (inner t row l n r)) ≡ at q
        → first_fit x (ways t (here t row l n r)) ≡ at q
    unfolding first_fit
    goes_inner x q p g e =
        let f : first_fit x (way_in t row l n r ∷ []) ≡ at q = ap (first_fit x) (sym (ways_inner t good row c.sane.0.0 g l n r)) ∙ e in
        let d = (fit_alone x (fitting_tag t row) (entered t row l n r) [] (fit_some x q (way_in t row l n r ∷ []) f)).0 in
        goes_in x p d ∙ sym (fit_first x (fitting_tag t row) (entered t row l n r) [] d) ∙ f

    pub clear_inner : ltb n (most t row) ≡ true → is_group t row ≡ true → Free (inner t row l n r)
    clear_inner p g =
        record {
          sane = (held_in t row, (c.sane.0, c.sane.1));
          most_one = λ x. subst⁻¹ (λ k. fitting x k ≤ 1) (ways_inner t good row c.sane.0.0 g l n r) (alone_fits x (fitting_tag t row) (entered t row l n r));
          leads = λ x q e. c.leads x q (goes_inner x q p g e);
        }

    -- the place again, or a later one: no message can go on with both
    pub apart : (x : ℕ) → ltb n (most t row) ≡ true → may_pass t row n ≡ true → x ≡ fitting_tag t row → 1 ≤ fitting x (ways t (passed t row l n r)) → ⊥
    apart x p q e d =
        let f = rw (ways_pass t row l n r q, p) at (c.most_one x) in
        not_both x (fitting_tag t row) (entered t row l n r) (ways t (passed t row l n r)) e f d
