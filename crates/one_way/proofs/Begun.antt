-- Where a message begins, and that one way at most fits from every place reached in it. Assumes nothing.
use Rattle.std.specs.Prelude.{◌≡◌, refl, ℕ, zero, suc, ◌-◌, ◌≤◌, ◌<◌, T, Option, Some, None}
use Rattle.std.proofs.Common.{sym, ◌∙◌, ap, arith}
use Rattle.std.proofs.Math.Path.{subst}
use Rattle.placing.specs.declared.Place.{Place}
use Rattle.placing.specs.Table.{Table, rows, level_of, outer, after_of, end_of}
use Rattle.placing.specs.Rule.{step_of}
use Rattle.placing.specs.WellFormed.{well_formed}
use Rattle.placing.proofs.Formed.{standing}
use Rattle.one_way.specs.Placings.{first_place}
use Rattle.one_way.specs.Test.{Reached, first, next, OneFits}
use Rattle.one_way.proofs.Reach.{Reach, at, first_fit, fitting, ways, Sane, places_in, start}
use Rattle.one_way.proofs.Clear.{Clear}
use Rattle.one_way.proofs.Levels.{levels, reach_of}
use Rattle.one_way.proofs.Step.{Same}
use Rattle.one_way.proofs.Alike.{step_same, fits_same, first_same, first_fits_same}
use Rattle.one_way.proofs.Tested.{reached_inside}

sane_levels : (t : Table) (good : T (well_formed t)) (p : Place) (l row : ℕ) → row < rows t → level_of t row ≡ l → Sane t (levels l t p row)
unfolding levels
sane_levels t good p zero row h d = ((h, places_in _ t (after_of t row) (end_of t 0 row)), tt)
sane_levels t good p (suc l) row h d =
    let w = standing t good row h (λ z. omega (arith, sym d ∙ z)) in
    ((h, places_in _ t (after_of t row) (end_of t (suc l) row)), sane_levels t good p l (outer t row) (omega (arith, w.0)) (omega (arith, w.2, d)))

module _ (t : Table) (good : T (well_formed t)) where
  pub start_sane : Sane t (start t)
  start_sane = (places_in (rows t - 0) t 0 (rows t), tt)

  module _ (h : OneFits t) where
    abbrev pub Fine : Reach → Type 0
    Fine r = (p : Place) × Reached t p × (reach_of t p ≡ r)

    fine_by : (q : Reach) (s : Option Place) → ((u : Place) → s ≡ Some u → Reached t u) → Same t s (at q) → Fine q
    fine_by q (Some u) c k = (u, c u refl, k.0)
    fine_by q None c k = absurd k

    pub clear : (r : Reach) → Fine r → Clear t Fine r
    unfolding reach_of
    clear r f =
        let p = f.0 in
        let i = reached_inside t good p f.1 in
        record {
          sane = subst (Sane t) f.2 (sane_levels t good p (level_of t p.row) p.row i.in_table refl);
          most_one = λ x. subst (λ q. fitting x (ways t q) ≤ 1) f.2 (subst (λ n. n ≤ 1) (fits_same t good p i x) (h.from p f.1 x));
          leads = λ x q e. fine_by q (step_of t p x) (λ u. next p x f.1)
              (subst (Same t (step_of t p x)) (ap (λ y. first_fit x (ways t y)) f.2 ∙ e) (step_same t good p i x));
        }

    pub clear_start : Clear t Fine (start t)
    clear_start =
        record {
          sane = start_sane;
          most_one = λ x. subst (λ n. n ≤ 1) (first_fits_same t good x) (h.before x);
          leads = λ x q e. fine_by q (first_place t x) (λ u. first x) (subst (Same t (first_place t x)) e (first_same t good x));
        }
