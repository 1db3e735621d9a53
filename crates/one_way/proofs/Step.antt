-- One choice of the placing rule is one way on: the same tag fits, and it leads to the same place. Assumes nothing.
use Rattle.std.specs.Prelude.{◌≡◌, refl, Bool, true, false, ◌∷◌, ℕ, suc, ◌+◌, ◌-◌, ◌≤◌, ◌<◌, T, eqb, Option, Some, None}
use Rattle.std.proofs.Common.{sym, ◌∙◌, subst, arith, eqb-true, eq-eqb, ne_eqb}
use Rattle.std.proofs.Math.Path.{ap, ap₂, subst⁻¹}
use Rattle.std.proofs.lemmas.Bool.{eqb-false}
use Rattle.laws.specs.Choice.{pick, eqb_comm}
use Rattle.placing.specs.declared.Place.{Place}
use Rattle.placing.specs.Table.{Table, rows, tag_at, is_group, level_of, outer, after_of, end_of, places, held, later}
use Rattle.placing.specs.Place.{reached_of}
use Rattle.placing.specs.Rule.{Choice, fit_at, fits, go, placed_at, chosen}
use Rattle.placing.specs.WellFormed.{well_formed}
use Rattle.placing.proofs.Formed.{trigger, trigger_in, segment_fits, group_fits}
use Rattle.placing.proofs.Message.{kept_inner, level_most}
use Rattle.one_way.specs.Test.{fitting_tag}
use Rattle.one_way.proofs.Reach.{Reach, level, Found, at, nowhere, entered, held_trigger}
use Rattle.one_way.proofs.Levels.{levels, reach_of, above, Open, OpenAbove, Inside, levels_here, open_here}

-- the two answers are the same
abbrev pub Same : Table → Option Place → Found → Type 0
Same t (Some q) (at r) = (reach_of t q ≡ r) × Inside t q
Same t (Some q) nowhere = ⊥
Same t None (at r) = ⊥
Same t None nowhere = Unit {0}

-- one tag alone fits a choice, and it leads there
abbrev pub Leads : Table → Place → Choice → ℕ → Reach → Type 0
Leads t p c x r = (tag : ℕ) → Same t (chosen t p tag c) (pick (eqb tag x) (at r) nowhere)

same_pick : (t : Table) (b : Bool) (q : Place) (r : Reach) → reach_of t q ≡ r → Inside t q → Same t (pick b (Some q) None) (pick b (at r) nowhere)
same_pick t true q r e i = (e, i)
same_pick t false q r e i = tt

placed_pick : (p : Place) (l n r d : ℕ) (b : Bool) → placed_at p l n (pick b (fit_at r d) None) ≡ pick b (Some (reached_of p l n r (4 - d))) None
placed_pick p l n r d true = refl
placed_pick p l n r d false = refl

module _ (t : Table) (good : T (well_formed t)) (p : Place) (row l n : ℕ) (there : row < rows t) (deep : level_of t row ≡ l) (around : OpenAbove l t p (outer t row)) where
  low : l ≤ 4
  low = subst (λ x. x ≤ 4) deep (level_most t row)

  -- the row's place, for one time more
  abbrev in_row : Reach
  in_row = level (row ∷ later t l row) (suc n) (above l t p (outer t row))

  -- a segment
  abbrev segment_at : Place
  segment_at = reached_of p l (suc n) row l

  segment_reach : reach_of t segment_at ≡ in_row
  unfolding reach_of
  segment_reach = ap (λ k. levels k t segment_at row) deep ∙ levels_here t p l (suc n) row l row low

  segment_inside : is_group t row ≡ false → Inside t segment_at
  segment_inside e =
      record { in_table = there; segment = e; opened = subst⁻¹ (λ k. Open k t segment_at row) deep (open_here t p l (suc n) row l row low (omega arith) around) }

  -- a group, by its trigger
  abbrev trigger_at : Place
  trigger_at = reached_of p l (suc n) (row + 1) (suc l)

  module _ (g : tag_at t row ≡ 0) where
    lower : l ≤ 3
    lower = omega (arith, (trigger t good row there g).deeper, level_most t (row + 1), deep)

    trigger_deep : level_of t (row + 1) ≡ suc l
    trigger_deep = (trigger t good row there g).deeper ∙ ap suc deep

    trigger_held : (row + 1) ∷ later t (suc l) (row + 1) ≡ held t row
    unfolding end_of
    trigger_held =
        ap (λ x. (row + 1) ∷ places t (after_of t (row + 1)) (pick (eqb (suc l) 0) (rows t) (after_of t x))) (trigger t good row there g).within
        ∙ rw (ne_eqb (suc l) 0 (λ z. omega arith)) (sym (held_trigger t good row there (eq-eqb (tag_at t row) 0 g)))

    trigger_reach : reach_of t trigger_at ≡ level (held t row) 1 in_row
    unfolding reach_of levels
    trigger_reach =
        ap (λ k. levels k t trigger_at (row + 1)) trigger_deep
        ∙ ap (λ c. level ((row + 1) ∷ later t (suc l) (row + 1)) c (levels l t trigger_at (outer t (row + 1)))) (kept_inner p l (suc n) (row + 1) lower)
        ∙ ap₂ (λ x o. level x 1 (levels l t trigger_at o)) trigger_held (trigger t good row there g).within
        ∙ ap (level (held t row) 1) (levels_here t p l (suc n) (row + 1) (suc l) row low)

    trigger_inside : Inside t trigger_at
    trigger_inside =
        let o = (trigger t good row there g).within in
        record {
          in_table = (trigger_in t good row there g).1;
          segment = ne_eqb (tag_at t (row + 1)) 0 (trigger t good row there g).segment;
          opened =
              subst⁻¹ (λ k. Open k t trigger_at (row + 1)) trigger_deep (
                subst⁻¹ (λ c. 1 ≤ c) (kept_inner p l (suc n) (row + 1) lower) (omega arith),
                subst⁻¹ (Open l t trigger_at) o (open_here t p l (suc n) (row + 1) (suc l) row low (omega arith) around),
              );
        }

  -- the tags fit alike, and lead to the same place
  one_by : (b : Bool) → is_group t row ≡ b
      → Leads t p (go row l (suc n)) (pick b (tag_at t (row + 1)) (tag_at t row)) (pick b (level (held t row) 1 in_row) in_row)
  one_by true e tag =
      let g = eqb-true (tag_at t row) 0 e in
      let k = lower g in
      let a : 4 - l ≡ suc (3 - l) = omega arith in
      let b : 4 - (3 - l) ≡ suc l = omega arith in
      let c : chosen t p tag (go row l (suc n)) ≡ pick (eqb tag (tag_at t (row + 1))) (Some trigger_at) None
      = ap (placed_at p l (suc n)) (ap (λ d. fits d t tag row) a ∙ group_fits t good row there g (3 - l) tag)
      ∙ placed_pick p l (suc n) (row + 1) (3 - l) (eqb (tag_at t (row + 1)) tag)
      ∙ ap₂ (λ y x. pick y (Some (reached_of p l (suc n) (row + 1) x)) None) (eqb_comm (tag_at t (row + 1)) tag) b in
      subst⁻¹ (λ x. Same t x (pick (eqb tag (tag_at t (row + 1))) (at (level (held t row) 1 in_row)) nowhere)) c
      (same_pick t (eqb tag (tag_at t (row + 1))) trigger_at (level (held t row) 1 in_row) (trigger_reach g) (trigger_inside g))
  one_by false e tag =
      let s = eqb-false (tag_at t row) 0 e in
      let d : 4 - (4 - l) ≡ l = omega (arith, low) in
      let c : chosen t p tag (go row l (suc n)) ≡ pick (eqb tag (tag_at t row)) (Some segment_at) None
      = ap (placed_at p l (suc n)) (segment_fits (4 - l) t tag row s)
      ∙ placed_pick p l (suc n) row (4 - l) (eqb (tag_at t row) tag)
      ∙ ap₂ (λ y x. pick y (Some (reached_of p l (suc n) row x)) None) (eqb_comm (tag_at t row) tag) d in
      subst⁻¹ (λ x. Same t x (pick (eqb tag (tag_at t row)) (at in_row) nowhere)) c
      (same_pick t (eqb tag (tag_at t row)) segment_at in_row segment_reach (segment_inside e))

  pub one_same : Leads t p (go row l (suc n)) (fitting_tag t row) (entered t row (later t l row) n (above l t p (outer t row)))
  one_same = one_by (is_group t row) refl
