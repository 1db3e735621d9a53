-- The placing rule's walk over the tags of a message is the walk by the ways on. Assumes nothing.
use Rattle.std.specs.Prelude.{◌≡◌, refl, Bool, true, false, ℕ, zero, suc, ◌+◌, ◌≤◌, T, Option, Some, None, is_some}
use Rattle.std.proofs.Common.{sym, ◌∙◌, arith}
use Rattle.std.proofs.Math.Path.{ap, subst}
use mathlib.Core.List.{List, [], ◌∷◌, ◌++◌, map}
use Rattle.laws.specs.Choice.{pick, both, all, false≢true}
use Rattle.placing.specs.declared.Place.{Place}
use Rattle.placing.specs.Table.{Table, rows, level_of, outer, after_of, end_of, later}
use Rattle.placing.specs.Place.{count_at}
use Rattle.placing.specs.Rule.{step_of}
use Rattle.placing.proofs.Walks.{after_grows, places_past}
use Rattle.placing.specs.WellFormed.{well_formed}
use Rattle.placing.proofs.Laws.{only_at, only_there}
use Rattle.one_way.specs.Arrangement.{Where}
use Rattle.one_way.specs.Placings.{walked, first_place, placings, all_placed, where_on, where_of, where_placed}
use Rattle.one_way.proofs.Reach.{Reach, outside, level, path, Found, at, nowhere, first_fit, ways, start, pass_some, ends_in, may_end, placed, refused, behind, onward, put, placed_parts}
use Rattle.one_way.proofs.Levels.{levels, reach_of, Open, Inside}
use Rattle.one_way.proofs.Step.{Same}
use Rattle.one_way.proofs.Alike.{step_same, first_same}

path_levels : (t : Table) (p : Place) (l row : ℕ) → path (levels l t p row) ≡ where_on l t p row
unfolding levels path where_on
path_levels t p zero row = refl
path_levels t p (suc l) row = ap (λ w. (row, count_at p (suc l)) ∷ w) (path_levels t p l (outer t row))

path_reach : (t : Table) (p : Place) → path (reach_of t p) ≡ where_of t (Some p)
unfolding reach_of
path_reach t p = path_levels t p (level_of t p.row) p.row

nothing_more : (b : Bool) (l : List Where) → pick b (placed []) refused ≡ placed l → [] ≡ l
nothing_more true l e = cc
nothing_more false l e = let z : ◌≡◌ {A = ℕ} 0 1 = cc in absurd (omega arith)

module _ (t : Table) (good : T (well_formed t)) where
  -- One step

  step_by : (r : Reach) (x : ℕ) (w : List ℕ) (q : Place) (f : Found) → first_fit x (ways t r) ≡ f → Same t (Some q) f
      → Inside t q × (put t r (x ∷ w) ≡ behind (where_of t (Some q)) (put t (reach_of t q) w))
  unfolding put
  step_by r x w q (at s) e h =
      (h.1, ap (onward (λ y. put t y w)) e ∙ ap (λ y. behind (path y) (put t y w)) (sym h.0) ∙ ap (λ k. behind k (put t (reach_of t q) w)) (path_reach t q))
  step_by r x w q nowhere e h = absurd h

  out_by : (r : Reach) (x : ℕ) (w : List ℕ) (f : Found) → first_fit x (ways t r) ≡ f → Same t None f → put t r (x ∷ w) ≡ refused
  unfolding put
  out_by r x w (at s) e h = absurd h
  out_by r x w nowhere e h = ap (onward (λ y. put t y w)) e

  -- From the ways on to the rule's walk

  abbrev Walks : Option Place → List ℕ → List Where → Type 0
  Walks s w l = (all is_some (walked t s w) ≡ true) × (map (where_of t) (walked t s w) ≡ l)

  -- one segment, and what follows it
  walks_on : (r : Reach) (x : ℕ) (w : List ℕ) (l : List Where) (s : Option Place) → Same t s (first_fit x (ways t r))
      → ((q : Place) (m : List Where) → Inside t q → put t (reach_of t q) w ≡ placed m → Walks (Some q) w m) → put t r (x ∷ w) ≡ placed l
      → (both (is_some s) (all is_some (walked t s w)) ≡ true) × (where_of t s ∷ map (where_of t) (walked t s w) ≡ l)
  walks_on r x w l (Some q) same ih e =
      let k = step_by r x w q (first_fit x (ways t r)) refl same in
      let c = placed_parts (where_of t (Some q)) (put t (reach_of t q) w) l (sym k.1 ∙ e) in
      let h = ih q c.0 k.0 c.1 in
      (h.0, ap (λ m. where_of t (Some q) ∷ m) h.1 ∙ sym c.2)
  walks_on r x w l None same ih e =
      let f : refused ≡ placed l = sym (out_by r x w (first_fit x (ways t r)) refl same) ∙ e in
      let z : ◌≡◌ {A = ℕ} 0 1 = cc in
      absurd (omega arith)

  put_walks : (w : List ℕ) (p : Place) (l : List Where) → Inside t p → put t (reach_of t p) w ≡ placed l → Walks (Some p) w l
  unfolding put walked
  put_walks [] p l i e = (refl, nothing_more (may_end t (reach_of t p)) l e)
  put_walks (x ∷ w) p l i e = walks_on (reach_of t p) x w l (step_of t p x) (step_same t good p i x) (λ q m j d. put_walks w q m j d) e

  -- the same from before the first segment
  pub put_placings : (w : List ℕ) (l : List Where) → put t (start t) w ≡ placed l → (all_placed t w ≡ true) × (where_placed t w ≡ l)
  unfolding put placings
  put_placings [] l e = (refl, nothing_more (may_end t (start t)) l e)
  put_placings (x ∷ w) l e = walks_on (start t) x w l (first_place t x) (first_same t good x) (λ q m j d. put_walks w q m j d) e

  -- And back, to a tag that stands in the last row alone, in no group

  module _ (last u : ℕ) (long : rows t ≡ last + 1) (free : level_of t last ≡ 0) (alone : T (only_at t u last)) where
    ends_last : (q : Place) → Inside t q → q.row ≡ last → put t (reach_of t q) [] ≡ placed []
    unfolding put may_end ends_in reach_of levels
    ends_last q i e =
        let g = after_grows t last (omega (arith, long)) in
        let d : level_of t q.row ≡ 0 = ap (level_of t) e ∙ free in
        let n : 1 ≤ count_at q 0 = subst (λ l. Open l t q q.row) d i.opened in
        let none : later t 0 last ≡ [] = places_past t (after_of t last) (end_of t 0 last) (omega (arith, long)) in
        let r : reach_of t q ≡ level (last ∷ []) (count_at q 0) outside
        = ap (λ l. levels l t q q.row) d ∙ ap (λ x. levels 0 t q x) e ∙ ap (λ l. level (last ∷ l) (count_at q 0) outside) none in
        ap (λ y. put t y []) r ∙ rw (pass_some t last (count_at q 0) n)

    walks_by : (r : Reach) (x : ℕ) (w : List ℕ) (s : Option Place) → Same t s (first_fit x (ways t r))
        → ((q : Place) → Inside t q → s ≡ Some q → all is_some (walked t (Some q) w) ≡ true → put t (reach_of t q) w ≡ placed (map (where_of t) (walked t (Some q) w)))
        → both (is_some s) (all is_some (walked t s w)) ≡ true → put t r (x ∷ w) ≡ placed (where_of t s ∷ map (where_of t) (walked t s w))
    walks_by r x w (Some q) same ih h = let k = step_by r x w q (first_fit x (ways t r)) refl same in k.1 ∙ ap (behind (where_of t (Some q))) (ih q k.0 refl h)
    walks_by r x w None same ih h = absurd (false≢true h)

    walks_put : (v : List ℕ) (p : Place) → Inside t p → all is_some (walked t (Some p) (v ++ (u ∷ []))) ≡ true
        → put t (reach_of t p) (v ++ (u ∷ [])) ≡ placed (map (where_of t) (walked t (Some p) (v ++ (u ∷ []))))
    unfolding walked
    walks_put [] p i h = walks_by (reach_of t p) u [] (step_of t p u) (step_same t good p i u) (λ q j e k. ends_last q j (only_there t p u last alone q e)) h
    walks_put (x ∷ v) p i h = walks_by (reach_of t p) x (v ++ (u ∷ [])) (step_of t p x) (step_same t good p i x) (λ q j e k. walks_put v q j k) h

    pub placings_put : (x : ℕ) (v : List ℕ) → all_placed t (x ∷ (v ++ (u ∷ []))) ≡ true → put t (start t) (x ∷ (v ++ (u ∷ []))) ≡ placed (where_placed t (x ∷ (v ++ (u ∷ []))))
    unfolding placings
    placings_put x v h = walks_by (start t) x (v ++ (u ∷ [])) (first_place t x) (first_same t good x) (λ q j e k. walks_put v q j k) h
