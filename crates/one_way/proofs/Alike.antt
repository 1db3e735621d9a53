-- From a place that the placing rule reaches, its choices are the ways on, one by one. Assumes nothing.
use Rattle.std.specs.Option.{option_or}
use Rattle.std.specs.Prelude.{◌≡◌, Bool, false, T, eqb, Option, Some, None, is_some}
use Rattle.std.proofs.Math.Path.{refl, sym, ap, subst, subst⁻¹}
use Rattle.std.proofs.Common.{◌∙◌, arith, add-one}
use Rattle.std.proofs.Math.Bool.{true}
use mathlib.Core.List.{List, [], ◌∷◌, ◌++◌, map, append-nil}
use Prim.Native.Nat.{ℕ, zero, suc, ◌+◌, ◌≤◌, ◌<◌}
use Rattle.std.proofs.Math.Decide.{dec_lt}
use borrow.Author.Tests.{lt-ltb}
use Rattle.std.proofs.Math.Dec.{ltb}
use Rattle.laws.specs.Choice.{pick, both, either_false}
use Rattle.placing.specs.declared.Place.{Place}
use Rattle.placing.specs.Table.{Table, rows, conditional, most, level_of, outer, after_of, end_of, places, later}
use Rattle.placing.specs.Place.{count_at}
use Rattle.placing.specs.Rule.{reachable, none_left, Choice, go, again, later_ones, choices_from, choices, chosen, first_of, step_of}
use Rattle.placing.proofs.Walks.{after_grows, places_end, places_past, places_step}
use Rattle.placing.specs.WellFormed.{well_formed}
use Rattle.placing.proofs.Formed.{some_number, standing, unbound}
use Rattle.placing.proofs.Message.{Stands, next_stands}
use Rattle.one_way.specs.Arrangement.{outermost}
use Rattle.one_way.specs.Placings.{before_all, first_choices, first_place}
use Rattle.one_way.specs.Test.{fitting_tag, tag_of, choices_fitting}
use Rattle.one_way.proofs.Reach.{Reach, Way, to, more, Found, at, nowhere, first_fit, fitting, may_pass, pass_some, entered, ways_in, ways, start}
use Rattle.one_way.proofs.Levels.{levels, reach_of, above, Open, OpenAbove, Inside}
use Rattle.one_way.proofs.Step.{Same, Leads, one_same}

same_or : (t : Table) (a c : Option Place) (b : Bool) (r : Reach) (f : Found) → Same t a (pick b (at r) nowhere) → Same t c f → Same t (option_or a c) (pick b (at r) f)
same_or t (Some q) c true r f h k = h
same_or t (Some q) c false r f h k = absurd h
same_or t None c true r f h k = absurd h
same_or t None c false r f h k = k

pick_nil : (b : Bool) → ◌≡◌ {A = List Choice} (pick b [] []) []
pick_nil true = refl
pick_nil false = refl

-- rows of one group, each with the later ones behind it
record OfGroup (t : Table) (l out row : ℕ) : Type 0 where
  there : row < rows t
  deep : level_of t row ≡ l
  of : outer t row ≡ out

abbrev Chain : Table → ℕ → ℕ → List ℕ → Type 0
Chain t l out [] = Unit {0}
Chain t l out (row ∷ rest) = OfGroup t l out row × (rest ≡ later t l row) × Chain t l out rest

stands_of : (t : Table) (l out row : ℕ) → Stands t l out row → OfGroup t l out row
stands_of t l out row s = record { there = s.there; deep = s.deep; of = s.of }

module _ (t : Table) (good : T (well_formed t)) (l out : ℕ) where
  abbrev stop : ℕ
  stop = pick (eqb l 0) (rows t) (after_of t out)

  chain_from : (n row : ℕ) → stop ≤ row + n → (row < stop → row < rows t → OfGroup t l out row) → Chain t l out (places t row stop)
  unfolding end_of
  chain_from zero row h f = subst⁻¹ (Chain t l out) (places_end t row stop (omega arith)) tt
  chain_from (suc n) row h f =
      elim (dec_lt row stop) [
        | yes a ↦ elim (dec_lt row (rows t)) [
          | yes b ↦
              let s = f a b in
              let grow = after_grows t row b in
              let e : places t (after_of t row) stop ≡ later t l row = ap (λ o. places t (after_of t row) (pick (eqb l 0) (rows t) (after_of t o))) (sym s.of) in
              subst⁻¹ (Chain t l out) (places_step t row stop a b)
              (s, e, chain_from n (after_of t row) (omega arith) (λ k m. stands_of t l out (after_of t row) (next_stands t good l out row b s.deep s.of k m)))
          | no b ↦ subst⁻¹ (Chain t l out) (places_past t row stop (omega arith)) tt
        ]
        | no a ↦ subst⁻¹ (Chain t l out) (places_end t row stop (omega arith)) tt
      ]

chain_later : (t : Table) (good : T (well_formed t)) (l row : ℕ) → row < rows t → level_of t row ≡ l → Chain t l (outer t row) (later t l row)
unfolding end_of
chain_later t good l row h d =
    let stop = pick (eqb l 0) (rows t) (after_of t (outer t row)) in
    chain_from t good l (outer t row) stop (after_of t row) (omega arith) (λ k m. stands_of t l (outer t row) (after_of t row) (next_stands t good l (outer t row) row h d refl k m))

-- the first row of a table stands in no group
pub flat : (t : Table) (good : T (well_formed t)) → 0 < rows t → level_of t 0 ≡ 0
flat t good h =
    elim (dec_lt 0 (level_of t 0)) [
      | yes l ↦ absurd (omega (arith, (standing t good 0 h (λ z. omega arith)).0))
      | no l ↦ omega arith
    ]

first_free : (t : Table) (good : T (well_formed t)) → 0 < rows t → OfGroup t 0 0 0
first_free t good h = record { there = h; deep = flat t good h; of = unbound t good 0 h (flat t good h) }

chain_outermost : (t : Table) (good : T (well_formed t)) → Chain t 0 0 (outermost t)
chain_outermost t good = chain_from t good 0 0 (rows t) 0 (omega arith) (λ a h. first_free t good h)

module _ (t : Table) (good : T (well_formed t)) (p : Place) where
  -- choice by choice
  abbrev pub Alike : List Choice → List Way → Type 0
  Alike [] [] = Unit {0}
  Alike [] (d ∷ m) = ⊥
  Alike (c ∷ k) [] = ⊥
  Alike (c ∷ k) (to x r ∷ m) = (tag_of t c ≡ x) × Leads t p c x r × Alike k m

  -- places of a level from one on, none of them filled
  abbrev choices_on : ℕ → List ℕ → List Choice → List Choice
  choices_on l rs up = map (λ r. go r l 1) (reachable t rs) ++ pick (none_left t rs) up []

  on_by : (l row : ℕ) (rs : List ℕ) (up : List Choice) (c : Bool)
      → map (λ r. go r l 1) (row ∷ pick c (reachable t rs) []) ++ pick (both c (none_left t rs)) up [] ≡ go row l 1 ∷ pick c (choices_on l rs up) []
  on_by l row rs up true = refl
  on_by l row rs up false = refl

  on_cons : (l row : ℕ) (rs : List ℕ) (up : List Choice) → choices_on l (row ∷ rs) up ≡ go row l 1 ∷ pick (conditional t row) (choices_on l rs up) []
  unfolding reachable
  on_cons l row rs up = on_by l row rs up (conditional t row)

  alike_pick : (b : Bool) (k : List Choice) (m : List Way) → Alike k m → Alike (pick b k []) (pick b m [])
  alike_pick true k m h = h
  alike_pick false k m h = tt

  module _ (l out : ℕ) (open_above : OpenAbove l t p out) (up : List Choice) (tops : List Way) (ups : Alike up tops) where
    later_alike : (rs : List ℕ) → Chain t l out rs → Alike (choices_on l rs up) (ways_in t rs 0 (above l t p out) tops)
    unfolding ways_in reachable
    later_alike [] c = ups
    later_alike (row ∷ rs) c =
        let s = c.0 in
        let tag = fitting_tag t row in
        let one = go row l 1 in
        let k = choices_on l rs up in
        let w = ways_in t rs 0 (above l t p out) tops in
        let there = entered t row rs 0 (above l t p out) in
        let some : ltb 0 (most t row) ≡ true = lt-ltb 0 (most t row) (some_number t good row s.there) in
        let same : Leads t p one tag there
        = subst⁻¹ (λ x. Leads t p one tag (entered t row x 0 (above l t p out))) c.1
        (subst (λ o. Leads t p one tag (entered t row (later t l row) 0 (above l t p o))) s.of
        (one_same t good p row l 0 s.there s.deep (subst⁻¹ (OpenAbove l t p) s.of open_above))) in
        subst⁻¹ (λ x. Alike x (more (ltb 0 (most t row)) (to tag there) (pick (may_pass t row 0) w []))) (on_cons l row rs up)
        (subst⁻¹ (λ b. Alike (one ∷ pick (conditional t row) k []) (more b (to tag there) (pick (may_pass t row 0) w []))) some (
          refl,
          same,
          subst⁻¹ (λ b. Alike (pick (conditional t row) k []) (pick b w [])) (either_false (conditional t row))
              (alike_pick (conditional t row) k w (later_alike rs c.2)),
        ))

  alike_again : (b : Bool) (c : Choice) (x : ℕ) (r : Reach) (k : List Choice) (m : List Way)
      → tag_of t c ≡ x → Leads t p c x r → Alike k m → Alike (pick b (c ∷ []) [] ++ k) (more b (to x r) m)
  alike_again true c x r k m e s h = (e, s, h)
  alike_again false c x r k m e s h = h

  level_alike : (l row : ℕ) → row < rows t → level_of t row ≡ l → OpenAbove l t p (outer t row) → 1 ≤ count_at p l → (up : List Choice) (tops : List Way) → Alike up tops
      → Alike (again t p l row ++ choices_on l (later t l row) up) (ways_in t (row ∷ later t l row) (count_at p l) (above l t p (outer t row)) tops)
  unfolding again ways_in
  level_alike l row h d o s up tops ups =
      let n = count_at p l in
      let tag = fitting_tag t row in
      let once_more = go row l (n + 1) in
      let k = choices_on l (later t l row) up in
      let w = ways_in t (later t l row) 0 (above l t p (outer t row)) tops in
      let there = entered t row (later t l row) n (above l t p (outer t row)) in
      let same : Leads t p once_more tag there = subst⁻¹ (λ x. Leads t p (go row l x) tag there) (add-one n) (one_same t good p row l n h d o) in
      subst⁻¹ (λ b. Alike (pick (ltb n (most t row)) (once_more ∷ []) [] ++ k) (more (ltb n (most t row)) (to tag there) (pick b w []))) (pass_some t row n s)
      (alike_again (ltb n (most t row)) once_more tag there k w refl same
      (later_alike l (outer t row) o up tops ups (later t l row) (chain_later t good l row h d)))

  from_alike : (l row : ℕ) → row < rows t → level_of t row ≡ l → Open l t p row → Alike (choices_from l t p row) (ways t (levels l t p row))
  unfolding choices_from later_ones ways levels
  from_alike zero row h d o =
      subst (λ k. Alike (again t p 0 row ++ k) (ways t (levels 0 t p row)))
      (ap (λ k. later_ones t 0 row ++ k) (pick_nil (none_left t (later t 0 row))) ∙ append-nil (later_ones t 0 row))
      (level_alike 0 row h d tt o [] [] tt)
  from_alike (suc l) row h d o =
      let w = standing t good row h (λ z. omega (arith, sym d ∙ z)) in
      let up : level_of t (outer t row) ≡ l = omega (arith, w.2, d) in
      level_alike (suc l) row h d o.1 o.0 (choices_from l t p (outer t row)) (ways t (levels l t p (outer t row)))
      (from_alike l (outer t row) (omega (arith, w.0)) up o.1)

-- So they take the same step, and a tag fits as many

same_placed : (t : Table) (s : Option Place) (b : Bool) (r : Reach) → Same t s (pick b (at r) nowhere) → is_some s ≡ b
same_placed t (Some q) true r h = refl
same_placed t (Some q) false r h = absurd h
same_placed t None true r h = absurd h
same_placed t None false r h = refl

module _ (t : Table) (good : T (well_formed t)) (p : Place) (x : ℕ) where
  alike_first : (k : List Choice) (m : List Way) → Alike t good p k m → Same t (first_of t p x k) (first_fit x m)
  unfolding first_of first_fit
  alike_first [] [] h = tt
  alike_first [] (d ∷ m) h = absurd h
  alike_first (c ∷ k) [] h = absurd h
  alike_first (c ∷ k) (to y r ∷ m) h = same_or t (chosen t p x c) (first_of t p x k) (eqb x y) r (first_fit x m) (h.1 x) (alike_first k m h.2)

  alike_fits : (k : List Choice) (m : List Way) → Alike t good p k m → choices_fitting t p x k ≡ fitting x m
  unfolding choices_fitting fitting
  alike_fits [] [] h = refl
  alike_fits [] (d ∷ m) h = absurd h
  alike_fits (c ∷ k) [] h = absurd h
  alike_fits (c ∷ k) (to y r ∷ m) h = rw (same_placed t (chosen t p x c) (eqb x y) r (h.1 x), alike_fits k m h.2)

module _ (t : Table) (good : T (well_formed t)) (p : Place) (i : Inside t p) where
  pub choices_alike : Alike t good p (choices t p) (ways t (reach_of t p))
  unfolding reach_of
  choices_alike = from_alike t good p (level_of t p.row) p.row i.in_table refl i.opened

  pub step_same : (tag : ℕ) → Same t (step_of t p tag) (first_fit tag (ways t (reach_of t p)))
  unfolding step_of
  step_same tag = alike_first t good p tag (choices t p) (ways t (reach_of t p)) choices_alike

  pub fits_same : (tag : ℕ) → choices_fitting t p tag (choices t p) ≡ fitting tag (ways t (reach_of t p))
  fits_same tag = alike_fits t good p tag (choices t p) (ways t (reach_of t p)) choices_alike

module _ (t : Table) (good : T (well_formed t)) where
  -- the choices for the first segment
  pub first_alike : Alike t good before_all (first_choices t) (ways t (start t))
  unfolding first_choices ways
  first_alike =
      let firsts = map (λ row. go row 0 1) (reachable t (outermost t)) in
      subst (λ k. Alike t good before_all k (ways t (start t))) (ap (λ k. firsts ++ k) (pick_nil (none_left t (outermost t))) ∙ append-nil firsts)
      (later_alike t good before_all 0 0 tt [] [] tt (outermost t) (chain_outermost t good))

  pub first_same : (tag : ℕ) → Same t (first_place t tag) (first_fit tag (ways t (start t)))
  unfolding first_place
  first_same tag = alike_first t good before_all tag (first_choices t) (ways t (start t)) first_alike

  pub first_fits_same : (tag : ℕ) → choices_fitting t before_all tag (first_choices t) ≡ fitting tag (ways t (start t))
  first_fits_same tag = alike_fits t good before_all tag (first_choices t) (ways t (start t)) first_alike
