-- Where a message may end: exactly where no mandatory place but the UIT's is left empty. Assumes nothing.
use Rattle.std.specs.Option.{option_or}
use Rattle.std.specs.Prelude.{◌≡◌, Bool, T, eqb, leb, ltb, Option, Some, None, is_some}
use Rattle.std.proofs.Math.Path.{refl, ap}
use Rattle.std.proofs.Common.{sym, ◌∙◌, subst, arith, leb→le}
use Rattle.std.proofs.Math.Bool.{true, false}
use mathlib.Core.List.{List, [], ◌∷◌, map}
use Prim.Native.Nat.{ℕ, zero, suc, ◌+◌, ◌-◌, ◌≤◌, ◌<◌}
use Rattle.std.proofs.Math.Decide.{dec_lt}
use borrow.Author.Tests.{eq-eqb, ne_eqb, lt-leb}
use Rattle.laws.specs.Choice.{pick, both, either, all}
use Rattle.laws.specs.Sweep.{at}
use Rattle.placing.specs.declared.Place.{Place}
use Rattle.placing.specs.Table.{Table, rows, tag_at, conditional, most, level_of, outer, after_of, end_of, places_on, later}
use Rattle.placing.specs.Place.{count_at}
use Rattle.placing.specs.Rule.{reachable, none_left, Choice, go, again, later_ones, choices_from, chosen, first_of, step_of, may_end}
use Rattle.placing.proofs.Walks.{after_grows, after_within, none_from, one_from, first_append, first_pick_none}
use Rattle.placing.proofs.Laws.{only_row, chosen_tag}
use Rattle.placing.specs.WellFormed.{is_not}
use Rattle.placing.proofs.Formed.{trigger, standing, unbound, trigger_in, segment_fits}
use Rattle.placing.proofs.Message.{InMessage, Counted, Above, Each, each_map, each_of, each_reachable, Sound, SoundChoice, Stands, next_stands, later_stand, again_sound, stands_sound, to_segment, to_group}
use Rattle.placing.proofs.Envelope.{MessageTable, apart}
use Rattle.messages.specs.Tags.{UIT}

-- no mandatory place is left empty in the groups that are open, nor at level 0 but for the last place
unfoldable pub nothing_owed : Table → ℕ → ℕ → ℕ → Bool
nothing_owed t last zero row = all (λ r. either (eqb r last) (conditional t r)) (later t 0 row)
nothing_owed t last (suc level) row = both (none_left t (later t (suc level) row)) (nothing_owed t last level (outer t row))

-- a list of rows whose last one, and no other, is the table's last
abbrev Ends : ℕ → List ℕ → Type 0
Ends last [] = ⊥
Ends last (r ∷ []) = r ≡ last
Ends last (r ∷ s ∷ l) = (r ≡ last → ⊥) × Ends last (s ∷ l)

ends_cons : (last r : ℕ) (l : List ℕ) → (r ≡ last → ⊥) → Ends last l → Ends last (r ∷ l)
ends_cons last r [] h e = absurd e
ends_cons last r (s ∷ l) h e = (h, e)

either_other : (a b : Bool) → T (either a b) → a ≡ false → T b
either_other true b h e = let z : ◌≡◌ {A = ℕ} 0 1 = cc in absurd (omega arith)
either_other false b h e = h

placed_pick : (b : Bool) (s : Option Place) → is_some (pick b s None) ≡ both b (is_some s)
placed_pick true s = refl
placed_pick false s = refl

module _ (t : Table) (last : ℕ) (m : MessageTable t last) where
  -- The places at level 0 lead to the last row

  below_last : (r : ℕ) → r < last → level_of t r ≡ 0 → after_of t r ≤ last
  below_last r h e =
      let w = at (apart t last) (rows t) m.uit_apart r (omega (arith, m.long)) in
      let w₂ = either_other (leb last r) (either (is_not (eqb (level_of t r) 0)) (leb (after_of t r) last)) w (lt-leb last r h) in
      leb→le (after_of t r) last (either_other (is_not (eqb (level_of t r) 0)) (leb (after_of t r) last) w₂ (ap is_not (eq-eqb (level_of t r) 0 e)))

  chain_ends : (n s : ℕ) → s ≤ last → level_of t s ≡ 0 → outer t s ≡ 0 → rows t ≤ s + n → Ends last (places_on n t s (rows t))
  chain_ends zero s h e o k = absurd (omega (arith, m.long))
  chain_ends (suc n) s h e o k =
      let l : s < rows t = omega (arith, m.long) in
      let g = after_grows t s l in
      elim (dec_lt s last) [
        | yes w ↦
            let b = below_last s w e in
            let st = next_stands t m.well 0 0 s l e o (omega (arith, m.long)) (omega (arith, m.long)) in
            subst (Ends last) (sym (one_from n t s (rows t) l l))
            (ends_cons last s (places_on n t (after_of t s) (rows t)) (λ z. omega arith)
            (chain_ends n (after_of t s) b st.deep st.of (omega arith)))
        | no w ↦
            let z : s ≡ last = omega arith in
            let a = after_within t s in
            subst (Ends last) (sym (one_from n t s (rows t) l l ∙ ap (λ x. s ∷ x) (none_from n t (after_of t s) (rows t) (omega (arith, m.long))))) z
      ]

  later_ends : (row : ℕ) → row < last → level_of t row ≡ 0 → Ends last (later t 0 row)
  unfolding end_of
  later_ends row h e =
      let l : row < rows t = omega (arith, m.long) in
      let o = unbound t m.well row l e in
      let b = below_last row h e in
      let st = next_stands t m.well 0 0 row l e o (omega (arith, m.long)) (omega (arith, m.long)) in
      chain_ends (rows t - after_of t row) (after_of t row) b st.deep st.of (omega arith)

  -- Choices that the UIT does not fit

  module _ (p : Place) where
    abbrev Unfit : Choice → Type 0
    Unfit c = chosen t p UIT c ≡ None

    unfit_by : (row level n : ℕ) → Sound t p row level n → (row ≡ last → ⊥) → (x : Option Place) → chosen t p UIT (go row level n) ≡ x → x ≡ None
    unfit_by row level n s h (Some q) c =
        let tag = chosen_tag t UIT p (go row level n) q c in
        elim (dec_lt 0 (tag_at t row)) [
          | yes l ↦
              let r : q.row ≡ row = ap (λ x. x.row) (to_segment t m.well p UIT row level n s (λ z. omega arith) q c) in
              absurd (h (only_row t UIT last row m.uit_only s.there (ap (tag_at t) (sym r) ∙ tag)))
          | no l ↦
              let e : tag_at t row ≡ 0 = omega arith in
              let r : q.row ≡ row + 1 = ap (λ x. x.row) (to_group t m.well p UIT row level n s e q c) in
              let w : row + 1 ≡ last = only_row t UIT last (row + 1) m.uit_only (trigger_in t m.well row s.there e).1 (ap (tag_at t) (sym r) ∙ tag) in
              let d : level_of t (row + 1) ≡ 0 = ap (level_of t) w ∙ m.uit_free in
              absurd (omega (arith, (trigger t m.well row s.there e).deeper, d))
        ]
    unfit_by row level n s h None c = refl

    unfit : (row level n : ℕ) → Sound t p row level n → (row ≡ last → ⊥) → Unfit (go row level n)
    unfit row level n s h = unfit_by row level n s h (chosen t p UIT (go row level n)) refl

    first_unfit : (l : List Choice) → Each Unfit l → first_of t p UIT l ≡ None
    unfolding first_of
    first_unfit [] h = refl
    first_unfit (c ∷ l) h = rw h.0 (first_unfit l h.1)

    again_by : (row level n : ℕ) (b : Bool) → (row ≡ last → ⊥) → Each (SoundChoice t p) (pick b (go row level n ∷ []) []) → Each Unfit (pick b (go row level n ∷ []) [])
    again_by row level n true h s = (unfit row level n s.0 h, tt)
    again_by row level n false h s = tt

    again_unfit : (level row : ℕ) → row < rows t → level_of t row ≡ level → Above t p level (outer t row) → (row ≡ last → ⊥) → first_of t p UIT (again t p level row) ≡ None
    unfolding again
    again_unfit level row l d a h = first_unfit (again t p level row) (again_by row level (count_at p level + 1) (ltb (count_at p level) (most t row)) h (again_sound t m.well p level row l d a))

    later_unfit : (level row : ℕ) → row < rows t → level_of t row ≡ suc level → Above t p (suc level) (outer t row) → first_of t p UIT (later_ones t (suc level) row) ≡ None
    unfolding later_ones
    later_unfit level row l d a =
        first_unfit (later_ones t (suc level) row)
        (each_map Unfit (λ r. go r (suc level) 1) (reachable t (later t (suc level) row))
        (each_reachable (λ r. Unfit (go r (suc level) 1)) t (later t (suc level) row)
        (each_of (Stands t (suc level) (outer t row)) (λ r. Unfit (go r (suc level) 1))
        (λ r s. unfit r (suc level) 1 (stands_sound t m.well p (suc level) (outer t row) a r s) (λ z. omega (arith, s.deep, ap (level_of t) z ∙ m.uit_free)))
        (later t (suc level) row) (later_stand t m.well (suc level) row l d))))

    -- The last place, which it does

    last_fits : is_some (chosen t p UIT (go last 0 1)) ≡ true
    last_fits =
        let n : tag_at t last ≡ 0 → ⊥ = λ z. let y : UIT ≡ 0 = sym m.uit ∙ z in omega arith in
        rw (segment_fits 4 t UIT last n, eq-eqb (tag_at t last) UIT m.uit)

    placed_first : (x y : Option Place) → is_some x ≡ true → is_some (option_or x y) ≡ true
    placed_first (Some q) y e = refl
    placed_first None y e = let z : ◌≡◌ {A = ℕ} 0 1 = cc in absurd (omega arith)

    shorter : (b : Bool) (l : List ℕ) (y : Bool) → is_some (first_of t p UIT (map (λ r. go r 0 1) l)) ≡ y
        → is_some (first_of t p UIT (map (λ r. go r 0 1) (pick b l []))) ≡ both b y
    unfolding first_of
    shorter true l y e = e
    shorter false l y e = refl

    level_0 : (l : List ℕ) → Ends last l → Each (λ r. (r ≡ last → ⊥) → Unfit (go r 0 1)) l
        → is_some (first_of t p UIT (map (λ r. go r 0 1) (reachable t l))) ≡ all (λ r. either (eqb r last) (conditional t r)) l
    unfolding first_of reachable
    level_0 [] e u = absurd e
    level_0 (r ∷ []) e u =
        rw (eq-eqb r last e)
        (placed_first (chosen t p UIT (go r 0 1)) (first_of t p UIT (map (λ r. go r 0 1) (pick (conditional t r) [] [])))
        (ap (λ x. is_some (chosen t p UIT (go x 0 1))) e ∙ last_fits))
    level_0 (r ∷ s ∷ l) e u =
        rw (u.0 e.0, ne_eqb r last e.0)
        (shorter (conditional t r) (reachable t (s ∷ l)) (all (λ r. either (eqb r last) (conditional t r)) (s ∷ l)) (level_0 (s ∷ l) e.1 u.1))

    later_fits : (row : ℕ) → row < last → level_of t row ≡ 0
        → is_some (first_of t p UIT (later_ones t 0 row)) ≡ all (λ r. either (eqb r last) (conditional t r)) (later t 0 row)
    unfolding later_ones
    later_fits row h d =
        level_0 (later t 0 row) (later_ends row h d)
        (each_of (Stands t 0 (outer t row)) (λ r. (r ≡ last → ⊥) → Unfit (go r 0 1))
        (λ r s. unfit r 0 1 (stands_sound t m.well p 0 (outer t row) tt r s))
        (later t 0 row) (later_stand t m.well 0 row (omega (arith, m.long)) d))

    from_level : (level row : ℕ) → row < last → level_of t row ≡ level → Counted t p level row
        → is_some (first_of t p UIT (choices_from level t p row)) ≡ nothing_owed t last level row
    unfolding choices_from nothing_owed
    from_level zero row h d c =
        rw (first_append, again_unfit 0 row (omega (arith, m.long)) d tt (λ z. omega arith)) (later_fits row h d)
    from_level (suc level) row h d c =
        let l : row < rows t = omega (arith, m.long) in
        let w = standing t m.well row l (λ z. omega arith) in
        let up : level_of t (outer t row) ≡ level = omega (arith, w.2, d) in
        rw (first_append, first_append, again_unfit (suc level) row l d c.1 (λ z. omega arith), later_unfit level row l d c.1, first_pick_none)
        (placed_pick (none_left t (later t (suc level) row)) (first_of t p UIT (choices_from level t p (outer t row)))
        ∙ ap (both (none_left t (later t (suc level) row))) (from_level level (outer t row) (omega (arith, w.0)) up c.1))

    -- a message may end exactly where nothing is owed
    pub may_end_owed : InMessage t p → (p.row ≡ last → ⊥) → may_end t p ≡ nothing_owed t last (level_of t p.row) p.row
    unfolding step_of
    may_end_owed i h = from_level (level_of t p.row) p.row (omega (arith, i.in_table, m.long)) refl i.counted
