-- Where a step of the placing rule leads, no count has grown by more than one, in any table.
-- Assumes nothing.
use Rattle.std.specs.Option.{option_or}
use Rattle.std.specs.Prelude.{◌≡◌, eqb, ltb, leb, Option, Some, None}
use Rattle.std.proofs.Common.{subst}
use mathlib.Core.List.{List, [], ◌∷◌, ◌++◌, map}
use Prim.Native.Nat.{ℕ, zero, suc, ◌+◌, ◌-◌, ◌<◌, ◌≤◌}
use native.Mathlib.Omega.{arith}
use Rattle.laws.specs.Choice.{choose}
use Rattle.messages.specs.declared.MessageType.{MessageType}
use Rattle.messages.specs.declared.MessageType.TheVariants.{Skdupd, Tsdupd, Tsdupd12B}
use Rattle.placing.specs.declared.Place.{Place}
use Rattle.placing.specs.declared.Fit.{Fit}
use Rattle.placing.specs.Table.{Table, rows, most, level_of, outer, later}
use Rattle.placing.specs.Skdupd.{skdupd_table}
use Rattle.placing.specs.Tsdupd.{tsdupd_table}
use Rattle.placing.specs.Tsdupd12B.{tsdupd_12b_table}
use Rattle.placing.specs.Tables.{tables, table_in}
use Rattle.placing.specs.Place.{count_at, kept_of}
use Rattle.placing.specs.Rule.{reachable, none_left, fits, Choice, go, again, later_ones, if_none_left, choices_from, choices, placed_at, chosen, first_of, step_of}
use Rattle.placing.proofs.Laws.{placed_row_lem}
use Rattle.parcel_store.specs.Bounds.{Counted}

module _ (k : ℕ) where
  -- each choice is for an n-th time, n being k + 1 at most
  abbrev Each : List Choice → Type 0
  Each [] = Unit {0}
  Each (go row level n ∷ l) = (n ≤ k + 1) × Each l

  each_append : (a b : List Choice) → Each a → Each b → Each (a ++ b)
  each_append [] b h l = l
  each_append (go row level n ∷ a) b h l = (h.0, each_append a b h.1 l)

  each_first : (level : ℕ) (l : List ℕ) → Each (map (λ r. go r level 1) l)
  each_first level [] = tt
  each_first level (r ∷ l) = (omega arith, each_first level l)

  -- where a segment is placed, no count is above k + 1
  abbrev Reached : Option Place → Type 0
  Reached (Some q) = Counted (k + 1) q
  Reached None = Unit {0}

  kept_counted : (own i level n last : ℕ) → own ≤ k → n ≤ k + 1 → kept_of own i level n last ≤ k + 1
  kept_counted own i level n last h s =
      choose (ltb i level) (λ a. rw a (omega arith))
      (λ a. rw a (choose (eqb i level) (λ b. rw b s) (λ b. rw b (choose (leb i last) (λ c. rw c (omega arith)) (λ c. rw c (omega arith))))))

module _ (t : Table) (k : ℕ) (p : Place) (counted : Counted k p) where
  count_within : (level : ℕ) → count_at p level ≤ k
  count_within level =
      choose (eqb level 0) (λ a. rw a counted.0)
      (λ a.
      rw a
      (choose (eqb level 1) (λ b. rw b counted.1)
      (λ b.
      rw b
      (choose (eqb level 2) (λ c. rw c counted.2)
      (λ c.
      rw c
      (choose (eqb level 3) (λ d. rw d counted.3)
      (λ d. rw d (choose (eqb level 4) (λ e. rw e counted.4) (λ e. rw e (omega arith))))))))))

  each_again : (level row : ℕ) → Each k (again t p level row)
  unfolding again
  each_again level row =
      let h = count_within level in
      choose (ltb (count_at p level) (most t row)) (λ q. rw q (omega arith, tt)) (λ q. rw q tt)

  each_later : (level row : ℕ) → Each k (later_ones t level row)
  unfolding later_ones
  each_later level row = each_first k level (reachable t (later t level row))

  each_above : (level row : ℕ) (l : List Choice) → Each k l → Each k (if_none_left t level row l)
  each_above level row l h = choose (none_left t (later t level row)) (λ q. rw q h) (λ q. rw q tt)

  each_from : (level row : ℕ) → Each k (choices_from level t p row)
  unfolding choices_from
  each_from zero row = each_append k (again t p 0 row) (later_ones t 0 row) (each_again 0 row) (each_later 0 row)
  each_from (suc level) row =
      let up = if_none_left t (suc level) row (choices_from level t p (outer t row)) in
      each_append k (again t p (suc level) row) (later_ones t (suc level) row ++ up) (each_again (suc level) row)
      (each_append k (later_ones t (suc level) row) up (each_later (suc level) row)
      (each_above (suc level) row (choices_from level t p (outer t row)) (each_from level (outer t row))))

  placed_reached : (level n : ℕ) → n ≤ k + 1 → (x : Option Fit) → Reached k (placed_at p level n x)
  placed_reached level n h (Some f) = (
    kept_counted k p.c0 0 level n (4 - f.depth) counted.0 h,
    kept_counted k p.c1 1 level n (4 - f.depth) counted.1 h,
    kept_counted k p.c2 2 level n (4 - f.depth) counted.2 h,
    kept_counted k p.c3 3 level n (4 - f.depth) counted.3 h,
    kept_counted k p.c4 4 level n (4 - f.depth) counted.4 h,
  )
  placed_reached level n h None = tt

  or_reached : (x y : Option Place) → Reached k x → Reached k y → Reached k (option_or x y)
  or_reached (Some q) y a b = a
  or_reached None y a b = b

  first_reached : (tag : ℕ) (l : List Choice) → Each k l → Reached k (first_of t p tag l)
  unfolding first_of
  first_reached tag [] h = tt
  first_reached tag (go row level n ∷ l) h =
      or_reached (chosen t p tag (go row level n)) (first_of t p tag l) (placed_reached level n h.0 (fits (4 - level) t tag row)) (first_reached tag l h.1)

  step_reached : (tag : ℕ) → Reached k (step_of t p tag)
  unfolding step_of
  step_reached tag = first_reached tag (choices t p) (each_from (level_of t p.row) p.row)

  pub step_counted : (tag : ℕ) (q : Place) → step_of t p tag ≡ Some q → Counted (k + 1) q
  step_counted tag q e = subst (Reached k) e (step_reached tag)

-- the rows of a type's table are few
table_short : (m : MessageType) → rows (table_in tables m) < 65536
unfolding tables table_in skdupd_table tsdupd_table tsdupd_12b_table
table_short Skdupd = omega arith
table_short Tsdupd = omega arith
table_short Tsdupd12B = omega arith

pub step_row : (m : MessageType) (p : Place) (tag : ℕ) (q : Place) → step_of (table_in tables m) p tag ≡ Some q → q.row < 65536
step_row m p tag q e =
    let r = placed_row_lem (table_in tables m) tag p q e in
    let s = table_short m in
    omega arith
