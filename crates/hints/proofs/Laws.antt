-- What a right hint tells is the step of the placing rule. Assumes nothing.
use Rattle.std.specs.Option.{option_or}
use Rattle.std.specs.Prelude.{◌≡◌, Bool, not, eqb, ltb, leb, get_or, Option, Some, None}
use Rattle.std.proofs.Math.Path.{refl, sym, ap}
use Rattle.std.proofs.Common.{◌∙◌, subst, zero-add, add-zero}
use Rattle.std.proofs.Math.Bool.{true, false}
use mathlib.Core.List.{List, [], ◌∷◌, map}
use Prim.Native.Nat.{ℕ, zero, suc, ◌+◌, ◌-◌, ◌*◌, ◌%◌, ◌<◌, ◌≤◌}
use native.Mathlib.Omega.{arith}
use Rattle.std.proofs.Math.Decide.{dec_lt}
use borrow.Author.Tests.{eqb-true, eqb-false, ltb-true, ltb-false, leb-true, lt-ltb}
use Rattle.std.proofs.Math.Dec.{T}
use Rattle.laws.specs.Choice.{pick, both, either, all, both_left, both_right, holds, choose}
use Rattle.placing.specs.declared.Place.{Place}
use Rattle.placing.specs.declared.Fit.{Fit}
use Rattle.placing.specs.Table.{Table, rows, tag_at, most, level_of, outer, later}
use Rattle.placing.specs.Place.{count_at, reached_of}
use Rattle.placing.specs.Rule.{reachable, first_fit, fits, go, again, later_ones, choices_from, placed_at, first_of, step_of}
use Rattle.placing.proofs.Walks.{first_append, first_pick_none, more_fits, more_none, step_start}
use Rattle.messages.specs.Tags.{UIT}
use Rattle.messages.specs.declared.MessageType.{MessageType}
use Rattle.messages.specs.declared.MessageType.TheVariants.{Skdupd, Tsdupd, Tsdupd12B}
use Rattle.placing.specs.Tables.{table_of}
use Rattle.placing.specs.Tables as tables
use Rattle.hints.specs.Kinds.{row_in, kind_in, last_in}
use Rattle.hints.specs.Told.{Told, More, Next, Silent, next_told, told_by, later_fit, passed, told_from, anew_from, hint_told, says_hint, agrees, hint_right, right_from, right}
use Rattle.hints.specs.Hints.{hints_of}
use Rattle.hints.specs.Hints as hints
use Rattle.hints.proofs.Right.{skdupd_right, tsdupd_right, tsdupd_12b_right}
use Rattle.hints.specs.Laws.{Stood, entered_in}

module _ (t : Table) (p : Place) where
  -- what is told comes true, if no number forbids it
  abbrev Meets : Told → Option Place → Type 0
  Meets (More row level r d) s = count_at p level < most t row → s ≡ Some (reached_of p level (count_at p level + 1) r (4 - d))
  Meets (Next level r d) s = s ≡ Some (reached_of p level 1 r (4 - d))
  Meets Silent s = Unit {0}

  -- the later places, `above` being what the levels above them come to
  next_meets : (level : ℕ) (x : Option Fit) (b : Bool) (up : Told) (above : Option Place) → Meets up above
      → Meets (next_told level x b up) (option_or (placed_at p level 1 x) (pick b above None))
  next_meets level (Some f) b up above m = refl
  next_meets level None true up above m = m
  next_meets level None false up above m = tt

  module _ (tag : ℕ) where
    or_placed : (level : ℕ) (x y : Option Fit) → option_or (placed_at p level 1 x) (placed_at p level 1 y) ≡ placed_at p level 1 (option_or x y)
    or_placed level (Some f) y = refl
    or_placed level None y = refl

    first_map : (level : ℕ) (l : List ℕ) → first_of t p tag (map (λ r. go r level 1) l) ≡ placed_at p level 1 (first_fit (fits (4 - level) t tag) l)
    unfolding first_of first_fit
    first_map level [] = refl
    first_map level (r ∷ l) = rw (first_map level l) (or_placed level (fits (4 - level) t tag r) (first_fit (fits (4 - level) t tag) l))

    none_more : (b : Bool) (x : Option Fit) (level : ℕ) → option_or (placed_at p level 1 x) None ≡ option_or (placed_at p level 1 x) (pick b None None)
    none_more true x level = refl
    none_more false x level = refl

    or_last : (s : Option Place) → option_or s None ≡ s
    or_last (Some q) = refl
    or_last None = refl

    -- the choices of a level: the same place again, the later places, and those above
    outermost : (row : ℕ) → first_of t p tag (choices_from 0 t p row)
        ≡ option_or (first_of t p tag (again t p 0 row)) (option_or (placed_at p 0 1 (later_fit 0 t tag row)) (pick (passed 0 t row) None None))
    unfolding choices_from later_ones
    outermost row =
        first_append t p tag (again t p 0 row) (map (λ r. go r 0 1) (reachable t (later t 0 row)))
        ∙ ap (λ x. option_or (first_of t p tag (again t p 0 row)) x)
        (first_map 0 (reachable t (later t 0 row)) ∙ sym (or_last (placed_at p 0 1 (later_fit 0 t tag row))) ∙ none_more (passed 0 t row) (later_fit 0 t tag row) 0)

    one_up : (level row : ℕ) → first_of t p tag (choices_from (suc level) t p row)
        ≡ option_or (first_of t p tag (again t p (suc level) row))
        (option_or (placed_at p (suc level) 1 (later_fit (suc level) t tag row)) (pick (passed (suc level) t row) (first_of t p tag (choices_from level t p (outer t row))) None))
    unfolding choices_from later_ones
    one_up level row = rw (first_append, first_append, first_map (suc level), first_pick_none)

    -- nothing is once more where the place does not fit
    not_again : (level row : ℕ) → None ≡ fits (4 - level) t tag row → first_of t p tag (again t p level row) ≡ None
    not_again level row e =
        elim (dec_lt (count_at p level) (most t row)) [
          | yes l ↦ more_fits t p tag level row (count_at p level) (most t row) (4 - level) None refl refl l refl e
          | no l ↦ more_none t p tag level row (count_at p level) (most t row) refl refl (omega arith)
        ]

    level_meets : (level row : ℕ) (f : Option Fit) → f ≡ fits (4 - level) t tag row → (x : Option Fit) (b : Bool) (up : Told) (above : Option Place) → Meets up above
        → Meets (told_by level row f x b up) (option_or (first_of t p tag (again t p level row)) (option_or (placed_at p level 1 x) (pick b above None)))
    level_meets level row (Some f) e x b up above m =
        λ l.
        let k = more_fits t p tag level row (count_at p level) (most t row) (4 - level) (Some f) refl refl l refl e in
        rw k
    level_meets level row None e x b up above m = rw (not_again level row e) (next_meets level x b up above m)

    told_meets : (level row : ℕ) → Meets (told_from level t tag row) (first_of t p tag (choices_from level t p row))
    unfolding told_from
    told_meets zero row = rw (outermost row) (level_meets 0 row (fits 4 t tag row) refl (later_fit 0 t tag row) (passed 0 t row) Silent None tt)
    told_meets (suc level) row =
        rw (one_up level row) (level_meets (suc level) row (fits (4 - suc level) t tag row) refl (later_fit (suc level) t tag row) (passed (suc level) t row)
        (told_from level t tag (outer t row)) (first_of t p tag (choices_from level t p (outer t row))) (told_meets level (outer t row)))

    anew_meets : (level row : ℕ) → most t row ≤ count_at p level → Meets (anew_from level t tag row) (first_of t p tag (choices_from level t p row))
    unfolding anew_from
    anew_meets zero row h =
        rw (outermost row, more_none t p tag 0 row (count_at p 0) (most t row) refl refl h)
        (next_meets 0 (later_fit 0 t tag row) (passed 0 t row) Silent None tt)
    anew_meets (suc level) row h =
        rw (one_up level row, more_none t p tag (suc level) row (count_at p (suc level)) (most t row) refl refl h)
        (next_meets (suc level) (later_fit (suc level) t tag row) (passed (suc level) t row) (told_from level t tag (outer t row)) (first_of t p tag (choices_from level t p (outer t row)))
        (told_meets level (outer t row)))

refuted : (b : Bool) → T (not b) → b ≡ false
refuted true h = absurd h
refuted false h = refl

-- once and not at all
once : (a n : ℕ) → a ≡ 1 → (m : ℕ) → m ≡ n → m ≡ a * n
once a n e m q = rw e (omega arith)

never : (a n : ℕ) → a ≡ 0 → 0 ≡ a * n
never a n e = rw e (omega arith)

module _ (t : Table) (p : Place) (h : ℕ) (s : Option Place) where
  -- the place that a hint says
  abbrev Said : ℕ → Type 0
  Said n = s ≡ Some (reached_of p (kind_in h).level n (row_in h) (last_in h))

  said_is : (level r d n : ℕ) → T (says_hint h level r d) → s ≡ Some (reached_of p level n r (4 - d)) → (level ≡ (kind_in h).level) × Said n
  said_is level r d n g q =
      let a = eqb-true level (kind_in h).level (holds _ (both_left (eqb level (kind_in h).level) (both (eqb r (row_in h)) (eqb (4 - d) (last_in h))) g)) in
      let k = both_right (eqb level (kind_in h).level) (both (eqb r (row_in h)) (eqb (4 - d) (last_in h))) g in
      let b = eqb-true r (row_in h) (holds _ (both_left (eqb r (row_in h)) (eqb (4 - d) (last_in h)) k)) in
      let c = eqb-true (4 - d) (last_in h) (holds _ (both_right (eqb r (row_in h)) (eqb (4 - d) (last_in h)) k)) in
      (a, q ∙ ap (λ x. Some (reached_of p level n r x)) c ∙ ap (λ x. Some (reached_of p level n x (last_in h))) b ∙ ap (λ x. Some (reached_of p x n (row_in h) (last_in h))) a)

  told_said : (x : Told) → T (agrees t h x) → Meets t p x s → entered_in p h < (kind_in h).number → Said (entered_in p h + 1)
  told_said (More row level r d) g m l =
      let e = eqb-true (kind_in h).again 1 (holds _ (both_left (eqb (kind_in h).again 1) (both (leb (kind_in h).number (most t row)) (says_hint h level r d)) g)) in
      let k = both_right (eqb (kind_in h).again 1) (both (leb (kind_in h).number (most t row)) (says_hint h level r d)) g in
      let w = leb-true (kind_in h).number (most t row) (holds _ (both_left (leb (kind_in h).number (most t row)) (says_hint h level r d) k)) in
      let y = both_right (leb (kind_in h).number (most t row)) (says_hint h level r d) k in
      let a = eqb-true level (kind_in h).level (holds _ (both_left (eqb level (kind_in h).level) (both (eqb r (row_in h)) (eqb (4 - d) (last_in h))) y)) in
      let o : count_at p level ≡ entered_in p h = once (kind_in h).again (count_at p (kind_in h).level) e (count_at p level) (ap (count_at p) a) in
      let v : count_at p level < most t row = omega arith in
      subst (λ x. Said (x + 1)) o (said_is level r d (count_at p level + 1) y (m v)).1
  told_said (Next level r d) g m l =
      let e = eqb-true (kind_in h).again 0 (holds _ (both_left (eqb (kind_in h).again 0) (says_hint h level r d) g)) in
      let y = both_right (eqb (kind_in h).again 0) (says_hint h level r d) g in
      let o : 0 ≡ entered_in p h = never (kind_in h).again (count_at p (kind_in h).level) e in
      subst (λ x. Said (x + 1)) o (said_is level r d 1 y m).1
  told_said Silent g m l = absurd g

-- what is told of a row that has come
behind_meets : (t : Table) (p : Place) (tag : ℕ) → Stood t p → Meets t p (hint_told t tag p.row) (step_of t p tag)
behind_meets t p tag w =
    choose (ltb 1 (most t p.row))
    (λ b. rw (b, sym (step_start t p tag (level_of t p.row) refl)) (told_meets t p tag (level_of t p.row) p.row))
    (λ b.
    let l = ltb-false 1 (most t p.row) b in
    rw (b, sym (step_start t p tag (level_of t p.row) refl)) (anew_meets t p tag (level_of t p.row) p.row (omega arith)))

-- A right hint that its number allows: the step to its row, which stands at the level of its last count; never for UIT.
module _ (t : Table) (p : Place) (h : ℕ) (g : T (hint_right t p.row h)) where
  abbrev parts : Bool
  parts = both (agrees t h (hint_told t (tag_at t (row_in h)) p.row)) (both (eqb (level_of t (row_in h)) (last_in h)) (not (eqb (tag_at t (row_in h)) UIT)))

  pub hint_row : row_in h < rows t
  unfolding hint_right
  hint_row = ltb-true (row_in h) (rows t) (holds _ (both_left (ltb (row_in h) (rows t)) (either (eqb (h % 32) 0) parts) g))

  module _ (z : h % 32 ≡ 0 → ⊥) where
    right_parts : T parts
    unfolding hint_right
    right_parts = other (eqb (h % 32) 0) (both_right (ltb (row_in h) (rows t)) (either (eqb (h % 32) 0) parts) g) (λ q. z (eqb-true (h % 32) 0 q))
      where
        other : (b : Bool) → T (either b parts) → (b ≡ true → ⊥) → T parts
        other true q n = absurd (n refl)
        other false q n = q

    pub hint_step : Stood t p → entered_in p h < (kind_in h).number
        → step_of t p (tag_at t (row_in h)) ≡ Some (reached_of p (kind_in h).level (entered_in p h + 1) (row_in h) (last_in h))
    hint_step w l =
        told_said t p h (step_of t p (tag_at t (row_in h))) (hint_told t (tag_at t (row_in h)) p.row)
        (both_left (agrees t h (hint_told t (tag_at t (row_in h)) p.row)) (both (eqb (level_of t (row_in h)) (last_in h)) (not (eqb (tag_at t (row_in h)) UIT))) right_parts)
        (behind_meets t p (tag_at t (row_in h)) w) l

    pub hint_level : level_of t (row_in h) ≡ last_in h
    hint_level =
        eqb-true (level_of t (row_in h)) (last_in h) (holds _ (both_left (eqb (level_of t (row_in h)) (last_in h)) (not (eqb (tag_at t (row_in h)) UIT))
        (both_right (agrees t h (hint_told t (tag_at t (row_in h)) p.row)) (both (eqb (level_of t (row_in h)) (last_in h)) (not (eqb (tag_at t (row_in h)) UIT))) right_parts)))

    pub hint_inside : tag_at t (row_in h) ≡ UIT → ⊥
    hint_inside =
        eqb-false (tag_at t (row_in h)) UIT (refuted _ (both_right (eqb (level_of t (row_in h)) (last_in h)) (not (eqb (tag_at t (row_in h)) UIT))
        (both_right (agrees t h (hint_told t (tag_at t (row_in h)) p.row)) (both (eqb (level_of t (row_in h)) (last_in h)) (not (eqb (tag_at t (row_in h)) UIT))) right_parts)))

-- Each of the hints is right

module _ (t : Table) (z : 0 < rows t) where
  none_right : (row : ℕ) → T (hint_right t row 0)
  unfolding hint_right
  none_right row = rw (lt-ltb 0 (rows t) z) tt

  row_right : (row : ℕ) (l : List ℕ) → T (all (hint_right t row) l) → (j : ℕ) → T (hint_right t row (get_or l j 0))
  row_right row [] g zero = none_right row
  row_right row [] g (suc j) = none_right row
  row_right row (h ∷ l) g zero = both_left (hint_right t row h) (all (hint_right t row) l) g
  row_right row (h ∷ l) g (suc j) = row_right row l (both_right (hint_right t row h) (all (hint_right t row) l) g) j

  rows_right : (i : ℕ) (l : List (List ℕ)) → T (right_from t i l) → (k j : ℕ) → T (hint_right t (i + k) (get_or (get_or l k []) j 0))
  unfolding right_from
  rows_right i [] g zero j = row_right (i + 0) [] tt j
  rows_right i [] g (suc k) j = row_right (i + suc k) [] tt j
  rows_right i (r ∷ l) g zero j = rw (add-zero i) (row_right i r (both_left (all (hint_right t i) r) (right_from t (suc i) l) g) j)
  rows_right i (r ∷ l) g (suc k) j =
      let z : i + suc k ≡ suc i + k = omega arith in
      rw z (rows_right (suc i) l (both_right (all (hint_right t i) r) (right_from t (suc i) l) g) k j)

pub each_right : (t : Table) (l : List (List ℕ)) → T (right t l) → (row j : ℕ) → T (hint_right t row (get_or (get_or l row []) j 0))
each_right t l g row j =
    let z = ltb-true 0 (rows t) (holds _ (both_left (ltb 0 (rows t)) (right_from t 0 l) g)) in
    subst (λ x. T (hint_right t x (get_or (get_or l row []) j 0))) (zero-add row) (rows_right t z 0 l (both_right (ltb 0 (rows t)) (right_from t 0 l) g) row j)

-- a type's own hints are right for its own table, and as many
pub own_right : (message : MessageType) → T (right (table_of message) (hints_of message))
own_right Skdupd = rw (tables.skdupd_own, hints.skdupd_own) skdupd_right
own_right Tsdupd = rw (tables.tsdupd_own, hints.tsdupd_own) tsdupd_right
own_right Tsdupd12B = rw (tables.tsdupd_12b_own, hints.tsdupd_12b_own) tsdupd_12b_right
