-- The placing rule as the proofs here go by it: the place reached as what is still to come at each open level, and the ways on from it. Assumes nothing.
use Rattle.std.specs.Prelude.{◌≡◌, refl, Bool, true, false, List, [], ◌∷◌, ℕ, zero, suc, ◌+◌, ◌-◌, ◌≤◌, ◌<◌, T, eqb, ltb}
use Rattle.std.proofs.Common.{sym, ◌∙◌, ap, arith, eqb-true, eq-eqb, ne_eqb, ltb-true, lt-ltb}
use Rattle.laws.specs.Choice.{pick, both, either, choose, either_true}
use Rattle.placing.specs.Table.{Table, rows, tag_at, is_group, conditional, most, after_of, places_on, places, held}
use Rattle.placing.proofs.Walks.{places_step}
use Rattle.placing.specs.WellFormed.{well_formed}
use Rattle.placing.proofs.Formed.{trigger, trigger_in}
use Rattle.one_way.specs.Arrangement.{Where, outermost}
use Rattle.one_way.specs.Test.{fitting_tag}

-- for each open level, the innermost first, the rows from the place reached on, and how often that place came
pub data Reach : Type 0 where
  outside : Reach
  level : List ℕ → ℕ → Reach → Reach

-- which place and which time, at each level
unfoldable pub path : Reach → Where
path outside = []
path (level [] n r) = path r
path (level (row ∷ l) n r) = (row, n) ∷ path r

-- a way on: the tag that fits, and the place reached by it
pub data Way : Type 0 where
  to : ℕ → Reach → Way

abbrev pub more : Bool → Way → List Way → List Way
more b c l = pick b (c ∷ l) l

-- how many of the ways a tag fits, and the first of them
unfoldable pub fitting : ℕ → List Way → ℕ
fitting x [] = 0
fitting x (to tag r ∷ l) = pick (eqb x tag) (suc (fitting x l)) (fitting x l)

pub data Found : Type 0 where
  at : Reach → Found
  nowhere : Found

unfoldable pub first_fit : ℕ → List Way → Found
first_fit x [] = nowhere
first_fit x (to tag r ∷ l) = pick (eqb x tag) (at r) (first_fit x l)

-- a place that came n times may be left
abbrev pub may_pass : Table → ℕ → ℕ → Bool
may_pass t row n = either (conditional t row) (ltb 0 n)

-- a place entered once more; of a group the trigger is reached
abbrev pub entered : Table → ℕ → List ℕ → ℕ → Reach → Reach
entered t row l n r = pick (is_group t row) (level (held t row) 1 (level (row ∷ l) (suc n) r)) (level (row ∷ l) (suc n) r)

-- the ways on at one level; `up` are those above it, where no mandatory place is left empty
unfoldable pub ways_in : Table → List ℕ → ℕ → Reach → List Way → List Way
ways_in t [] n r up = up
ways_in t (row ∷ l) n r up =
    more (ltb n (most t row)) (to (fitting_tag t row) (entered t row l n r)) (pick (may_pass t row n) (ways_in t l 0 r up) [])

unfoldable pub ways : Table → Reach → List Way
ways t outside = []
ways t (level l n r) = ways_in t l n r (ways t r)

-- before the first segment
abbrev pub start : Table → Reach
start t = level (outermost t) 0 outside

-- no mandatory place is left empty
unfoldable pub ends_in : Table → List ℕ → ℕ → Bool
ends_in t [] n = true
ends_in t (row ∷ l) n = both (may_pass t row n) (ends_in t l 0)

unfoldable pub may_end : Table → Reach → Bool
may_end t outside = true
may_end t (level l n r) = both (ends_in t l n) (may_end t r)

-- where each segment goes
pub data Going : Type 0 where
  placed : List Where → Going
  refused : Going

abbrev pub behind : Where → Going → Going
behind p (placed l) = placed (p ∷ l)
behind p refused = refused

abbrev pub onward : (Reach → Going) → Found → Going
onward f (at r) = behind (path r) (f r)
onward f nowhere = refused

unfoldable pub put : Table → Reach → List ℕ → Going
put t r [] = pick (may_end t r) (placed []) refused
put t r (x ∷ w) = onward (λ q. put t q w) (first_fit x (ways t r))

-- Laws

pub placed_parts : (p : Where) (a : Going) (l : List Where) → behind p a ≡ placed l → (m : List Where) × (a ≡ placed m) × (l ≡ p ∷ m)
placed_parts p (placed m) l e = (m, refl, cc)
placed_parts p refused l e = let z : ◌≡◌ {A = ℕ} 0 1 = cc in absurd (omega arith)

pub fit_some : (x : ℕ) (q : Reach) (l : List Way) → first_fit x l ≡ at q → 1 ≤ fitting x l
unfolding first_fit fitting
fit_some x q [] e = let z : ◌≡◌ {A = ℕ} 0 1 = cc in absurd (omega arith)
fit_some x q (to tag r ∷ l) e = choose (eqb x tag) (λ p. rw p (omega arith)) (λ p. rw p (fit_some x q l (rw p at e)))

pub fit_first : (x tag : ℕ) (r : Reach) (l : List Way) → x ≡ tag → first_fit x (to tag r ∷ l) ≡ at r
unfolding first_fit
fit_first x tag r l e = rw (eq-eqb x tag e)

-- the first way alone and before others
pub fit_alone : (x tag : ℕ) (r : Reach) (l : List Way) → 1 ≤ fitting x (to tag r ∷ []) → (x ≡ tag) × (1 ≤ fitting x (to tag r ∷ l))
unfolding fitting
fit_alone x tag r l h =
    choose (eqb x tag) (λ p. (eqb-true x tag p, rw p (omega arith))) (λ p. absurd (let w = rw p at h in omega arith))

pub alone_fits : (x tag : ℕ) (r : Reach) → fitting x (to tag r ∷ []) ≤ 1
unfolding fitting
alone_fits x tag r = choose (eqb x tag) (λ p. rw p (omega arith)) (λ p. rw p (omega arith))

pub more_fitting : (x : ℕ) (b : Bool) (c : Way) (l : List Way) → fitting x l ≤ fitting x (more b c l)
unfolding fitting
more_fitting x true (to tag r) l = choose (eqb x tag) (λ p. rw p (omega arith)) (λ p. rw p (omega arith))
more_fitting x false c l = omega arith

-- a tag that fits a later way does not fit the first, where it fits one at most
pub fit_later : (x : ℕ) (b : Bool) (c : Way) (l : List Way) → fitting x (more b c l) ≤ 1 → 1 ≤ fitting x l → first_fit x (more b c l) ≡ first_fit x l
unfolding first_fit fitting
fit_later x true (to tag r) l h k = choose (eqb x tag) (λ p. absurd (let w = rw p at h in omega arith)) (λ p. rw p)
fit_later x false c l h k = refl

pub not_both : (x tag : ℕ) (r : Reach) (l : List Way) → x ≡ tag → fitting x (to tag r ∷ l) ≤ 1 → 1 ≤ fitting x l → ⊥
unfolding fitting
not_both x tag r l e h k = let w = rw (eq-eqb x tag e) at h in omega arith

-- a place that came may be left
pub pass_some : (t : Table) (row n : ℕ) → 1 ≤ n → may_pass t row n ≡ true
pass_some t row n h = rw (lt-ltb 0 n h) (either_true (conditional t row))

-- The ways on from a place

module _ (t : Table) (row : ℕ) (l : List ℕ) (n : ℕ) (r : Reach) where
  -- at a place that came n times, past it, and inside it, where it is a group, before its trigger
  abbrev pub here : Reach
  here = level (row ∷ l) n r

  abbrev pub passed : Reach
  passed = level l 0 r

  abbrev pub inner : Reach
  inner = level (held t row) 0 (level (row ∷ l) (suc n) r)

  abbrev pub way_in : Way
  way_in = to (fitting_tag t row) (entered t row l n r)

  pub ways_pass : may_pass t row n ≡ true → ways t here ≡ more (ltb n (most t row)) way_in (ways t passed)
  unfolding ways ways_in
  ways_pass p = rw p

  pub ways_again : ltb n (most t row) ≡ true → ways t here ≡ way_in ∷ pick (may_pass t row n) (ways t passed) []
  unfolding ways ways_in
  ways_again p = rw p

  pub tag_segment : is_group t row ≡ false → fitting_tag t row ≡ tag_at t row
  tag_segment p = rw p

  pub entered_segment : is_group t row ≡ false → entered t row l n r ≡ level (row ∷ l) (suc n) r
  entered_segment p = rw p

-- Every row that a level names is one of the table's

abbrev pub InTable : Table → List ℕ → Type 0
InTable t [] = Unit {0}
InTable t (row ∷ l) = (row < rows t) × InTable t l

abbrev pub Sane : Table → Reach → Type 0
Sane t outside = Unit {0}
Sane t (level l n r) = InTable t l × Sane t r

places_by : (t : Table) (row : ℕ) (l : List ℕ) → InTable t l → (b c : Bool) → ltb row (rows t) ≡ c → InTable t (pick b (pick c (row ∷ l) []) [])
places_by t row l h true true e = (ltb-true row (rows t) e, h)
places_by t row l h true false e = tt
places_by t row l h false c e = tt

pub places_in : (n : ℕ) (t : Table) (row end : ℕ) → InTable t (places_on n t row end)
unfolding places_on
places_in zero t row end = tt
places_in (suc n) t row end =
    places_by t row (places_on n t (after_of t row) end) (places_in n t (after_of t row) end) (ltb row end) (ltb row (rows t)) refl

pub held_in : (t : Table) (row : ℕ) → InTable t (held t row)
held_in t row = places_in (after_of t row - (row + 1)) t (row + 1) (after_of t row)

-- From before a mandatory segment, such as a group's trigger, there is one way on

single : (t : Table) (row : ℕ) (l : List ℕ) (r : Reach) → is_group t row ≡ false → conditional t row ≡ false → 1 ≤ most t row
    → ways t (level (row ∷ l) 0 r) ≡ to (tag_at t row) (level (row ∷ l) 1 r) ∷ []
unfolding ways ways_in
single t row l r g c m = rw (g, c, lt-ltb 0 (most t row) m)

module _ (t : Table) (good : T (well_formed t)) (row : ℕ) (h : row < rows t) (g : is_group t row ≡ true) where
  abbrev rest : List ℕ
  rest = places t (after_of t (row + 1)) (after_of t row)

  pub held_trigger : held t row ≡ (row + 1) ∷ rest
  held_trigger = let w = trigger_in t good row h (eqb-true (tag_at t row) 0 g) in places_step t (row + 1) (after_of t row) w.0 w.1

  pub ways_inner : (l : List ℕ) (n : ℕ) (r : Reach) → ways t (inner t row l n r) ≡ way_in t row l n r ∷ []
  ways_inner l n r =
      let w = trigger t good row h (eqb-true (tag_at t row) 0 g) in
      let up = level (row ∷ l) (suc n) r in
      ap (λ k. ways t (level k 0 up)) held_trigger
      ∙ single t (row + 1) rest up (ne_eqb (tag_at t (row + 1)) 0 w.segment) w.mandatory (omega (arith, w.once))
      ∙ ap (λ k. to (tag_at t (row + 1)) (level k 1 up) ∷ []) (sym held_trigger)
      ∙ sym (ap (λ b. to (pick b (tag_at t (row + 1)) (tag_at t row)) (pick b (level (held t row) 1 up) up) ∷ []) g)
