-- What is left of an arrangement at a place reached, level by level. Assumes nothing.
use Rattle.std.specs.Prelude.{◌≡◌, refl, true, false, not, List, [], ◌∷◌, ◌++◌, ℕ, suc, ◌+◌, ◌≤◌, eqb, ltb, leb}
use Rattle.std.proofs.Common.{sym, ◌∙◌, ap, append_assoc, arith}
use borrow.Author.Tests.{eqb-true, lt-ltb, le-leb, ltb-true, leb-true, not-true}
use Rattle.laws.specs.Choice.{both, both_parts, false≢true}
use Rattle.placing.specs.Table.{Table, tag_at, is_group, most, held}
use Rattle.one_way.specs.Arrangement.{Standing, segment, group, Times, nothing, ◌&◌, Arrangement, end, ◌▸◌, times_of, may_stand, stands_at, all_stand, is_arranged, tags_all, tags_of, Where, where_all, where_in}
use Rattle.one_way.proofs.Reach.{Reach, outside, level, path, may_pass, pass_some}

-- what is left at a place that came n times already
abbrev pub Fills : Times → Table → ℕ → ℕ → Type 0
Fills nothing t row n = may_pass t row n ≡ true
Fills (s & ts) t row n = (ltb n (most t row) ≡ true) × (stands_at s t row ≡ true) × Fills ts t row (suc n)

-- and at the places of a level, the first of which came n times already
abbrev pub LeftIn : Arrangement → Table → List ℕ → ℕ → Type 0
LeftIn end t [] n = Unit {0}
LeftIn end t (row ∷ l) n = ⊥
LeftIn (ts ▸ a) t [] n = ⊥
LeftIn (ts ▸ a) t (row ∷ l) n = Fills ts t row n × LeftIn a t l 0

-- one arrangement for each open level
abbrev pub Left : Table → Reach → List Arrangement → Type 0
Left t outside [] = Unit {0}
Left t outside (a ∷ l) = ⊥
Left t (level rows n r) [] = ⊥
Left t (level rows n r) (a ∷ l) = LeftIn a t rows n × Left t r l

unfoldable pub tags_left : List Arrangement → List ℕ
tags_left [] = []
tags_left (a ∷ l) = tags_of a ++ tags_left l

abbrev pub where_from : Arrangement → Table → List ℕ → ℕ → Where → List Where
where_from end t l n up = []
where_from (ts ▸ a) t [] n up = []
where_from (ts ▸ a) t (row ∷ l) n up = where_all ts t row (suc n) up ++ where_in a t l up

unfoldable pub where_left : Table → Reach → List Arrangement → List Where
where_left t outside l = []
where_left t (level rows n r) [] = []
where_left t (level rows n r) (a ∷ l) = where_from a t rows n (path r) ++ where_left t r l

-- A law of what is left is proved move by move: an end, a place passed, a segment taken, a group entered

module _ (P : List Arrangement → Type 0)
    (on-end : (l : List Arrangement) → P l → P (end ∷ l))
    (on-next : (a : Arrangement) (l : List Arrangement) → P (a ∷ l) → P ((nothing ▸ a) ∷ l))
    (on-segment : (x : ℕ) (ts : Times) (a : Arrangement) (l : List Arrangement) → P ((ts ▸ a) ∷ l) → P ((segment x & ts ▸ a) ∷ l))
    (on-group : (b : Arrangement) (ts : Times) (a : Arrangement) (l : List Arrangement) → P (b ∷ (ts ▸ a) ∷ l) → P ((group b & ts ▸ a) ∷ l)) where
  mutual
    onto : (a : Arrangement) (l : List Arrangement) → P l → P (a ∷ l)
    onto end l p = on-end l p
    onto (ts ▸ a) l p = onto_times ts a l (onto a l p)

    onto_times : (ts : Times) (a : Arrangement) (l : List Arrangement) → P (a ∷ l) → P ((ts ▸ a) ∷ l)
    onto_times nothing a l p = on-next a l p
    onto_times (s & ts) a l p = onto_standing s ts a l (onto_times ts a l p)

    onto_standing : (s : Standing) (ts : Times) (a : Arrangement) (l : List Arrangement) → P ((ts ▸ a) ∷ l) → P ((s & ts ▸ a) ∷ l)
    onto_standing (segment x) ts a l p = on-segment x ts a l p
    onto_standing (group b) ts a l p = on-group b ts a l (onto b ((ts ▸ a) ∷ l) p)

  pub by_moves : P [] → (l : List Arrangement) → P l
  by_moves p [] = p
  by_moves p (a ∷ l) = onto a l (by_moves p l)

-- What a move takes from the tags and the places

pub tags_group : (b : Arrangement) (ts : Times) (a : Arrangement) (l : List Arrangement) → tags_left ((group b & ts ▸ a) ∷ l) ≡ tags_left (b ∷ (ts ▸ a) ∷ l)
unfolding tags_of tags_left
tags_group b ts a l =
    ap (λ m. m ++ tags_left l) (append_assoc (tags_of b) (tags_all ts) (tags_of a)) ∙ append_assoc (tags_of b) (tags_all ts ++ tags_of a) (tags_left l)

pub where_from_lem : (a : Arrangement) (t : Table) (l : List ℕ) (up : Where) → where_from a t l 0 up ≡ where_in a t l up
unfolding where_in
where_from_lem end t l up = refl
where_from_lem (ts ▸ a) t [] up = refl
where_from_lem (ts ▸ a) t (row ∷ l) up = refl

pub where_next : (t : Table) (row : ℕ) (l : List ℕ) (n : ℕ) (r : Reach) (a : Arrangement) (m : List Arrangement)
    → where_left t (level l 0 r) (a ∷ m) ≡ where_left t (level (row ∷ l) n r) ((nothing ▸ a) ∷ m)
unfolding where_left where_in
where_next t row l n r a m = ap (λ x. x ++ where_left t r m) (where_from_lem a t l (path r))

pub where_group : (t : Table) (row : ℕ) (rows : List ℕ) (n : ℕ) (r : Reach) (b : Arrangement) (ts : Times) (a : Arrangement) (l : List Arrangement)
    → where_left t (level (row ∷ rows) n r) ((group b & ts ▸ a) ∷ l) ≡ where_left t (level (held t row) 0 (level (row ∷ rows) (suc n) r)) (b ∷ (ts ▸ a) ∷ l)
unfolding where_in where_left path
where_group t row rows n r b ts a l =
    let w = where_in b t (held t row) ((row, suc n) ∷ path r) in
    let u = where_all ts t row (suc (suc n)) (path r) in
    ap (λ m. m ++ where_left t r l) (append_assoc w u (where_in a t rows (path r)))
    ∙ append_assoc w (u ++ where_in a t rows (path r)) (where_left t r l)
    ∙ ap (λ m. m ++ ((u ++ where_in a t rows (path r)) ++ where_left t r l)) (sym (where_from_lem b t (held t row) ((row, suc n) ∷ path r)))

-- What stands at a row

module _ (t : Table) (row : ℕ) where
  pub segment_at_lem : (x : ℕ) → stands_at (segment x) t row ≡ true → (is_group t row ≡ false) × (x ≡ tag_at t row)
  unfolding stands_at
  segment_at_lem x e = let p = both_parts (not (is_group t row)) (eqb x (tag_at t row)) e in (not-true (is_group t row) p.0, eqb-true x (tag_at t row) p.1)

  pub group_at : (b : Arrangement) → stands_at (group b) t row ≡ true → (is_group t row ≡ true) × (is_arranged b t (held t row) ≡ true)
  unfolding stands_at
  group_at b e = both_parts (is_group t row) (is_arranged b t (held t row)) e

-- A whole arrangement is what is left where nothing came

fills : (ts : Times) (t : Table) (row n : ℕ) → n + times_of ts ≤ most t row → may_pass t row (n + times_of ts) ≡ true → all_stand ts t row ≡ true → Fills ts t row n
unfolding times_of all_stand
fills nothing t row n h p e = let z : n ≡ n + 0 = omega arith in ap (may_pass t row) z ∙ p
fills (s & ts) t row n h p e =
    let w = both_parts (stands_at s t row) (all_stand ts t row) e in
    (lt-ltb n (most t row) (omega arith), w.0, fills ts t row (suc n) (omega arith) (pass_some t row (suc n + times_of ts) (omega arith)) w.1)

filled : (ts : Times) (t : Table) (row n : ℕ) → n ≤ most t row → Fills ts t row n
    → (n + times_of ts ≤ most t row) × (may_pass t row (n + times_of ts) ≡ true) × (all_stand ts t row ≡ true)
unfolding times_of all_stand
filled nothing t row n h f = let z : n + 0 ≡ n = omega arith in (omega arith, ap (may_pass t row) z ∙ f, refl)
filled (s & ts) t row n h f =
    let m = ltb-true n (most t row) f.0 in
    let w = filled ts t row (suc n) (omega arith) f.2 in
    (omega (arith, w.0), pass_some t row (n + suc (times_of ts)) (omega arith), rw f.1 w.2)

may_parts : (t : Table) (row n : ℕ) → may_stand t row n ≡ true → (n ≤ most t row) × (may_pass t row n ≡ true)
may_parts t row n e = let p = both_parts (leb n (most t row)) (may_pass t row n) e in (leb-true n (most t row) p.0, p.1)

may_both : (t : Table) (row n : ℕ) → n ≤ most t row → may_pass t row n ≡ true → may_stand t row n ≡ true
may_both t row n h e = rw (le-leb n (most t row) h) e

pub to_left : (a : Arrangement) (t : Table) (l : List ℕ) → is_arranged a t l ≡ true → LeftIn a t l 0
unfolding is_arranged
to_left end t [] e = tt
to_left end t (row ∷ l) e = absurd (false≢true e)
to_left (ts ▸ a) t [] e = absurd (false≢true e)
to_left (ts ▸ a) t (row ∷ l) e =
    let p = both_parts (may_stand t row (times_of ts)) (both (all_stand ts t row) (is_arranged a t l)) e in
    let m = may_parts t row (times_of ts) p.0 in
    let s = both_parts (all_stand ts t row) (is_arranged a t l) p.1 in
    let z : 0 + times_of ts ≡ times_of ts = omega arith in
    (fills ts t row 0 (omega (arith, m.0)) (ap (may_pass t row) z ∙ m.1) s.0, to_left a t l s.1)

pub from_left : (a : Arrangement) (t : Table) (l : List ℕ) → LeftIn a t l 0 → is_arranged a t l ≡ true
unfolding is_arranged
from_left end t [] f = refl
from_left end t (row ∷ l) f = absurd f
from_left (ts ▸ a) t [] f = absurd f
from_left (ts ▸ a) t (row ∷ l) f =
    let w = filled ts t row 0 (omega arith) f.0 in
    let z : times_of ts ≡ 0 + times_of ts = omega arith in
    let m = may_both t row (times_of ts) (omega (arith, w.0)) (ap (may_pass t row) z ∙ w.1) in
    ap (λ b. both b (both (all_stand ts t row) (is_arranged a t l))) m
    ∙ ap (λ b. both b (is_arranged a t l)) w.2
    ∙ from_left a t l f.1
