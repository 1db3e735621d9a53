-- Whatever the ways lead through can be arranged so, in any table that is well formed. Assumes nothing.
use Rattle.std.proofs.Math.Path.{◌≡◌, refl, sym, ap, subst, subst⁻¹}
use Rattle.std.proofs.Common.{◌∙◌, arith}
use Rattle.std.specs.Prelude.{Bool, not, T, eqb, ltb}
use Rattle.std.proofs.Math.Bool.{true, false}
use mathlib.Core.List.{List, [], ◌∷◌}
use Prim.Native.Nat.{ℕ, suc, ◌+◌}
use borrow.Author.Tests.{eqb-true, eq-eqb, ne_eqb}
use Rattle.laws.specs.Choice.{pick, both, choose, both_parts}
use Rattle.placing.specs.Table.{Table, tag_at, is_group, most, after_of, places, held}
use Rattle.placing.specs.WellFormed.{well_formed}
use Rattle.placing.proofs.Formed.{trigger}
use Rattle.one_way.specs.Arrangement.{segment, group, nothing, ◌&◌, Arrangement, end, ◌▸◌, stands_at, is_arranged, tags_of, Where, where_in}
use Rattle.one_way.specs.Test.{fitting_tag}
use Rattle.one_way.proofs.Reach.{Reach, outside, level, path, Way, to, more, Found, at, nowhere, first_fit, may_pass, entered, ways, ways_in, ends_in, may_end, placed, refused, onward, put, placed_parts, here, passed, inner, Sane, held_in, held_trigger}
use Rattle.one_way.proofs.Left.{Left, tags_left, where_left, where_next, tags_group, where_group, from_left}

-- what is left may be arranged so that these are its tags and its places
pub record Has (t : Table) (r : Reach) (w : List ℕ) (p : List Where) : Type 0 where
  pub by : List Arrangement
  pub fits : Left t r by
  pub reads : tags_left by ≡ w
  pub stands : where_left t r by ≡ p

module _ (t : Table) where
  has_end : (n : ℕ) (r : Reach) (w : List ℕ) (p : List Where) → Has t r w p → Has t (level [] n r) w p
  unfolding tags_of tags_left where_left
  has_end n r w p h = record { by = end ∷ h.by; fits = (tt, h.fits); reads = h.reads; stands = h.stands }

  module _ (row : ℕ) (l : List ℕ) (n : ℕ) (r : Reach) (w : List ℕ) (p : List Where) where
    next_by : may_pass t row n ≡ true → (m : List Arrangement) → Left t (passed t row l n r) m → tags_left m ≡ w → where_left t (passed t row l n r) m ≡ p
        → Has t (here t row l n r) w p
    unfolding tags_of tags_left
    next_by e [] f d s = absurd f
    next_by e (a ∷ m) f d s =
        record { by = (nothing ▸ a) ∷ m; fits = ((e, f.0), f.1); reads = d; stands = sym (where_next t row l n r a m) ∙ s }

    has_next : may_pass t row n ≡ true → Has t (passed t row l n r) w p → Has t (here t row l n r) w p
    has_next e h = next_by e h.by h.fits h.reads h.stands

    segment_by : ltb n (most t row) ≡ true → is_group t row ≡ false → (m : List Arrangement) → Left t (level (row ∷ l) (suc n) r) m → tags_left m ≡ w
        → where_left t (level (row ∷ l) (suc n) r) m ≡ p → Has t (here t row l n r) (tag_at t row ∷ w) (((row, suc n) ∷ path r) ∷ p)
    unfolding stands_at tags_of tags_left where_in where_left
    segment_by e g [] f d s = absurd f
    segment_by e g (end ∷ m) f d s = absurd f.0
    segment_by e g ((ts ▸ a) ∷ m) f d s =
        let q : both (not (is_group t row)) (eqb (tag_at t row) (tag_at t row)) ≡ true = rw (g, eq-eqb (tag_at t row) (tag_at t row) refl) in
        record {
          by = (segment (tag_at t row) & ts ▸ a) ∷ m;
          fits = (((e, q, f.0.0), f.0.1), f.1);
          reads = ap (λ x. tag_at t row ∷ x) d;
          stands = ap (λ x. ((row, suc n) ∷ path r) ∷ x) s;
        }

    has_segment : ltb n (most t row) ≡ true → is_group t row ≡ false → Has t (level (row ∷ l) (suc n) r) w p
        → Has t (here t row l n r) (tag_at t row ∷ w) (((row, suc n) ∷ path r) ∷ p)
    has_segment e g h = segment_by e g h.by h.fits h.reads h.stands

    group_by : ltb n (most t row) ≡ true → is_group t row ≡ true → (m : List Arrangement) → Left t (inner t row l n r) m → tags_left m ≡ w
        → where_left t (inner t row l n r) m ≡ p → Has t (here t row l n r) w p
    unfolding stands_at
    group_by e g [] f d s = absurd f
    group_by e g (b ∷ []) f d s = absurd f.1
    group_by e g (b ∷ end ∷ m) f d s = absurd f.1.0
    group_by e g (b ∷ (ts ▸ a) ∷ m) f d s =
        let q : both (is_group t row) (is_arranged b t (held t row)) ≡ true = rw (g, from_left b t (held t row) f.0) in
        record {
          by = (group b & ts ▸ a) ∷ m;
          fits = (((e, q, f.1.0.0), f.1.0.1), f.1.1);
          reads = tags_group b ts a m ∙ d;
          stands = where_group t row l n r b ts a m ∙ s;
        }

    has_group : ltb n (most t row) ≡ true → is_group t row ≡ true → Has t (inner t row l n r) w p → Has t (here t row l n r) w p
    has_group e g h = group_by e g h.by h.fits h.reads h.stands

  -- where nothing is owed, what is left may be empty

  ends_in_lem : (l : List ℕ) (n : ℕ) (r : Reach) → ends_in t l n ≡ true → Has t r [] [] → Has t (level l n r) [] []
  unfolding ends_in
  ends_in_lem [] n r e h = has_end n r [] [] h
  ends_in_lem (row ∷ l) n r e h =
      let p = both_parts (may_pass t row n) (ends_in t l 0) e in
      has_next row l n r [] [] p.0 (ends_in_lem l 0 r p.1 h)

  ends : (r : Reach) → may_end t r ≡ true → Has t r [] []
  unfolding may_end tags_left where_left
  ends outside e = record { by = []; fits = tt; reads = refl; stands = refl }
  ends (level l n r) e = let p = both_parts (ends_in t l n) (may_end t r) e in ends_in_lem l n r p.0 (ends r p.1)

-- a way leads to what may be arranged with its segment in front

module _ (t : Table) (good : T (well_formed t)) where
  -- the way leads to rows of the table, and whatever is arranged from there is arranged from here
  abbrev Back : Reach → ℕ → Reach → Type 0
  Back r x q = Sane t q × ((w : List ℕ) (p : List Where) → Has t q w p → Has t r (x ∷ w) (path q ∷ p))

  abbrev Backs : Reach → List Way → Type 0
  Backs r [] = Unit {0}
  Backs r (to x q ∷ l) = Back r x q × Backs r l

  backs_of : (r s : Reach) → ((w : List ℕ) (p : List Where) → Has t r w p → Has t s w p) → (l : List Way) → Backs r l → Backs s l
  backs_of r s f [] h = tt
  backs_of r s f (to x q ∷ l) h = ((h.0.0, λ w p g. f (x ∷ w) (path q ∷ p) (h.0.1 w p g)), backs_of r s f l h.1)

  backs_more : (b : Bool) (r : Reach) (x : ℕ) (q : Reach) (l : List Way) → (b ≡ true → Back r x q) → Backs r l → Backs r (more b (to x q) l)
  backs_more true r x q l f h = (f refl, h)
  backs_more false r x q l f h = h

  backs_pick : (b : Bool) (r : Reach) (l : List Way) → (b ≡ true → Backs r l) → Backs r (pick b l [])
  backs_pick true r l f = f refl
  backs_pick false r l f = tt

  module _ (row : ℕ) (l : List ℕ) (n : ℕ) (r : Reach) (s : Sane t (here t row l n r)) (e : ltb n (most t row) ≡ true) where
    trigger_back : is_group t row ≡ true → (w : List ℕ) (p : List Where) → Has t (level (held t row) 1 (level (row ∷ l) (suc n) r)) w p
        → Has t (here t row l n r) (tag_at t (row + 1) ∷ w) (path (level (held t row) 1 (level (row ∷ l) (suc n) r)) ∷ p)
    unfolding path
    trigger_back g w p k =
        let f = trigger t good row s.0.0 (eqb-true (tag_at t row) 0 g) in
        let up = level (row ∷ l) (suc n) r in
        let rest = places t (after_of t (row + 1)) (after_of t row) in
        let z = held_trigger t good row s.0.0 g in
        let stands : Where = (row + 1, 1) ∷ path up in
        let u : Has t (level ((row + 1) ∷ rest) 1 up) w p = subst (λ x. Has t (level x 1 up) w p) z k in
        let v : Has t (level ((row + 1) ∷ rest) 0 up) (tag_at t (row + 1) ∷ w) (stands ∷ p)
        = has_segment t (row + 1) rest 0 up w p (rw f.once) (ne_eqb (tag_at t (row + 1)) 0 f.segment) u in
        let c : stands ≡ path (level (held t row) 1 up) = sym (ap (λ x. path (level x 1 up)) z) in
        subst (λ x. Has t (here t row l n r) (tag_at t (row + 1) ∷ w) (x ∷ p)) c
        (has_group t row l n r (tag_at t (row + 1) ∷ w) (stands ∷ p) e g
        (subst⁻¹ (λ x. Has t (level x 0 up) (tag_at t (row + 1) ∷ w) (stands ∷ p)) z v))

    back_by : (b : Bool) → is_group t row ≡ b
        → Back (here t row l n r) (pick b (tag_at t (row + 1)) (tag_at t row)) (pick b (level (held t row) 1 (level (row ∷ l) (suc n) r)) (level (row ∷ l) (suc n) r))
    unfolding path
    back_by true g = ((held_in t row, s), trigger_back g)
    back_by false g = (s, λ w p k. has_segment t row l n r w p e g k)

  backs_in : (l : List ℕ) (n : ℕ) (r : Reach) (up : List Way) → Sane t (level l n r) → Backs r up → Backs (level l n r) (ways_in t l n r up)
  unfolding ways_in
  backs_in [] n r up s h = backs_of r (level [] n r) (has_end t n r) up h
  backs_in (row ∷ l) n r up s h =
      let here = level (row ∷ l) n r in
      let c = ways_in t l 0 r up in
      backs_more (ltb n (most t row)) here (fitting_tag t row) (entered t row l n r) (pick (may_pass t row n) c []) (λ e. back_by row l n r s e (is_group t row) refl)
      (backs_pick (may_pass t row n) here c
      (λ e. backs_of (level l 0 r) here (λ w p g. has_next t row l n r w p e g) c (backs_in l 0 r up (s.0.1, s.1) h)))

  backs : (r : Reach) → Sane t r → Backs r (ways t r)
  unfolding ways
  backs outside s = tt
  backs (level l n r) s = backs_in l n r (ways t r) s (backs r s.1)

  back : (x : ℕ) (r q : Reach) (l : List Way) → Backs r l → first_fit x l ≡ at q → Back r x q
  unfolding first_fit
  back x r q [] h e = let z : ◌≡◌ {A = ℕ} 0 1 = cc in absurd (omega arith)
  back x r q (to tag s ∷ l) h e =
      choose (eqb x tag)
      (λ p. let w : at s ≡ at q = rw p at e in let u : s ≡ q = cc in let v = eqb-true x tag p in rw (v, ← u) h.0)
      (λ p. back x r q l h.1 (rw p at e))

  ends_by : (r : Reach) (p : List Where) (b : Bool) → may_end t r ≡ b → pick b (placed []) refused ≡ placed p → Has t r [] p
  ends_by r p true d e = let u : [] ≡ p = cc in rw (← u) (ends t r d)
  ends_by r p false d e = let z : ◌≡◌ {A = ℕ} 0 1 = cc in absurd (omega arith)

  found_by : (x : ℕ) (w : List ℕ) (r : Reach) (p : List Where) → Sane t r → ((q : Reach) (m : List Where) → Sane t q → put t q w ≡ placed m → Has t q w m)
      → (f : Found) → first_fit x (ways t r) ≡ f → onward (λ q. put t q w) f ≡ placed p → Has t r (x ∷ w) p
  found_by x w r p s ih (at q) d g =
      let c = placed_parts (path q) (put t q w) p g in
      let b = back x r q (ways t r) (backs r s) d in
      rw c.2 (b.1 w c.0 (ih q c.0 b.0 c.1))
  found_by x w r p s ih nowhere d g = let z : ◌≡◌ {A = ℕ} 0 1 = cc in absurd (omega arith)

  pub has : (w : List ℕ) (r : Reach) (p : List Where) → Sane t r → put t r w ≡ placed p → Has t r w p
  unfolding put
  has [] r p s e = ends_by r p (may_end t r) refl e
  has (x ∷ w) r p s e = found_by x w r p s (λ q m k d. has w q m k d) (first_fit x (ways t r)) refl e
