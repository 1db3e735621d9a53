-- Two made-up tables that fail the test: in one a message has two arrangements, in the other none has. Assumes nothing.
use Rattle.std.specs.Prelude.{◌≡◌, refl, true, false, [], ◌∷◌, ◌⊎◌, ℕ, T, ltb}
use Rattle.std.proofs.Common.{sym, ◌∙◌, ap, inl, inr, ⊎_elim, arith}
use Rattle.laws.specs.Choice.{either_false, false≢true}
use Rattle.messages.specs.Tags.{UIH, PRD, IFT, UIT}
use Rattle.placing.specs.Table.{Table, entry_of, tag_at, is_group, conditional, most, after_of, end_of, places_on}
use Rattle.placing.specs.Rule.{reachable, first_fit, in_group, again, later_ones, choices_from, first_of, step_of}
use Rattle.placing.specs.WellFormed.{formed, well_formed}
use Rattle.one_way.specs.Arrangement.{segment, group, Times, nothing, ◌&◌, Arrangement, end, ◌▸◌, times_of, is_arranged, is_arrangement, tags_of, where_in, standings}
use Rattle.one_way.specs.Drawing.{alone}
use Rattle.one_way.specs.Placings.{walked, first_choices, first_place, placings, all_placed, where_on, where_placed}
use Rattle.one_way.specs.Test.{differ, one_way}
use Rattle.one_way.proofs.Left.{Fills, LeftIn, segment_at_lem, group_at, to_left}
use Rattle.one_way.specs.MadeUp.{shared_table, in_group_one, behind_it, third_row, owed_table, second_alone, both_of_them}

pub shared_formed : T (well_formed shared_table)
unfolding well_formed formed after_of end_of shared_table entry_of
shared_formed = tt

pub shared_fails : one_way shared_table ≡ false
unfolding one_way differ first_choices choices_from again later_ones reachable places_on after_of end_of entry_of shared_table
shared_fails = refl

pub shared_both : (is_arrangement shared_table in_group_one ≡ true) × (is_arrangement shared_table behind_it ≡ true)
unfolding is_arranged times_of places_on after_of entry_of shared_table
shared_both = (refl, refl)

pub shared_message : (tags_of in_group_one ≡ UIH ∷ PRD ∷ IFT ∷ UIT ∷ []) × (tags_of behind_it ≡ UIH ∷ PRD ∷ IFT ∷ UIT ∷ [])
unfolding tags_of
shared_message = (refl, refl)

-- and the IFT does not stand in the same row
pub shared_two : standings shared_table in_group_one ≡ standings shared_table behind_it → ⊥
unfolding where_in places_on after_of entry_of shared_table
shared_two e = let z : ◌≡◌ {A = ℕ} 3 4 = ap third_row e in omega arith

-- the placing rule takes the first of the two
pub shared_placed : where_placed shared_table (UIH ∷ PRD ∷ IFT ∷ UIT ∷ []) ≡ standings shared_table in_group_one
unfolding where_in where_on placings first_place first_choices walked step_of first_of choices_from again later_ones reachable first_fit in_group places_on after_of end_of entry_of shared_table
shared_placed = refl

pub owed_formed : T (well_formed owed_table)
unfolding well_formed formed after_of end_of owed_table entry_of
owed_formed = tt

pub owed_fails : one_way owed_table ≡ false
unfolding one_way differ first_choices choices_from again later_ones reachable places_on after_of end_of entry_of owed_table
owed_fails = refl

-- the placing rule refuses UIH IFT UIT, since it takes the first place that fits; the table alone has a place for it
pub owed_refused : all_placed owed_table (UIH ∷ IFT ∷ UIT ∷ []) ≡ false
unfolding placings first_place first_choices walked step_of first_of choices_from again later_ones reachable first_fit in_group places_on after_of end_of entry_of owed_table
owed_refused = refl

pub owed_arranged : (is_arrangement owed_table second_alone ≡ true) × (tags_of second_alone ≡ UIH ∷ IFT ∷ UIT ∷ [])
unfolding is_arranged times_of tags_of places_on after_of entry_of owed_table
owed_arranged = (refl, refl)

-- No message has two: every arrangement is one of these, and their messages differ in length

-- at a segment's place of number 1
once_or_not : (ts : Times) (t : Table) (r : ℕ) → most t r ≡ 1 → is_group t r ≡ false → Fills ts t r 0 → ((ts ≡ nothing) × (conditional t r ≡ true)) ⊎ (ts ≡ alone (tag_at t r))
once_or_not nothing t r m g f = inl (refl, sym (either_false (conditional t r)) ∙ f)
once_or_not (segment x & nothing) t r m g f = inr (ap alone (segment_at_lem t r x f.1).1)
once_or_not (segment x & s & ts) t r m g f = absurd (false≢true (ap (ltb 1) (sym m) ∙ f.2.0))
once_or_not (group b & ts) t r m g f = absurd (false≢true (sym g ∙ (group_at t r b f.1).0))

once_only : (ts : Times) (t : Table) (r : ℕ) → most t r ≡ 1 → is_group t r ≡ false → conditional t r ≡ false → Fills ts t r 0 → ts ≡ alone (tag_at t r)
once_only ts t r m g c f = ⊎_elim (λ e. absurd (false≢true (sym c ∙ e.1))) (λ e. e) (once_or_not ts t r m g f)

shapes_by : (a : Arrangement) → LeftIn a owed_table (0 ∷ 1 ∷ 2 ∷ 3 ∷ []) 0 → (a ≡ second_alone) ⊎ (a ≡ both_of_them)
unfolding owed_table entry_of
shapes_by end v = absurd v
shapes_by (t0 ▸ end) v = absurd v.1
shapes_by (t0 ▸ t1 ▸ end) v = absurd v.1.1
shapes_by (t0 ▸ t1 ▸ t2 ▸ end) v = absurd v.1.1.1
shapes_by (t0 ▸ t1 ▸ t2 ▸ t3 ▸ (t4 ▸ a)) v = absurd v.1.1.1.1
shapes_by (t0 ▸ t1 ▸ t2 ▸ t3 ▸ end) v =
    let e0 = once_only t0 owed_table 0 refl refl refl v.0 in
    let e2 = once_only t2 owed_table 2 refl refl refl v.1.1.0 in
    let e3 = once_only t3 owed_table 3 refl refl refl v.1.1.1.0 in
    ⊎_elim (λ p. let e1 = p.0 in inl (cc)) (λ e1. inr (cc)) (once_or_not t1 owed_table 1 refl refl v.1.0)

shapes : (a : Arrangement) → is_arrangement owed_table a ≡ true → (a ≡ second_alone) ⊎ (a ≡ both_of_them)
unfolding places_on after_of entry_of owed_table
shapes a v = shapes_by a (to_left a owed_table (0 ∷ 1 ∷ 2 ∷ 3 ∷ []) v)

shorter : (a b : Arrangement) → a ≡ second_alone → b ≡ both_of_them → tags_of a ≡ tags_of b → ⊥
unfolding tags_of
shorter a b p q e =
    let w : UIH ∷ IFT ∷ UIT ∷ [] ≡ UIH ∷ IFT ∷ IFT ∷ UIT ∷ [] = rw (p, q) at e in
    let z : ◌≡◌ {A = ℕ} 0 1 = cc in
    omega arith

pub owed_one_way : (a b : Arrangement) → is_arrangement owed_table a ≡ true → is_arrangement owed_table b ≡ true → tags_of a ≡ tags_of b → a ≡ b
owed_one_way a b v w e =
    ⊎_elim
    (λ p. ⊎_elim (λ q. p ∙ sym q) (λ q. absurd (shorter a b p q e)) (shapes b w))
    (λ p. ⊎_elim (λ q. absurd (shorter b a q p (sym e))) (λ q. p ∙ sym q) (shapes b w))
    (shapes a v)
