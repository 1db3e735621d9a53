-- The segments of a message that only move its place on.
-- Assumes nothing.
use Rattle.std.specs.Prelude.{◌≡◌, refl, Bool, true, false, not, List, ℕ, ◌+◌, ◌-◌, ◌/◌, ◌≤◌, ◌<◌, T, eqb, ltb, leb, length, drop, Some, Result, Ok, Err}
use Rattle.std.proofs.Math.Path.{sym, ap}
use Rattle.std.proofs.Common.{◌∙◌, subst, arith, ne_eqb, lt-ltb, le-ltb, ltb-true, ltb-false, leb-true, leb-false}
use Rattle.laws.specs.Choice.{pick, both, either, both_left, both_right, choose, false≢true}
use Rattle.laws.specs.Sweep.{below, at}
use Rattle.syntax.specs.Segment.{tag_number, body_at, segment_at}
use Rattle.syntax.specs.Ends.{end_tag}
use Rattle.placing.specs.declared.Place.{Place}
use Rattle.messages.specs.declared.MessageType.{MessageType}
use Rattle.messages.specs.declared.MessageType.TheVariants.{Skdupd, Tsdupd, Tsdupd12B}
use Rattle.messages.specs.Tags.{UIT}
use Rattle.messages.specs.Types.{is_period}
use Rattle.placing.specs.Tables.{tables, table_in, table_of}
use Rattle.placing.specs.Rule.{step_of, group_of}
use Rattle.placing.specs.Table.{Table, rows, entry_of, tag_at, group_at}
use Rattle.placing.specs.Tables as placing
use Rattle.placing.specs.Skdupd.{skdupd_table}
use Rattle.placing.specs.Tsdupd.{tsdupd_table}
use Rattle.placing.specs.Tsdupd12B.{tsdupd_12b_table}
use Rattle.placing.proofs.Laws.{placed_row_lem, placed_tag, placed_segment}
use Rattle.hints.specs.Hints.{hints, hints_in, hints_of}
use Rattle.hints.specs.Hints as hinting
use Rattle.hints.specs.Hint.{laid_out}
use Rattle.hints.specs.SkdupdHints.{skdupd_onward, skdupd_hints}
use Rattle.hints.specs.TsdupdHints.{tsdupd_onward, tsdupd_hints}
use Rattle.hints.specs.Told.{right}
use Rattle.hints.proofs.Laws.{own_right}
use Rattle.hints.specs.Packing.{place_of}
use Rattle.hints.proofs.Onward.{Onward}
use Rattle.period.specs.Period.{is_good, period_of}
use Rattle.steps.specs.declared.state.Phase.{Phase}
use Rattle.steps.specs.declared.state.Phase.TheVariants.{Opening, Between, Inside, Closed}
use Rattle.steps.specs.declared.state.State.{State}
use Rattle.steps.specs.declared.state.Row.{Row}
use Rattle.answers.specs.Answers.{done}
use Rattle.steps.specs.State.{one_more, onward_state, moved_state}
use Rattle.steps.specs.Step.{taken, row_of, judged, placed, step_by, segment_step}
use Rattle.interchange.specs.Heads.{capital_tag}
use Rattle.interchange.specs.Laws.{put_row}
use Rattle.steps.specs.Ways.{inside_placed}
use Rattle.interchange.specs.Passes.{row_with, Inner, Passed, passed_none, passed_more, passed_as}
use Rattle.period.specs.declared.Period.{Period}
use Rattle.period.specs.declared.Fault.{Fault}

abbrev pub is_inside : Phase → Bool
is_inside Opening = false
is_inside Between = false
is_inside Inside = true
is_inside Closed = false

pub inside_is : (f : Phase) → is_inside f ≡ true → f ≡ Inside
inside_is Opening q = absurd (false≢true q)
inside_is Between q = absurd (false≢true q)
inside_is Inside q = refl
inside_is Closed q = absurd (false≢true q)

-- a period that is read is good
abbrev pub good_part : Bool → MessageType → ℕ → ℕ → List ℕ → Bool
good_part wish message tag group g = pick (is_period message tag group) (is_good (period_of wish g)) true

module _ (st : State) (at : ℕ) (g reference : List ℕ) (p : Place) (group : ℕ) where
  judged_good : (x : Result Period Fault) → is_good x ≡ true → judged st at g p group x ≡ done (taken (onward_state st p) (row_of at g group))
  judged_good (Ok v) q = refl
  judged_good (Err x) q = absurd (false≢true q)

  placed_good : (tag_number g ≡ UIT → ⊥) → good_part st.wish st.message (tag_number g) group g ≡ true → placed st at g reference group p ≡ done (taken (onward_state st p) (row_of at g group))
  unfolding placed
  placed_good h q =
      rw (ne_eqb (tag_number g) UIT h)
      (choose (is_period st.message (tag_number g) group) (λ e. rw e (judged_good (period_of st.wish g) (rw e at q))) (λ e. rw e))

module _ (s : List ℕ) (st : State) (at e : ℕ) (h : segment_at s at ≡ Ok e) (i : st.phase ≡ Inside) (p : Place) where
  abbrev body : List ℕ
  body = body_at s at

  abbrev table : Table
  table = table_of st.message

  step_inside : (offset : ℕ) (dialogue reference : List ℕ) → step_of table st.place (tag_number body) ≡ Some p → (tag_number body ≡ UIT → ⊥)
      → good_part st.wish st.message (tag_number body) (group_of table p) body ≡ true
      → segment_step tables st offset body dialogue reference ≡ done (taken (onward_state st p) (row_of offset body (group_of table p)))
  unfolding step_by
  step_inside offset dialogue reference x u q =
      ap (λ (f : Phase). step_by tables f st offset body dialogue reference) i
      ∙ sym (inside_placed st offset body table reference p x)
      ∙ placed_good st offset body reference p (group_of table p) u q

  inner_is : step_of table st.place (tag_number body) ≡ Some p → (tag_number body ≡ UIT → ⊥)
      → good_part st.wish st.message (tag_number body) (group_of table p) body ≡ true
      → Inner s st at (onward_state st p) (group_of table p) (tag_number body) e
  inner_is x u q = record { from = i; to = refl; whole = h; step = λ offset dialogue reference. step_inside offset dialogue reference x u q }

onward_moved : (st : State) (p q : Place) (k : ℕ) → st.phase ≡ Inside → onward_state (moved_state st p k) q ≡ moved_state st q (one_more k)
onward_moved st p q k i = rw i

-- a type's own table and hints
pub own_given : (all given : Table) (hinted words : List (List ℕ)) (message known : MessageType) → message ≡ known → all ≡ tables → hinted ≡ hints
    → given ≡ table_in all known → words ≡ hints_in hinted known → (given ≡ table_of message) × (words ≡ hints_of message)
own_given all given hinted words message known q e h f g = rw q (f ∙ ap (λ x. table_in x known) e, g ∙ ap (λ x. hints_in x known) h)

-- the row of a segment that is placed
abbrev pub placed_row : Table → ℕ → ℕ → Row
placed_row t to at = row_with at (group_at t to) (tag_at t to)

-- a segment more, so many times
abbrev pub counted_of : ℕ → ℕ → ℕ
counted_of n more = pick (leb 65535 n) n (pick (ltb (65535 - n) more) 65535 (n + more))

pub counted_none : (n : ℕ) → counted_of n 0 ≡ n
counted_none n = choose (leb 65535 n) (λ q. rw q) (λ q. rw (q, le-ltb (65535 - n) 0 (omega arith)) (omega arith))

pub counted_more : (n more : ℕ) → one_more (counted_of n more) ≡ counted_of n (more + 1)
counted_more n more =
    choose (leb 65535 n)
    (λ q. let l = leb-true 65535 n q in rw (q, le-ltb n 65535 l))
    (λ q.
    let l = leb-false 65535 n q in
    choose (ltb (65535 - n) more)
    (λ r. let m = ltb-true (65535 - n) more r in rw (q, r, lt-ltb (65535 - n) (more + 1) (omega arith)))
    (λ r.
    let m = ltb-false (65535 - n) more r in
    choose (ltb (n + more) 65535)
    (λ w. let o = ltb-true (n + more) 65535 w in rw (q, r, w, le-ltb (65535 - n) (more + 1) (omega arith)) (omega arith))
    (λ w. let o = ltb-false (n + more) 65535 w in rw (q, r, w, lt-ltb (65535 - n) (more + 1) (omega arith)) (omega arith))))

pub counted_step : (k first n : ℕ) → first ≤ n → counted_of k ((n + 3 - first) / 3) ≡ one_more (counted_of k ((n - first) / 3))
counted_step k first n h =
    let z : (n + 3 - first) / 3 ≡ (n - first) / 3 + 1 = omega arith in
    rw z (sym (counted_more k ((n - first) / 3)))

-- no segment yet
pub passed_start : (s : List ℕ) (st : State) (at n : ℕ) (room : List ℕ) → n ≤ length room → (q : Place) → q ≡ st.place
    → Passed s st at n room (moved_state st q (counted_of st.segments ((n - n) / 3))) at n room
passed_start s st at n room l q e =
    let z : (n - n) / 3 ≡ 0 = omega arith in
    rw (e, z, counted_none st.segments) (passed_none s st at n room l)

pub passed_here : (s : List ℕ) (st : State) (at n : ℕ) (room : List ℕ) → n ≤ length room → (q : Place) (k at₁ n₁ : ℕ) → q ≡ st.place → k ≡ st.segments → at₁ ≡ at → n₁ ≡ n
    → Passed s st at n room (moved_state st q k) at₁ n₁ room
passed_here s st at n room l q k at₁ n₁ e f g h = rw (e, f, g, h) (passed_none s st at n room l)

-- as many rows of hints as of the table
own_length : (message : MessageType) → length (hints_of message) ≡ length (table_of message)
unfolding skdupd_table tsdupd_table tsdupd_12b_table laid_out skdupd_hints tsdupd_hints skdupd_onward tsdupd_onward
own_length Skdupd = rw (hinting.skdupd_own, placing.skdupd_own)
own_length Tsdupd = rw (hinting.tsdupd_own, placing.tsdupd_own)
own_length Tsdupd12B = rw (hinting.tsdupd_12b_own, placing.tsdupd_12b_own)

-- they are right, and their rows are few
pub own_both : (message : MessageType) (t : Table) (l : List (List ℕ)) → t ≡ table_of message → l ≡ hints_of message → (length l ≡ length t) × T (right t l)
own_both message t l e f = (rw (e, f) (own_length message), rw (e, f) (own_right message))

few : (message : MessageType) → length (table_of message) ≤ 104
unfolding skdupd_table tsdupd_table tsdupd_12b_table
few Skdupd = rw placing.skdupd_own (omega arith)
few Tsdupd = rw placing.tsdupd_own (omega arith)
few Tsdupd12B = rw placing.tsdupd_12b_own (omega arith)

pub own_few : (message : MessageType) (t : Table) → t ≡ table_of message → length t ≤ 104
own_few message t e = rw e (few message)

-- the row of the period that is read, and for a type that has none a row of no table
abbrev pub period_row : MessageType → ℕ
period_row Skdupd = 22
period_row Tsdupd = 104
period_row Tsdupd12B = 104

-- a tag of a table is three capital letters, and no row but that one is a period that is read
abbrev row_told : MessageType → Table → ℕ → Bool
row_told message t r =
    both (either (eqb (tag_at t r) 0) (capital_tag (tag_at t r)))
    (either (eqb r (period_row message)) (not (is_period message (tag_at t r) (group_at t r))))

skdupd_rows : T (below (row_told Skdupd skdupd_table) (rows skdupd_table))
unfolding skdupd_table entry_of
skdupd_rows = tt

tsdupd_rows : T (below (row_told Tsdupd tsdupd_table) (rows tsdupd_table))
unfolding tsdupd_table entry_of
tsdupd_rows = tt

tsdupd_12b_rows : T (below (row_told Tsdupd12B tsdupd_12b_table) (rows tsdupd_12b_table))
unfolding tsdupd_12b_table entry_of
tsdupd_12b_rows = tt

own_rows : (message : MessageType) → T (below (row_told message (table_of message)) (rows (table_of message)))
own_rows Skdupd = rw placing.skdupd_own skdupd_rows
own_rows Tsdupd = rw placing.tsdupd_own tsdupd_rows
own_rows Tsdupd12B = rw placing.tsdupd_12b_own tsdupd_12b_rows

either_left : (a b : Bool) → T (either a b) → a ≡ false → b ≡ true
either_left true b h q = absurd (false≢true (sym q))
either_left false true h q = refl
either_left false false h q = absurd h

not_holds : (b : Bool) → not b ≡ true → b ≡ false
not_holds true q = absurd (false≢true q)
not_holds false q = refl

module _ (message : MessageType) (r : ℕ) (h : r < rows (table_of message)) where
  abbrev tag_of : ℕ
  tag_of = tag_at (table_of message) r

  abbrev group_of_lem : ℕ
  group_of_lem = group_at (table_of message) r

  abbrev lettered : Bool
  lettered = either (eqb tag_of 0) (capital_tag tag_of)

  abbrev unread : Bool
  unread = either (eqb r (period_row message)) (not (is_period message tag_of group_of_lem))

  pub row_capitals : (tag_of ≡ 0 → ⊥) → capital_tag tag_of ≡ true
  row_capitals z = either_left (eqb tag_of 0) (capital_tag tag_of) (both_left lettered unread (at (row_told message (table_of message)) (rows (table_of message)) (own_rows message) r h)) (ne_eqb tag_of 0 z)

  -- what is read of the period's row alone is what is read of a segment
  pub row_good : (wish : Bool) (g : List ℕ) → pick (eqb r (period_row message)) (is_good (period_of wish g)) true ≡ true → good_part wish message tag_of group_of_lem g ≡ true
  row_good wish g q =
      choose (eqb r (period_row message))
      (λ e. let k = rw e at q in choose (is_period message tag_of group_of_lem) (λ p. rw p k) (λ p. rw p))
      (λ e. rw (not_holds (is_period message tag_of group_of_lem) (either_left (eqb r (period_row message)) (not (is_period message tag_of group_of_lem)) (both_right lettered unread (at (row_told message (table_of message)) (rows (table_of message)) (own_rows message) r h)) e)))

-- the tag of a step is three capital letters
pub onward_capitals : (message : MessageType) (t : Table) → t ≡ table_of message → (row n tag to m : ℕ) → Onward t row n tag to m → capital_tag tag ≡ true
onward_capitals message t e row n tag to m o =
    let x = rw e at o.step in
    let l = placed_row_lem (table_of message) tag (place_of row n) (place_of to m) x in
    let a = placed_tag (table_of message) tag (place_of row n) (place_of to m) x in
    let z = placed_segment (table_of message) tag (place_of row n) (place_of to m) x in
    subst (λ y. capital_tag y ≡ true) a (row_capitals message to l z)

-- one segment more of the message, its row put behind those that stand
module _ (s : List ℕ) (from : State) (start n₀ : ℕ) (room₀ : List ℕ) (st : State) (i : st.phase ≡ Inside) where
  pub passed_inside : (p : Place) (k at n : ℕ) (room : List ℕ) → Passed s from start n₀ room₀ (moved_state st p k) at n room
      → (e : ℕ) → segment_at s at ≡ Ok e → (t : Table) → t ≡ table_of st.message
      → (tag : ℕ) → tag ≡ tag_number (drop at s) → (tag ≡ UIT → ⊥) → (q : Place) → step_of t p tag ≡ Some q
      → (group : ℕ) → group ≡ group_of t q → good_part st.wish st.message tag group (body_at s at) ≡ true
      → n + 2 < length room → (put : List ℕ) → put ≡ put_row room n (record { offset = at; group = group; tag = tag })
      → Passed s from start n₀ room₀ (moved_state st q (one_more k)) (e + 1) (n + 3) put
  passed_inside p k at n room m e h t x tag y u q z group w o r put b =
      let g : tag ≡ tag_number (body_at s at) = y ∙ end_tag s at e h in
      let v = inner_is s (moved_state st p k) at e h i q (rw (x, g) at z) (λ d. u (g ∙ d)) (rw (g, w, x) at o) in
      passed_as s (sym (onward_moved st p q k i)) refl (passed_more s m v r put (b ∙ rw (w, x, g)))

  -- the same by a place in two numbers, which a hint moves on
  pub passed_told : (t : Table) → t ≡ table_of st.message → (row counts k at n : ℕ) (room : List ℕ) → Passed s from start n₀ room₀ (moved_state st (place_of row counts) k) at n room
      → (e : ℕ) → segment_at s at ≡ Ok e → (tag : ℕ) → tag ≡ tag_number (drop at s) → (to next : ℕ) → Onward t row counts tag to next
      → (period : ℕ) → period ≡ period_row st.message → pick (eqb to period) (is_good (period_of st.wish (body_at s at))) true ≡ true
      → (group : ℕ) → group ≡ group_at t to
      → n + 2 < length room → (put : List ℕ) → put ≡ put_row room n (record { offset = at; group = group; tag = tag })
      → Passed s from start n₀ room₀ (moved_state st (place_of to next) (one_more k)) (e + 1) (n + 3) put
  passed_told t x row counts k at n room m e h tag y to next o period f g group w r put b =
      let z = o.step in
      let l = placed_row_lem t tag (place_of row counts) (place_of to next) z in
      let a = placed_tag t tag (place_of row counts) (place_of to next) z in
      let v = row_good st.message to (subst (λ u. to < length u) x l) st.wish (body_at s at) (subst (λ u. pick (eqb to u) (is_good (period_of st.wish (body_at s at))) true ≡ true) f g) in
      let c : good_part st.wish st.message (tag_at t to) (group_at t to) (body_at s at) ≡ true = subst (λ u. good_part st.wish st.message (tag_at u to) (group_at u to) (body_at s at) ≡ true) (sym x) v in
      passed_inside (place_of row counts) k at n room m e h t x tag y o.inside (place_of to next) z group w
      (subst (λ u. good_part st.wish st.message u group (body_at s at) ≡ true) a (subst (λ u. good_part st.wish st.message (tag_at t to) u (body_at s at) ≡ true) (sym w) c))
      r put b
