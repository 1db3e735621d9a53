-- The PRDs in group 2 among the rows of an interchange are the beginnings of its groups 2.
-- Assumes nothing.
use Rattle.std.specs.Prelude.{◌≡◌, Bool, true, false, not, ℕ, zero, suc, ◌+◌, ◌<◌, eqb, get_or, Option, Some, None}
use Rattle.std.proofs.Math.Path.{refl}
use Rattle.std.proofs.Common.{sym, ap, ◌∙◌, add-zero, zero-add}
use mathlib.Core.List.{List, [], ◌∷◌, ◌++◌, map, append-nil}
use native.Mathlib.Omega.{arith}
use Rattle.std.proofs.Math.ListN.{length, length-append}
use Rattle.laws.specs.Choice.{pick, both, all, both_comm, both_parts}
use Rattle.syntax.specs.Segment.{tag_number}
use Rattle.placing.specs.declared.Place.{Place}
use Rattle.messages.specs.declared.MessageType.{MessageType}
use Rattle.messages.specs.declared.MessageType.TheVariants.{Skdupd, Tsdupd, Tsdupd12B}
use Rattle.messages.specs.Tags.{PRD}
use Rattle.placing.specs.Table.{Table, group_at}
use Rattle.placing.specs.Tsdupd.{tsdupd_table}
use Rattle.placing.specs.Tsdupd12B.{tsdupd_12b_table}
use Rattle.placing.specs.Tables.{table_of, tsdupd_own, tsdupd_12b_own}
use Rattle.placing.specs.Place.{start_place}
use Rattle.placing.specs.Rule.{step_of, place_after}
use Rattle.placing.proofs.Walks.{entry_in}
use Rattle.placing.proofs.Laws.{placed_tag, placed_row_lem}
use Rattle.steps.specs.declared.state.Row.{Row}
use Rattle.acceptance.specs.Interchange.{segments_written, Message, segments_in, Interchange, each_of, message_type_of, places_from, group_in, with_group, groups_in, rows_from, rows_of}
use Rattle.services.specs.Rows.{keep}
use Rattle.services.specs.Tables.{elsewhere, NoService, tsdupd_none, tsdupd_12b_none}
use Rattle.interchange_services.specs.Groups.{is_skdupd, begins, beginnings, groups_at, groups_from, groups_of}

-- the offsets of the PRDs in group 2 among some rows
unfoldable pub prds_of : List Row → List ℕ
prds_of [] = []
prds_of (r ∷ l) = keep (both (eqb r.group 2) (eqb r.tag PRD)) r.offset (prds_of l)

rows_begin : (at : ℕ) (l : List (List ℕ × ℕ)) → prds_of (rows_from at l) ≡ beginnings at l
unfolding prds_of rows_from beginnings
rows_begin at [] = refl
rows_begin at (e ∷ l) = ap (keep (begins e) at) (rows_begin (at + length e.0 + 1) l)

-- some segments behind others
keep_append : (b : Bool) (a : ℕ) (k l : List ℕ) → keep b a (k ++ l) ≡ keep b a k ++ l
keep_append true a k l = refl
keep_append false a k l = refl

unfoldable size : List (List ℕ × ℕ) → ℕ
size [] = 0
size (e ∷ l) = length e.0 + 1 + size l

begin_append : (at : ℕ) (k l : List (List ℕ × ℕ)) → beginnings at (k ++ l) ≡ beginnings at k ++ beginnings (at + size k) l
unfolding beginnings size
begin_append at [] l = rw add-zero
begin_append at (e ∷ k) l =
    let q : at + length e.0 + 1 + size k ≡ at + (length e.0 + 1 + size k) = omega arith in
    ap (keep (begins e) at) (begin_append (at + length e.0 + 1) k l ∙ ap (λ (x : ℕ). beginnings (at + length e.0 + 1) k ++ beginnings x l) q)
    ∙ keep_append (begins e) at (beginnings (at + length e.0 + 1) k) (beginnings (at + (length e.0 + 1 + size k)) l)

-- how many bytes a message has
size_places : (t : Table) (p : Option Place) (gs : List (List ℕ)) → size (map (with_group t) (places_from t p gs)) ≡ length (segments_written gs)
unfolding size places_from segments_written
size_places t p [] = refl
size_places t p (g ∷ gs) =
    let h = size_places t (place_after t p (tag_number g)) gs in
    let l = length-append g (39 ∷ segments_written gs) in
    omega arith

-- a table's row of which a test of every row holds
all_at : {A : Type 0} (f : A → Bool) (l : List A) (i : ℕ) (z : A) → all f l ≡ true → i < length l → f (get_or l i z) ≡ true
all_at f [] i z e h = absurd (omega arith)
all_at f (a ∷ l) zero z e h = (both_parts (f a) (all f l) e).0
all_at f (a ∷ l) (suc i) z e h = all_at f l i z (both_parts (f a) (all f l) e).1 (omega arith)

not_is : (b : Bool) → not b ≡ true → b ≡ false
not_is true e = sym e
not_is false e = refl

-- where a table has no service, none of its segments begins a group 2
module _ (t : Table) (none : NoService t) where
  module _ (tag : ℕ) where
    step_none : (p : Place) (x : Option Place) → step_of t p tag ≡ x → both (eqb (group_in t x) 2) (eqb tag PRD) ≡ false
    step_none p None e = refl
    step_none p (Some q) e =
        let row = get_or t q.row [] in
        let a = entry_in t q.row 1 (omega arith) in
        let b = entry_in t q.row 4 (omega arith) in
        let w = all_at (elsewhere 2 PRD) t q.row [] none.no_service (placed_row_lem t tag p q e) in
        both_comm (eqb (group_at t q.row) 2) (eqb tag PRD)
        ∙ ap (λ (x : ℕ). both (eqb x PRD) (eqb (group_at t q.row) 2)) (sym (placed_tag t tag p q e) ∙ a)
        ∙ ap (λ (x : ℕ). both (eqb (get_or row 1 0) PRD) (eqb x 2)) b
        ∙ not_is (both (eqb (get_or row 1 0) PRD) (eqb (get_or row 4 0) 2)) w

    after_none : (p : Option Place) → both (eqb (group_in t (place_after t p tag)) 2) (eqb tag PRD) ≡ false
    after_none (Some p) = step_none p (step_of t p tag) refl
    after_none None = refl

  table_none : (at : ℕ) (p : Option Place) (gs : List (List ℕ)) → beginnings at (map (with_group t) (places_from t p gs)) ≡ []
  unfolding beginnings places_from
  table_none at p [] = refl
  table_none at p (g ∷ gs) = rw (after_none (tag_number g) p) (table_none (at + length g + 1) (place_after t p (tag_number g)) gs)

-- a message, then those behind it
module _ (at : ℕ) (m : Message) where
  -- one whose table has no service begins none
  other_begins : (t : Table) → NoService t → table_of (message_type_of m) ≡ t → is_skdupd (message_type_of m) ≡ false → beginnings at (groups_in m) ≡ groups_at at m
  unfolding beginnings
  other_begins t none e k =
      ap (λ (x : Table). beginnings (at + length m.heading + 1) (map (with_group x) (places_from x (Some start_place) (m.within ++ (m.trailer ∷ []))))) e
      ∙ table_none t none (at + length m.heading + 1) (Some start_place) (m.within ++ (m.trailer ∷ []))
      ∙ sym (ap (λ (b : Bool). pick b (beginnings at (groups_in m)) []) k)

  message_begins : beginnings at (groups_in m) ≡ groups_at at m
  message_begins = by_type (message_type_of m) refl
    where
      by_type : (t : MessageType) → message_type_of m ≡ t → beginnings at (groups_in m) ≡ groups_at at m
      by_type Skdupd q = rw q
      by_type Tsdupd q = other_begins tsdupd_table tsdupd_none (ap table_of q ∙ tsdupd_own) (ap is_skdupd q)
      by_type Tsdupd12B q = other_begins tsdupd_12b_table tsdupd_12b_none (ap table_of q ∙ tsdupd_12b_own) (ap is_skdupd q)

  message_size : at + size (groups_in m) ≡ at + length (segments_written (segments_in m))
  unfolding size segments_written
  message_size =
      let h = size_places (table_of (message_type_of m)) (Some start_place) (m.within ++ (m.trailer ∷ [])) in
      let l = length-append m.heading (39 ∷ segments_written (m.within ++ (m.trailer ∷ []))) in
      omega arith

each_begins : (at : ℕ) (ms : List Message) → beginnings at (each_of groups_in ms) ≡ groups_from at ms
unfolding beginnings groups_from
each_begins at [] = refl
each_begins at (m ∷ ms) =
    begin_append at (groups_in m) (each_of groups_in ms)
    ∙ ap (λ (x : List ℕ). x ++ beginnings (at + size (groups_in m)) (each_of groups_in ms)) (message_begins at m)
    ∙ ap (λ (x : List ℕ). groups_at at m ++ x) (ap (λ (x : ℕ). beginnings x (each_of groups_in ms)) (message_size at m) ∙ each_begins (at + length (segments_written (segments_in m))) ms)

-- the UIB and the UIZ begin none
pub interchange_begins : (x : Interchange) → prds_of (rows_of x) ≡ groups_of x
unfolding beginnings
interchange_begins x =
    rows_begin 0 ((x.opening, 0) ∷ (each_of groups_in x.messages ++ ((x.closing, 0) ∷ [])))
    ∙ ap (λ (n : ℕ). beginnings (n + 1) (each_of groups_in x.messages ++ ((x.closing, 0) ∷ []))) (zero-add (length x.opening))
    ∙ begin_append (length x.opening + 1) (each_of groups_in x.messages) ((x.closing, 0) ∷ [])
    ∙ append-nil (beginnings (length x.opening + 1) (each_of groups_in x.messages))
    ∙ each_begins (length x.opening + 1) x.messages
