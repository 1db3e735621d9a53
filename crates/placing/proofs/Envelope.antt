-- UIH, UIT, UIB and UIZ in a message of any of the tables. Assumes nothing.
-- "UIH is the first place of a message and UIT the last. Inside a message a further UIH, UIB or UIZ is out of place" (01)
use Rattle.std.specs.Prelude.{◌≡◌, Bool, true, false, List, [], ◌∷◌, ℕ, ◌+◌, ◌≤◌, T, eqb, leb, Some, None, is_some}
use Rattle.std.proofs.Common.{ap, arith, eqb→eq}
use borrow.Author.Tests.{le-ltb}
use Rattle.laws.specs.Choice.{either}
use Rattle.laws.specs.Sweep.{below}
use Rattle.placing.specs.declared.Place.{Place}
use Rattle.placing.specs.Table.{Table, rows, entry_of, tag_at, most, group_at, level_of, outer, after_of, end_of}
use Rattle.placing.specs.Place.{start_place}
use Rattle.placing.specs.Rule.{reachable, again, later_ones, choices_from, first_of, step_of, group_of, may_end}
use Rattle.placing.proofs.Walks.{after_grows, places_past}
use Rattle.placing.proofs.Laws.{absent_tag, only_at, absent_out, only_there, placed_row_lem, placed_segment}
use Rattle.placing.proofs.Formed.{nth, group_none, group_inside}
use Rattle.placing.specs.WellFormed.{is_not, every, well_formed, skdupd_formed, tsdupd_formed, tsdupd_12b_formed}
use Rattle.placing.proofs.Message.{InMessage, start_in, first_out}
use Rattle.messages.specs.Tags.{UIH, UIT, UIB, UIZ}
use Rattle.placing.specs.Skdupd.{skdupd_table}
use Rattle.placing.specs.Tsdupd.{tsdupd_table}
use Rattle.placing.specs.Tsdupd12B.{tsdupd_12b_table}

-- no row at level 0 before the last reaches over it
abbrev pub apart : Table → ℕ → ℕ → Bool
apart t last r = either (leb last r) (either (is_not (eqb (level_of t r) 0)) (leb (after_of t r) last))

-- a table of messages: UIH stands in its first row alone, UIT in its last row alone, each once and in no group; UIB and UIZ stand in none
pub record MessageTable (t : Table) (last : ℕ) : Type 0 where
  pub well : T (well_formed t)
  pub long : rows t ≡ last + 1
  pub uih : tag_at t 0 ≡ UIH
  pub uih_only : T (only_at t UIH 0)
  pub uih_once : most t 0 ≡ 1
  pub uit : tag_at t last ≡ UIT
  pub uit_only : T (only_at t UIT last)
  pub uit_once : most t last ≡ 1
  pub uit_free : level_of t last ≡ 0
  pub uit_apart : T (below (apart t last) (rows t))
  pub uib_none : T (absent_tag t UIB)
  pub uiz_none : T (absent_tag t UIZ)

-- the same as tests, for any table that is well formed
abbrev message_tests : Table → ℕ → List Bool
message_tests t last =
    eqb (rows t) (last + 1)
    ∷ eqb (tag_at t 0) UIH
    ∷ only_at t UIH 0
    ∷ eqb (most t 0) 1
    ∷ eqb (tag_at t last) UIT
    ∷ only_at t UIT last
    ∷ eqb (most t last) 1
    ∷ eqb (level_of t last) 0
    ∷ below (apart t last) (rows t)
    ∷ absent_tag t UIB
    ∷ absent_tag t UIZ
    ∷ []

tested : (t : Table) (last : ℕ) → T (well_formed t) → T (every (message_tests t last)) → MessageTable t last
tested t last w h =
    let l = message_tests t last in
    record {
      well = w;
      long = eqb→eq (rows t) (last + 1) (nth l 0 h);
      uih = eqb→eq (tag_at t 0) UIH (nth l 1 h);
      uih_only = nth l 2 h;
      uih_once = eqb→eq (most t 0) 1 (nth l 3 h);
      uit = eqb→eq (tag_at t last) UIT (nth l 4 h);
      uit_only = nth l 5 h;
      uit_once = eqb→eq (most t last) 1 (nth l 6 h);
      uit_free = eqb→eq (level_of t last) 0 (nth l 7 h);
      uit_apart = nth l 8 h;
      uib_none = nth l 9 h;
      uiz_none = nth l 10 h;
    }

-- every type's table is one

pub skdupd_messages : MessageTable skdupd_table 54
unfolding skdupd_table entry_of after_of
skdupd_messages = tested skdupd_table 54 skdupd_formed tt

pub tsdupd_messages : MessageTable tsdupd_table 48
unfolding tsdupd_table entry_of after_of
tsdupd_messages = tested tsdupd_table 48 tsdupd_formed tt

pub tsdupd_12b_messages : MessageTable tsdupd_12b_table 48
unfolding tsdupd_12b_table entry_of after_of
tsdupd_12b_messages = tested tsdupd_12b_table 48 tsdupd_12b_formed tt

module _ (t : Table) (last : ℕ) (m : MessageTable t last) where
  pub begins : InMessage t start_place
  begins = start_in t m.well (omega (arith, m.long))

  module _ (p : Place) where
    pub uib_out : step_of t p UIB ≡ None
    uib_out = absent_out t p UIB m.uib_none

    pub uiz_out : step_of t p UIZ ≡ None
    uiz_out = absent_out t p UIZ m.uiz_none

    pub uih_out : InMessage t p → step_of t p UIH ≡ None
    uih_out i = first_out t m.well p i UIH m.uih_once m.uih_only

    -- where a message may end, its UIT goes to the last place
    pub uit_last : (q : Place) → step_of t p UIT ≡ Some q → q.row ≡ last
    uit_last q e = only_there t p UIT last m.uit_only q e

    pub may_end_lem : (q : Place) → step_of t p UIT ≡ Some q → may_end t p ≡ true
    may_end_lem q e = ap is_some e

    pub may_not_end : step_of t p UIT ≡ None → may_end t p ≡ false
    may_not_end e = ap is_some e

    -- no segment comes after it
    pub ended : InMessage t p → p.row ≡ last → (tag : ℕ) → step_of t p tag ≡ None
    unfolding step_of choices_from again later_ones reachable first_of
    ended i e tag =
        let full : 1 ≤ p.c0 = i.begun in
        let g = after_grows t last (omega (arith, m.long)) in
        rw (e, m.uit_free, m.uit_once, le-ltb p.c0 1 full, places_past t (after_of t last) (end_of t 0 last) (omega (arith, m.long)))

    -- a placed segment's group is the one that the table names: that of the group's row in which it stands, 0 at level 0
    pub placed_group : (tag : ℕ) (q : Place) → step_of t p tag ≡ Some q
        → (level_of t q.row ≡ 0 → group_of t q ≡ 0) × ((level_of t q.row ≡ 0 → ⊥) → group_of t q ≡ group_at t (outer t q.row))
    placed_group tag q e =
        let h = placed_row_lem t tag p q e in
        let s = placed_segment t tag p q e in
        (group_none t m.well q.row h s, group_inside t m.well q.row h s)
