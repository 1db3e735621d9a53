-- The slot at a place of an account's room: read, taken out, put in, written over.
-- Assumes nothing.
use Rattle.std.specs.Prelude.{◌≡◌, refl, true, List, [], ◌∷◌, ◌++◌, map, ℕ, zero, suc, ◌+◌, ◌*◌, ◌-◌, ◌≤◌, ◌<◌, length, get_or, set, take, drop, replicate}
use Rattle.std.proofs.Common.{sym, ◌∙◌, arith, add-one, le_of_suc-le-suc, not-suc-le-zero, take_at, drop_at, drop-drop, get_or-take, get_or-drop}
use Rattle.std.proofs.Math.Path.{ap}
use Rattle.std.proofs.Math.Option.{none, some}
use Rattle.std.proofs.lemmas.List.{map-append, length-map, set_split}
use Rattle.std.proofs.Math.Seq.{paste}
use Rattle.laws.specs.Choice.{all, both_parts}
use Rattle.gaps.specs.Move.{closed, inserted}
use Rattle.slots.specs.Slots.{slots_of}
use Rattle.slots.specs.Rising.{leading}
use Rattle.records.specs.Joined.{slots_joined}
use Rattle.records.specs.Read.{leading_room}
use Rattle.records.specs.Room.{padded, each_padded, insert_at, remove_at, room_of, room_insert, room_remove, room_set}
use Rattle.contents.specs.Contents.{Record, good_record}
use Rattle.contents.specs.Written.{slot_of, room_bytes}
use Rattle.contents.specs.Calls.{record_at}
use Rattle.rooms.specs.Slots.{length_slot, slots_each, slots_used, room_slots}
use Rattle.rooms.specs.Registers.{room_cons}
use Rattle.rooms.specs.Lookup.{none≢some, some_is}

-- ---- the k-th record

pub record_within : (k : ℕ) (rs : List Record) (r : Record) → record_at k rs ≡ some r → k < length rs
unfolding record_at
record_within zero [] r q = absurd (none≢some q)
record_within (suc k) [] r q = absurd (none≢some q)
record_within zero (p ∷ rs) r q = omega arith
record_within (suc k) (p ∷ rs) r q = let h = record_within k rs r q in omega arith

pub record_there : (k : ℕ) (rs : List Record) → k < length rs → (r : Record) × (record_at k rs ≡ some r)
unfolding record_at
record_there k [] h = absurd (not-suc-le-zero h)
record_there zero (r ∷ rs) h = (r, refl)
record_there (suc k) (p ∷ rs) h = record_there k rs (le_of_suc-le-suc h)

pub record_past : (k : ℕ) (rs : List Record) → length rs ≤ k → record_at k rs ≡ none
unfolding record_at
record_past zero [] h = refl
record_past (suc k) [] h = refl
record_past zero (r ∷ rs) h = absurd (omega arith)
record_past (suc k) (r ∷ rs) h = record_past k rs (le_of_suc-le-suc h)

-- it is good where all are
pub record_good : (k : ℕ) (rs : List Record) (r : Record) → all good_record rs ≡ true → record_at k rs ≡ some r → good_record r ≡ true
unfolding record_at
record_good zero [] r q e = absurd (none≢some e)
record_good (suc k) [] r q e = absurd (none≢some e)
record_good zero (p ∷ rs) r q e = ap good_record (sym (some_is e)) ∙ (both_parts (good_record p) (all good_record rs) q).0
record_good (suc k) (p ∷ rs) r q e = record_good k rs r (both_parts (good_record p) (all good_record rs) q).1 e

-- its slot
pub slot_there : (quota : ℕ) (rs : List Record) (k : ℕ) (r : Record) → all good_record rs ≡ true → length rs ≤ quota → record_at k rs ≡ some r
    → take 140 (drop (k * 140) (room_bytes quota rs)) ≡ slot_of r
unfolding record_at
slot_there quota [] zero r q h e = absurd (none≢some e)
slot_there quota [] (suc k) r q h e = absurd (none≢some e)
slot_there zero (p ∷ rs) k r q h e = absurd (omega arith)
slot_there (suc quota) (p ∷ rs) zero r q h e =
    let w = both_parts (good_record p) (all good_record rs) q in
    rw (room_cons quota p rs) (take_at (slot_of p) (room_bytes quota rs) 140 (length_slot p w.0) ∙ ap slot_of (some_is e))
slot_there (suc quota) (p ∷ rs) (suc k) r q h e =
    let w = both_parts (good_record p) (all good_record rs) q in
    let n : suc k * 140 ≡ 140 + k * 140 = omega arith in
    rw (n, room_cons quota p rs, ← drop-drop (k * 140) 140 (slot_of p ++ room_bytes quota rs), drop_at (slot_of p) (room_bytes quota rs) 140 (length_slot p w.0))
    (slot_there quota rs k r w.1 (omega arith) e)

-- a byte of it
pub slot_byte : (quota : ℕ) (rs : List Record) (k : ℕ) (r : Record) → all good_record rs ≡ true → length rs ≤ quota → record_at k rs ≡ some r
    → (j : ℕ) → j < 140 → get_or (room_bytes quota rs) (k * 140 + j) 0 ≡ get_or (slot_of r) j 0
slot_byte quota rs k r q h e j l =
    sym (get_or-take 140 (drop (k * 140) (room_bytes quota rs)) j 0 l ∙ get_or-drop (k * 140) (room_bytes quota rs) j 0)
    ∙ ap (λ (s : List ℕ). get_or s j 0) (slot_there quota rs k r q h e)

-- ---- all slots of a room

module _ (quota : ℕ) (rs : List Record) (q : all good_record rs ≡ true) where
  pub slots_in_room : slots_of (room_bytes quota rs) ≡ map slot_of rs ++ replicate (quota - length rs) (replicate 140 0)
  unfolding room_of padded
  slots_in_room =
      ap slots_of (room_slots quota rs)
      ∙ slots_joined (padded 140 quota (map slot_of rs)) (each_padded 140 quota (map slot_of rs) (slots_each rs q))
      ∙ rw (length-map rs slot_of)

  pub used_in_room : leading (slots_of (room_bytes quota rs)) ≡ length rs
  used_in_room = ap (λ (s : List ℕ). leading (slots_of s)) (room_slots quota rs) ∙ leading_room quota (map slot_of rs) (slots_each rs q) (slots_used rs q) ∙ length-map rs slot_of

  -- the slots in use are the records'
  pub used_slots_lem : take (leading (slots_of (room_bytes quota rs))) (slots_of (room_bytes quota rs)) ≡ map slot_of rs
  used_slots_lem = rw (used_in_room, slots_in_room) (take_at (map slot_of rs) (replicate (quota - length rs) (replicate 140 0)) (length rs) (length-map rs slot_of))

-- ---- slots of records with one taken out, put in, written over

map_take : (k : ℕ) (rs : List Record) → map slot_of (take k rs) ≡ take k (map slot_of rs)
map_take zero rs = refl
map_take (suc k) [] = refl
map_take (suc k) (r ∷ rs) = ap (λ (l : List (List ℕ)). slot_of r ∷ l) (map_take k rs)

map_drop : (k : ℕ) (rs : List Record) → map slot_of (drop k rs) ≡ drop k (map slot_of rs)
map_drop zero rs = refl
map_drop (suc k) [] = refl
map_drop (suc k) (r ∷ rs) = map_drop k rs

map_removed : (k : ℕ) (rs : List Record) → map slot_of (take k rs ++ drop (k + 1) rs) ≡ remove_at k (map slot_of rs)
unfolding remove_at
map_removed k rs = map-append slot_of (take k rs) (drop (k + 1) rs) ∙ rw (map_take k rs, map_drop (k + 1) rs, add-one)

map_inserted : (k : ℕ) (r : Record) (rs : List Record) → map slot_of (take k rs ++ (r ∷ drop k rs)) ≡ insert_at k (slot_of r) (map slot_of rs)
unfolding insert_at
map_inserted k r rs = map-append slot_of (take k rs) (r ∷ drop k rs) ∙ rw (map_take k rs, map_drop k rs)

map_replaced : (k : ℕ) (r : Record) (rs : List Record) → k < length rs → map slot_of (take k rs ++ (r ∷ drop (k + 1) rs)) ≡ set (map slot_of rs) k (slot_of r)
map_replaced k r rs h =
    let n = length-map rs slot_of in
    map-append slot_of (take k rs) (r ∷ drop (k + 1) rs)
    ∙ rw (map_take k rs, map_drop (k + 1) rs, add-one) (sym (set_split (map slot_of rs) k (slot_of r) (omega arith)))

module _ (quota : ℕ) (rs : List Record) (q : all good_record rs ≡ true) (k : ℕ) where
  -- the slot of the k-th record taken out
  pub room_removed : length rs ≤ quota → k < length rs → closed (room_bytes quota rs) (k * 140) 140 ≡ room_bytes quota (take k rs ++ drop (k + 1) rs)
  room_removed h l =
      let n = length-map rs slot_of in
      ap (λ (s : List ℕ). closed s (k * 140) 140) (room_slots quota rs)
      ∙ room_remove 140 quota (map slot_of rs) (slots_each rs q) (omega arith) k (omega arith)
      ∙ ap (room_of 140 quota) (sym (map_removed k rs))
      ∙ sym (room_slots quota (take k rs ++ drop (k + 1) rs))

  module _ (r : Record) (g : good_record r ≡ true) where
    -- a record's slot put in before the k-th
    pub room_inserted : length rs < quota → k ≤ length rs → inserted (room_bytes quota rs) (k * 140) (slot_of r) ≡ room_bytes quota (take k rs ++ (r ∷ drop k rs))
    room_inserted h l =
        let n = length-map rs slot_of in
        ap (λ (s : List ℕ). inserted s (k * 140) (slot_of r)) (room_slots quota rs)
        ∙ room_insert 140 quota (map slot_of rs) (slots_each rs q) (omega arith) k (omega arith) (slot_of r) (length_slot r g)
        ∙ ap (room_of 140 quota) (sym (map_inserted k r rs))
        ∙ sym (room_slots quota (take k rs ++ (r ∷ drop k rs)))

    -- a record's slot in the place of the k-th
    pub room_replaced : length rs ≤ quota → k < length rs → paste (room_bytes quota rs) (k * 140) (slot_of r) 140 ≡ room_bytes quota (take k rs ++ (r ∷ drop (k + 1) rs))
    room_replaced h l =
        let n = length-map rs slot_of in
        ap (λ (s : List ℕ). paste s (k * 140) (slot_of r) 140) (room_slots quota rs)
        ∙ room_set 140 quota (map slot_of rs) (slots_each rs q) (omega arith) k (omega arith) (slot_of r) (length_slot r g)
        ∙ ap (room_of 140 quota) (sym (map_replaced k r rs l))
        ∙ sym (room_slots quota (take k rs ++ (r ∷ drop (k + 1) rs)))
