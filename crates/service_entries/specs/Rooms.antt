-- What the code finds in a room of good records and makes of it is what is said of the records.
-- Assumes nothing.
use Prim.Native.Nat.{ℕ, zero, suc, ◌+◌, ◌-◌, ◌*◌, ◌≤◌, ◌<◌}
use Rattle.std.specs.Prelude.{◌≡◌, ℕ, Bool, not, replicate, Result, Ok, Err, Some}
use Rattle.std.proofs.Math.Path.{refl, ap, subst}
use Rattle.std.proofs.Common.{sym, ◌∙◌, arith, lit≤, take-append-drop, take_at, take_all, take-take, take-add}
use Rattle.std.proofs.Math.Bool.{true, false}
use mathlib.Core.List.{List, [], ◌∷◌, ◌++◌, append_assoc, append-nil}
use Rattle.std.proofs.Math.Option.{Option, none, some}
use Rattle.std.proofs.Math.Nat.{sub-zero, zero-sub}
use Rattle.std.proofs.Math.Dec.{eqb}
use borrow.Author.Tests.{le-leb}
use Rattle.std.proofs.Math.ListN.{length, get_or, take, drop, length-append, length-drop}
use Rattle.std.proofs.lemmas.List.{length-replicate}
use Rattle.std.proofs.Math.Seq.{paste, take-append-add, drop-append-add, get_or-append-add, length-take-le}
use Rattle.laws.specs.Choice.{all}
use Rattle.laws.specs.Put.{put_at, put_room, put_front}
use Rattle.laws.specs.Filled.{filled_up}
use Rattle.gaps.specs.Move.{closed_in, inserted_in}
use Rattle.slots.specs.Find.{find_of, Within}
use Rattle.contents.specs.Contents.{Pending, nothing, put, removal, Record, good_number, is_calendar, good_record, good_account}
use Rattle.contents.specs.Written.{live_bytes, pending_bytes, slot_of, room_bytes}
use Rattle.contents.specs.Calls.{lookup, listed, changed, record_at}
use Rattle.rooms.specs.Order.{number_most, length_filled}
use Rattle.rooms.specs.Slots.{calendar_length, good_live, entries_parts, record_parts, record_number, length_slot, length_room, account_fits, account_records, account_order}
use Rattle.rooms.specs.Listed.{passes, count_of}
use Rattle.rooms.specs.Changes.{place_in, find_place, found_in, changed_at, place_within, lookup_place, changed_place}
use Rattle.rooms.specs.Changed.{changed_length, changed_account}
use Rattle.rooms.specs.Places.{record_within, record_there, record_good, slot_there, slot_byte, room_removed, room_inserted, room_replaced}
use Rattle.stages.specs.Stage.{is_removal, removed_by, removed, put_over}
use Rattle.stages.specs.Changing.{keeps_found, removed_keeps, put_keeps}
use Rattle.stages.specs.Kept.{removed_good, put_good, found_good}
use Rattle.service_entries.specs.Room.{is_live, known_of, look_in, number_bytes, known_at, known_by, look_at, put_entry, new_slot, put_by, put_in, slot_removed, remove_by, remove_in}

-- ---- numbers

drop_zeros : (k n : ℕ) → drop {A = ℕ} k (replicate n 0) ≡ replicate (n - k) 0
drop_zeros zero n = rw sub-zero
drop_zeros (suc k) zero = rw zero-sub
drop_zeros (suc k) (suc n) =
    let e : suc n - suc k ≡ n - k = omega arith in
    rw e (drop_zeros k n)

pub number_filled : (x : List ℕ) → good_number x ≡ true → number_bytes x ≡ filled_up 10 x
unfolding number_bytes filled_up
number_filled x g = put_front (replicate 10 0) x (number_most x g) ∙ ap (λ (l : List ℕ). x ++ l) (drop_zeros (length x) 10)

-- ---- a record's slot

length_live : (l : Option (List ℕ)) → good_live l ≡ true → length (live_bytes l) ≡ 65
unfolding live_bytes
length_live none q = refl
length_live (some c) q = ap suc (calendar_length c q)

live_first : (l : Option (List ℕ)) (t : List ℕ) → not (eqb (get_or (live_bytes l ++ t) 0 0) 0) ≡ is_live l
unfolding live_bytes
live_first none t = refl
live_first (some c) t = refl

removal_first : (p : Pending) → eqb (get_or (pending_bytes p) 0 0) 2 ≡ is_removal p
unfolding pending_bytes
removal_first nothing = refl
removal_first (put c) = refl
removal_first removal = refl

not_is : (a b : Bool) → not a ≡ not b → a ≡ b
not_is true true q = refl
not_is true false q = sym q
not_is false true q = sym q
not_is false false q = refl

module _ (r : Record) (q : good_record r ≡ true) where
  abbrev number : List ℕ
  number = filled_up 10 r.number

  ten : length (filled_up 10 r.number) ≡ 10
  ten = length_filled r.number (record_number r q)

  lives : length (live_bytes r.live) ≡ 65
  lives = length_live r.live (entries_parts r.live r.pending (record_parts r q).1).0

  live_flag : not (eqb (get_or (slot_of r) 10 0) 0) ≡ is_live r.live
  unfolding slot_of
  live_flag =
      let t : List ℕ = live_bytes r.live ++ pending_bytes r.pending in
      let e : get_or (number ++ t) 10 0 ≡ get_or t 0 0 = ap (λ (i : ℕ). get_or (number ++ t) (i + 0) 0) (sym ten) ∙ get_or-append-add number t 0 0 in
      rw e (live_first r.live (pending_bytes r.pending))

  removal_flag : eqb (get_or (slot_of r) 75 0) 2 ≡ is_removal r.pending
  unfolding slot_of
  removal_flag =
      let l : List ℕ = live_bytes r.live in
      let p : List ℕ = pending_bytes r.pending in
      let a : get_or (number ++ (l ++ p)) 75 0 ≡ get_or (l ++ p) 65 0 = ap (λ (i : ℕ). get_or (number ++ (l ++ p)) (i + 65) 0) (sym ten) ∙ get_or-append-add number (l ++ p) 65 0 in
      let b : get_or (l ++ p) 65 0 ≡ get_or p 0 0 = ap (λ (i : ℕ). get_or (l ++ p) (i + 0) 0) (sym lives) ∙ get_or-append-add l p 0 0 in
      rw (a, b) (removal_first r.pending)

  -- the same record with another pending entry: the last 65 bytes change
  pub other_pending : (p : Pending) → take 75 (slot_of r) ++ pending_bytes p ≡ slot_of (record { number = r.number; live = r.live; pending = p })
  unfolding slot_of
  other_pending p =
      let l : List ℕ = live_bytes r.live in
      let t : List ℕ = pending_bytes r.pending in
      let n = ten in
      let m = lives in
      let k : length (number ++ l) ≡ 75 = simp length-append (omega arith) in
      ap (λ (x : List ℕ). take 75 x ++ pending_bytes p) (sym (append_assoc number l t))
      ∙ ap (λ (x : List ℕ). x ++ pending_bytes p) (take_at (number ++ l) t 75 k)
      ∙ append_assoc number l (pending_bytes p)

-- to write over the last 65 bytes of a slot is to write the slot with these
put_end : (s t e : List ℕ) (at : ℕ) → at + 140 ≤ length s → length e ≡ 65 → take 140 (drop at s) ≡ t → put_at s (at + 75) e ≡ paste s at (take 75 t ++ e) 140
put_end s t e at h n q =
    let d = length-drop at s in
    let l : length t ≡ 140 = sym (ap length q) ∙ length-take-le 140 (drop at s) (omega arith) in
    let a = length-take-le 75 t (omega arith) in
    let m : length (take 75 t ++ e) ≡ 140 = length-append (take 75 t) e ∙ omega arith in
    let u : take 75 (drop at s) ≡ take 75 t = sym (take-take 75 140 (drop at s) (lit≤ tt)) ∙ ap (take 75) q in
    let z : at + 75 + 65 ≡ at + 140 = omega arith in
    put_room s (at + 75) e (omega arith)
    ∙ rw (n, take-add at 75 s, u, z, take_all 140 (take 75 t ++ e) (omega arith), take_all 65 e (omega arith))
    (ap (λ (x : List ℕ). x ++ drop (at + 140) s) (append_assoc (take at s) (take 75 t) e))

-- the slot of a number with nothing live
slot_parts : (n e : List ℕ) → length n ≡ 10 → length e ≡ 65 → new_slot n e ≡ n ++ (replicate 65 0 ++ e)
unfolding new_slot
slot_parts n e l m =
    let z : List ℕ = replicate 130 0 in
    let a : put_at (replicate 140 0) 0 n ≡ n ++ z = put_front (replicate 140 0) n (omega (arith, length-replicate {A = ℕ} 140 0)) ∙ ap (λ (i : ℕ). n ++ drop i (replicate 140 0)) l in
    let k : length (n ++ z) ≡ 140 = length-append n z ∙ omega (arith, length-replicate {A = ℕ} 130 0) in
    let b : take 75 (n ++ z) ≡ n ++ replicate 65 0 = ap (λ (i : ℕ). take (i + 65) (n ++ z)) (sym l) ∙ take-append-add n z 65 in
    let d : drop 140 (n ++ z) ≡ [] = ap (λ (i : ℕ). drop (i + 130) (n ++ z)) (sym l) ∙ drop-append-add n z 130 in
    ap (λ (y : List ℕ). put_at y 75 e) a
    ∙ put_room (n ++ z) 75 e (omega arith)
    ∙ rw (m, take_all 65 e (omega arith), b, d)
    (append-nil ((n ++ replicate 65 0) ++ e) ∙ append_assoc n (replicate 65 0) e)

new_slot_lem : (x c : List ℕ) → good_number x ≡ true → is_calendar c ≡ true → new_slot (filled_up 10 x) (put_entry c) ≡ slot_of (record { number = x; live = none; pending = put c })
unfolding slot_of live_bytes pending_bytes
new_slot_lem x c g h = slot_parts (filled_up 10 x) (put_entry c) (length_filled x g) (ap suc (calendar_length c h))

-- ---- on a room

-- a removal makes no record, a put takes none out
removed_count : (o : Option Record) → count_of (removed o) ≤ count_of o
removed_count none = omega arith
removed_count (some r) = go r.live
  where
    go : (l : Option (List ℕ)) → count_of (removed_by r l) ≤ 1
    go none = omega arith
    go (some c) = omega arith

pub put_count : (x c : List ℕ) (o : Option Record) → count_of o ≤ count_of (put_over x c o)
put_count x c none = omega arith
put_count x c (some r) = omega arith

module _ (quota : ℕ) (rs : List Record) (g : good_account quota rs ≡ true) where
  abbrev room : List ℕ
  room = room_bytes quota rs

  records : all good_record rs ≡ true
  records = account_records quota rs g

  fits : length rs ≤ quota
  fits = account_fits quota rs g

  size : length (room_bytes quota rs) ≡ quota * 140
  size = length_room quota rs records fits

  -- the slot at a place
  module _ (k : ℕ) (r : Record) (e : record_at k rs ≡ some r) where
    good_at : good_record r ≡ true
    good_at = record_good k rs r records e

    within : k * 140 + 140 ≤ length room
    within =
        let l = size in
        let h = fits in
        let w = record_within k rs r e in
        omega arith

    byte : (j : ℕ) → j < 140 → get_or room (k * 140 + j) 0 ≡ get_or (slot_of r) j 0
    byte j h = slot_byte quota rs k r records fits e j h

    known_there : Some (known_at room (k * 140)) ≡ known_of (some r)
    unfolding known_at known_of
    known_there = rw (byte 10 (lit≤ tt), byte 75 (lit≤ tt), live_flag r good_at, removal_flag r good_at)

    pending_there : (p : Pending) → good_record (record { number = r.number; live = r.live; pending = p }) ≡ true → length (pending_bytes p) ≡ 65
        → put_at room (k * 140 + 75) (pending_bytes p) ≡ room_bytes quota (take k rs ++ (record { number = r.number; live = r.live; pending = p } ∷ drop (k + 1) rs))
    pending_there p h n =
        put_end room (slot_of r) (pending_bytes p) (k * 140) within n (slot_there quota rs k r records fits e)
        ∙ ap (λ (x : List ℕ). paste room (k * 140) x 140) (other_pending r good_at p)
        ∙ room_replaced quota rs records k (record { number = r.number; live = r.live; pending = p }) h fits (record_within k rs r e)

    removed_there : (l : Option (List ℕ)) → r.live ≡ l → slot_removed room (k * 140) ≡ room_bytes quota (take k rs ++ (listed (removed_by r l) ++ drop (k + 1) rs))
    unfolding slot_removed closed_in pending_bytes
    removed_there none q =
        let f : eqb (get_or room (k * 140 + 10) 0) 0 ≡ true = not_is (eqb (get_or room (k * 140 + 10) 0) 0) true (rw (byte 10 (lit≤ tt)) (live_flag r good_at ∙ ap is_live q)) in
        rw (f, le-leb (k * 140 + 140) (length room) within) (room_removed quota rs records k fits (record_within k rs r e))
    removed_there (some c) q =
        let f : eqb (get_or room (k * 140 + 10) 0) 0 ≡ false = not_is (eqb (get_or room (k * 140 + 10) 0) 0) false (rw (byte 10 (lit≤ tt)) (live_flag r good_at ∙ ap is_live q)) in
        let h : good_record (record { number = r.number; live = some c; pending = removal }) ≡ true = ap (λ (l : Option (List ℕ)). passes good_record (removed_by r l)) (sym q) ∙ removed_good (some r) good_at in
        let h₂ : good_record (record { number = r.number; live = r.live; pending = removal }) ≡ true = subst (λ (l : Option (List ℕ)). good_record (record { number = r.number; live = l; pending = removal }) ≡ true) (sym q) h in
        rw f
        (subst (λ (l : Option (List ℕ)). put_at room (k * 140 + 75) (pending_bytes removal) ≡ room_bytes quota (take k rs ++ (record { number = r.number; live = l; pending = removal } ∷ drop (k + 1) rs))) q
        (pending_there removal h₂ refl))

    put_there : (x c : List ℕ) → good_number x ≡ true → is_calendar c ≡ true → put_at room (k * 140 + 75) (put_entry c) ≡ room_bytes quota (take k rs ++ (listed (put_over x c (some r)) ++ drop (k + 1) rs))
    unfolding pending_bytes
    put_there x c n h = pending_there (put c) (put_good x c n h (some r) good_at) (ap suc (calendar_length c h))

  -- by the place that is found
  known_by_lem : (p : Result ℕ ℕ) → Within (length rs) p → known_by room p ≡ known_of (found_in p rs)
  unfolding known_of
  known_by_lem (Err k) w = refl
  known_by_lem (Ok k) w =
      let t = record_there k rs w in
      rw t.1 (known_there k t.0 t.1)

  remove_by_lem : (p : Result ℕ ℕ) → Within (length rs) p → remove_by room p ≡ room_bytes quota (changed_at p removed rs)
  unfolding changed_at
  remove_by_lem (Err k) w = ap (room_bytes quota) (sym (take-append-drop k rs))
  remove_by_lem (Ok k) w =
      let t = record_there k rs w in
      rw t.1 (removed_there k t.0 t.1 t.0.live refl)

  put_by_lem : (x c : List ℕ) → good_number x ≡ true → is_calendar c ≡ true → (p : Result ℕ ℕ) → Within (length rs) p → length (changed_at p (put_over x c) rs) ≤ quota
      → put_by room (filled_up 10 x) (put_entry c) p ≡ room_bytes quota (changed_at p (put_over x c) rs)
  unfolding changed_at inserted_in
  put_by_lem x c n h (Err k) w l =
      let new : Record = record { number = x; live = none; pending = put c } in
      let q : good_record new ≡ true = put_good x c n h none refl in
      let z = size in
      let a = length-take-le k rs w in
      let b = length-drop k rs in
      let d = length-append (take k rs) (new ∷ drop k rs) in
      let m = length_slot new q in
      let s = new_slot_lem x c n h in
      rw (s, le-leb (k * 140 + length (slot_of new)) (length room) (omega arith)) (room_inserted quota rs records k new q (omega arith) w)
  put_by_lem x c n h (Ok k) w l =
      let t = record_there k rs w in
      rw t.1 (put_there k t.0 t.1 x c n h)

  module _ (x : List ℕ) (n : good_number x ≡ true) where
    place : find_of room (number_bytes x) ≡ place_in x rs 0
    place = ap (find_of room) (number_filled x n) ∙ find_place quota rs x g n

    -- what a room holds of a number is what the records say
    pub look_room : look_at room x ≡ look_in rs x
    unfolding look_at
    look_room = ap (known_by room) place ∙ known_by_lem (place_in x rs 0) (place_within x rs) ∙ ap known_of (sym (lookup_place x rs (account_order quota rs g)))

    pub remove_room : remove_in room (number_bytes x) ≡ room_bytes quota (changed x removed rs)
    unfolding remove_in
    remove_room = ap (remove_by room) place ∙ remove_by_lem (place_in x rs 0) (place_within x rs) ∙ ap (room_bytes quota) (sym (changed_place x removed rs))

    removed_length : length (changed x removed rs) ≤ length rs
    removed_length =
        let l = changed_length x removed rs (account_order quota rs g) in
        let c = removed_count (lookup x rs) in
        omega arith

    pub removed_account : good_account quota (changed x removed rs) ≡ true
    removed_account =
        let h = fits in
        let l = removed_length in
        changed_account x removed quota rs g (keeps_found x removed rs (account_order quota rs g) (removed_keeps x)) (removed_good (lookup x rs) (found_good x rs records)) (omega arith)

    module _ (c : List ℕ) (h : is_calendar c ≡ true) where
      module _ (l : length (changed x (put_over x c) rs) ≤ quota) where
        pub put_room_of : put_in room (number_bytes x) (put_entry c) ≡ room_bytes quota (changed x (put_over x c) rs)
        unfolding put_in
        put_room_of =
            ap (λ (y : List ℕ). put_by room y (put_entry c) (find_of room y)) (number_filled x n)
            ∙ ap (put_by room (filled_up 10 x) (put_entry c)) (find_place quota rs x g n)
            ∙ put_by_lem x c n h (place_in x rs 0) (place_within x rs) (rw (← changed_place x (put_over x c) rs) l)
            ∙ ap (room_bytes quota) (sym (changed_place x (put_over x c) rs))

        pub put_account : good_account quota (changed x (put_over x c) rs) ≡ true
        put_account =
            changed_account x (put_over x c) quota rs g (keeps_found x (put_over x c) rs (account_order quota rs g) (put_keeps x c)) (put_good x c n h (lookup x rs) (found_good x rs records)) l
