-- Release and withdraw on the room of good records are release and withdraw on the records.
-- Assumes nothing.
use Rattle.std.specs.Prelude.{◌≡◌, Bool, not, List, [], ◌∷◌, ◌++◌, map, ℕ, ◌+◌, ◌-◌, ◌*◌, ◌≤◌, eqb, get_or, take, drop, replicate, Result, Ok, Err}
use Rattle.std.proofs.Math.Path.{refl, ap}
use Rattle.std.proofs.Common.{sym, ◌∙◌, subst, append_assoc, lit≤, length-append, length-drop, take_at, take-add, take-take, length-take-le, take_all}
use Rattle.std.proofs.Math.Bool.{true, false}
use Rattle.std.proofs.Math.Option.{Option, none, some}
use native.Mathlib.Omega.{arith}
use Rattle.std.proofs.Math.ListN.{length, length-map}
use Rattle.std.proofs.lemmas.List.{length-replicate}
use Rattle.std.proofs.Math.Seq.{paste}
use Rattle.laws.specs.Choice.{pick, choose, all, both_parts}
use Rattle.laws.specs.Joined.{joined, length_each}
use Rattle.laws.specs.Filled.{filled_up}
use Rattle.slots.specs.Find.{Within}
use Rattle.contents.specs.Contents.{Pending, nothing, put, removal, Record, is_calendar, good_entries, good_number, good_record, good_account}
use Rattle.contents.specs.Written.{live_bytes, pending_bytes, slot_of, live_in, pending_in, record_in, room_bytes}
use Rattle.contents.specs.Calls.{lookup, listed, changed, is_pending, has_pending, pending_count, released, withdrawn, kept_live, record_at}
use Rattle.contents.specs.Calls as calls
use Rattle.rooms.specs.Order.{length_filled}
use Rattle.rooms.specs.Slots.{calendar_length, good_live, entries_parts, record_number, record_parts, slot_number, slot_again, slots_each, length_room, account_fits, account_records, account_order}
use Rattle.rooms.specs.Lookup.{none≢some, lookup_bad}
use Rattle.rooms.specs.Changes.{place_in, find_place, found_in, changed_at, place_within, lookup_place, changed_place}
use Rattle.rooms.specs.Places.{record_within, record_there, record_good, slot_there, slot_byte, used_slots_lem, room_removed, room_replaced}
use Rattle.rooms.specs.Settled.{released_good}
use Rattle.entries.specs.Release.{made_live, slot_settled_by, settled_slot, settled_slots, pending_one, pending_slots, used_slots, released_room}
use Rattle.entries.specs.Withdraw.{slot_found, withdraws_at, left_at, withdraws, withdrawn_room}
use Rattle.entries.specs.Withdrawing.{found_is}

-- ---- what a record's slot says of it

module _ (r : Record) (q : good_record r ≡ true) where
  pending_slot : pending_in (slot_of r) ≡ r.pending
  unfolding record_in
  pending_slot = ap (λ (p : Record). p.pending) (slot_again r q)

  live_slot : live_in (slot_of r) ≡ r.live
  unfolding record_in
  live_slot = ap (λ (p : Record). p.live) (slot_again r q)

-- the byte that says what is pending, and the one that says whether something is live
pending_byte : (slot : List ℕ) → not (eqb (get_or slot 75 0) 0) ≡ is_pending (pending_in slot)
pending_byte slot =
    choose (eqb (get_or slot 75 0) 0)
    (λ p. rw p)
    (λ p. choose (eqb (get_or slot 75 0) 1) (λ t. rw (p, t)) (λ t. rw (p, t)))

one_byte : (slot : List ℕ) → pending_one slot ≡ pick (is_pending (pending_in slot)) 1 0
unfolding pending_one
one_byte slot =
    choose (eqb (get_or slot 75 0) 0)
    (λ p. rw p)
    (λ p. choose (eqb (get_or slot 75 0) 1) (λ t. rw (p, t)) (λ t. rw (p, t)))

put_is : (c d : List ℕ) → ◌≡◌ {A = Pending} (put c) (put d) → c ≡ d
put_is c d q = cc

nothing≢put : (c : List ℕ) → nothing ≡ put c → ⊥
nothing≢put c q = let z : ◌≡◌ {A = ℕ} 0 1 = cc in omega arith

removal≢put : (c : List ℕ) → removal ≡ put c → ⊥
removal≢put c q = let z : ◌≡◌ {A = ℕ} 0 1 = cc in omega arith

-- the calendar that is put
put_days : (slot c : List ℕ) → pending_in slot ≡ put c → take 64 (drop 76 slot) ≡ c
put_days slot c =
    choose (eqb (get_or slot 75 0) 0)
    (λ p. rw p (λ q. absurd (nothing≢put c q)))
    (λ p. choose (eqb (get_or slot 75 0) 1) (λ t. rw (p, t) (λ q. put_is (take 64 (drop 76 slot)) c q)) (λ t. rw (p, t) (λ q. absurd (removal≢put c q))))

-- ---- release

live_made : (r : Record) (c : List ℕ) → good_record r ≡ true → r.pending ≡ put c → made_live (slot_of r) ≡ slot_of (record { number = r.number; live = some c; pending = nothing })
unfolding made_live live_bytes pending_bytes slot_of
live_made r c q e = rw (slot_number r q, put_days (slot_of r) c (pending_slot r q ∙ e), slot_of)

settled_records : (rs : List Record) → all good_record rs ≡ true → settled_slots (map slot_of rs) ≡ joined (map slot_of (released rs))
unfolding settled_slots settled_slot released joined
settled_records [] q = refl
settled_records (r ∷ rs) q = rw (settled_slot, pending_slot r w.0, settled_records rs w.1) (go r.pending refl)
  where
    w : (good_record r ≡ true) × (all good_record rs ≡ true)
    w = both_parts (good_record r) (all good_record rs) q

    go : (p : Pending) → r.pending ≡ p → slot_settled_by (slot_of r) p ++ joined (map slot_of (released rs)) ≡ joined (map slot_of (listed (calls.settled_by r p) ++ released rs))
    go nothing e = refl
    go (put c) e = rw (live_made r c w.0 e)
    go removal e = refl

pending_records : (rs : List Record) → all good_record rs ≡ true → pending_slots (map slot_of rs) ≡ pending_count rs
unfolding pending_slots pending_count
pending_records [] q = refl
pending_records (r ∷ rs) q =
    let w = both_parts (good_record r) (all good_record rs) q in
    rw (one_byte (slot_of r), pending_slot r w.0, pending_records rs w.1)

module _ (quota : ℕ) (rs : List Record) (g : good_account quota rs ≡ true) where
  -- "Returns the number of entries"
  pub release_count : pending_slots (used_slots (room_bytes quota rs)) ≡ pending_count rs
  unfolding used_slots
  release_count = let q = account_records quota rs g in ap pending_slots (used_slots_lem quota rs q) ∙ pending_records rs q

  pub release_left : released_room (room_bytes quota rs) ≡ room_bytes quota (released rs)
  unfolding released_room used_slots room_bytes filled_up
  release_left =
      let q = account_records quota rs g in
      let h = account_fits quota rs g in
      let k = account_fits quota (released rs) (released_good quota rs g) in
      let e = length_each 140 (map slot_of (released rs)) (slots_each (released rs) (account_records quota (released rs) (released_good quota rs g))) in
      let m = length-map (released rs) slot_of in
      let l = length_room quota rs q h in
      let n : length (room_bytes quota rs) - length (joined (map slot_of (released rs))) ≡ (quota - length (released rs)) * 140 = omega arith in
      rw (used_slots_lem quota rs q, settled_records rs q, n)

-- ---- withdraw

-- a slot with its last 65 bytes cleared is that of the record with nothing pending
cleared : (r : Record) (c : List ℕ) → good_record r ≡ true → r.live ≡ some c
    → take 75 (slot_of r) ++ replicate 65 0 ≡ slot_of (record { number = r.number; live = some c; pending = nothing })
unfolding slot_of live_bytes pending_bytes
cleared r c q e =
    let n : List ℕ = filled_up 10 r.number in
    let t : List ℕ = pending_bytes r.pending in
    let l = length_filled r.number (record_number r q) in
    let m = calendar_length c (subst (λ (o : Option (List ℕ)). good_live o ≡ true) e (entries_parts r.live r.pending (record_parts r q).1).0) in
    let k : length (n ++ (1 ∷ c)) ≡ 75 = simp length-append (omega arith) in
    ap (λ (o : Option (List ℕ)). take 75 (n ++ (live_bytes o ++ t)) ++ replicate 65 0) e
    ∙ ap (λ (x : List ℕ). take 75 x ++ replicate 65 0) (sym (append_assoc n (1 ∷ c) t))
    ∙ ap (λ (x : List ℕ). x ++ replicate 65 0) (take_at (n ++ (1 ∷ c)) t 75 k)
    ∙ append_assoc n (1 ∷ c) (replicate 65 0)

-- to clear the end of a slot is to write the cleared slot
paste_end : (s t : List ℕ) (at : ℕ) → at + 140 ≤ length s → take 140 (drop at s) ≡ t → paste s (at + 75) (replicate 65 0) 65 ≡ paste s at (take 75 t ++ replicate 65 0) 140
paste_end s t at h e =
    let d = length-drop at s in
    let n : length (take 75 t ++ replicate 65 0) ≡ 140 =
    let l : length t ≡ 140 = sym (ap length e) ∙ length-take-le 140 (drop at s) (omega arith) in
    let a = length-take-le 75 t (omega arith) in
    length-append (take 75 t) (replicate 65 0) ∙ omega (arith, length-replicate {A = ℕ} 65 0) in
    let u : take 75 (drop at s) ≡ take 75 t = sym (take-take 75 140 (drop at s) (lit≤ tt)) ∙ ap (take 75) e in
    let z : at + 75 + 65 ≡ at + 140 = omega arith in
    rw (take-add at 75 s, u, z, take_all 140 (take 75 t ++ replicate 65 0) (omega arith)) (ap (λ (x : List ℕ). x ++ drop (at + 140) s) (append_assoc (take at s) (take 75 t) (replicate 65 0)))

-- the byte that says whether something is live
live_none : (slot : List ℕ) → live_in slot ≡ none → eqb (get_or slot 10 0) 0 ≡ true
live_none slot = choose (eqb (get_or slot 10 0) 0) (λ p q. p) (λ p. rw p (λ q. absurd (none≢some (sym q))))

live_some : (slot c : List ℕ) → live_in slot ≡ some c → eqb (get_or slot 10 0) 0 ≡ false
live_some slot c = choose (eqb (get_or slot 10 0) 0) (λ p. rw p (λ q. absurd (none≢some q))) (λ p q. p)

eqb_of : (s : List ℕ) (i : ℕ) (b : Bool) → not (eqb (get_or s i 0) 0) ≡ b → eqb (get_or s i 0) 0 ≡ not b
eqb_of s i b q = choose (eqb (get_or s i 0) 0) (λ p. rw p (ap not (rw p at q))) (λ p. rw p (ap not (rw p at q)))

-- the record that stays where something is live
abbrev kept : Record → List ℕ → Record
kept r c = record { number = r.number; live = some c; pending = nothing }

kept_good : (r : Record) (c : List ℕ) → good_record r ≡ true → r.live ≡ some c → good_record (kept r c) ≡ true
unfolding good_record good_entries
kept_good r c q e =
    let m : is_calendar c ≡ true = subst (λ (o : Option (List ℕ)). good_live o ≡ true) e (entries_parts r.live r.pending (record_parts r q).1).0 in
    rw (record_number r q, m)

module _ (quota : ℕ) (rs : List Record) (g : good_account quota rs ≡ true) where
  -- the slot at a place
  module _ (k : ℕ) (r : Record) (e : record_at k rs ≡ some r) where
    abbrev room : List ℕ
    room = room_bytes quota rs

    is_good_lem : good_record r ≡ true
    is_good_lem = record_good k rs r (account_records quota rs g) e

    pending_there : not (eqb (get_or room (k * 140 + 75) 0) 0) ≡ is_pending r.pending
    pending_there =
        rw (slot_byte quota rs k r (account_records quota rs g) (account_fits quota rs g) e 75 (lit≤ tt))
        (pending_byte (slot_of r) ∙ ap is_pending (pending_slot r is_good_lem))

    withdraws_at_lem : withdraws_at room (k * 140) ≡ is_pending r.pending
    unfolding withdraws_at
    withdraws_at_lem = pending_there

    within : k * 140 + 140 ≤ length room
    within =
        let h = account_fits quota rs g in
        let l = length_room quota rs (account_records quota rs g) h in
        let w = record_within k rs r e in
        omega arith

    -- what is left of the room, by what is live and what is pending
    left_at_lem : (l : Option (List ℕ)) → r.live ≡ l → (p : Bool) → is_pending r.pending ≡ p
        → left_at room (k * 140) ≡ room_bytes quota (pick p (take k rs ++ (listed (kept_live r l) ++ drop (k + 1) rs)) rs)
    unfolding left_at
    left_at_lem l e₂ false q =
        rw (eqb_of room (k * 140 + 75) false (pending_there ∙ q))
    left_at_lem none e₂ true q =
        let q₂ = account_records quota rs g in
        let h = account_fits quota rs g in
        let b = slot_byte quota rs k r q₂ h e 10 (lit≤ tt) in
        rw (eqb_of room (k * 140 + 75) true (pending_there ∙ q), b, live_none (slot_of r) (live_slot r is_good_lem ∙ e₂)) (room_removed quota rs q₂ k h (record_within k rs r e))
    left_at_lem (some c) e₂ true q =
        let q₂ = account_records quota rs g in
        let h = account_fits quota rs g in
        let b = slot_byte quota rs k r q₂ h e 10 (lit≤ tt) in
        rw (eqb_of room (k * 140 + 75) true (pending_there ∙ q), b, live_some (slot_of r) c (live_slot r is_good_lem ∙ e₂))
        (paste_end room (slot_of r) (k * 140) within (slot_there quota rs k r q₂ h e)
        ∙ rw (cleared r c is_good_lem e₂) (room_replaced quota rs q₂ k (kept r c) (kept_good r c is_good_lem e₂) h (record_within k rs r e)))

  -- by the place that is found
  withdraw_by : (p : Result ℕ ℕ) → Within (length rs) p
      → (withdraws (room_bytes quota rs) p ≡ has_pending (found_in p rs))
      × (withdrawn_room (room_bytes quota rs) p ≡ room_bytes quota (pick (has_pending (found_in p rs)) (changed_at p withdrawn rs) rs))
  unfolding withdraws withdrawn_room changed_at
  withdraw_by (Err k) w = (refl, refl)
  withdraw_by (Ok k) w =
      let t = record_there k rs w in
      let r = t.0 in
      let e = t.1 in
      (rw e (withdraws_at_lem k r e), rw e (left_at_lem k r e r.live refl (is_pending r.pending) refl))

  module _ (x : List ℕ) where
    -- a text that is no number is in no record
    withdraw_text : (b : Bool) → good_number x ≡ b
        → (withdraws (room_bytes quota rs) (slot_found (room_bytes quota rs) x) ≡ has_pending (lookup x rs))
        × (withdrawn_room (room_bytes quota rs) (slot_found (room_bytes quota rs) x) ≡ room_bytes quota (pick (has_pending (lookup x rs)) (changed x withdrawn rs) rs))
    unfolding slot_found withdraws withdrawn_room
    withdraw_text false q = (rw (q, lookup_bad x rs (account_records quota rs g) q), rw (q, lookup_bad x rs (account_records quota rs g) q))
    withdraw_text true q =
        let w = withdraw_by (place_in x rs 0) (place_within x rs) in
        let f : slot_found (room_bytes quota rs) x ≡ place_in x rs 0 = found_is (room_bytes quota rs) x q ∙ find_place quota rs x g q in
        rw (f, lookup_place x rs (account_order quota rs g), changed_place x withdrawn rs) w

    pub withdraw_told : withdraws (room_bytes quota rs) (slot_found (room_bytes quota rs) x) ≡ has_pending (lookup x rs)
    withdraw_told = (withdraw_text (good_number x) refl).0

    pub withdraw_left : withdrawn_room (room_bytes quota rs) (slot_found (room_bytes quota rs) x) ≡ room_bytes quota (pick (has_pending (lookup x rs)) (changed x withdrawn rs) rs)
    withdraw_left = (withdraw_text (good_number x) refl).1
