-- A record's slot, read again; the slots of an account's records as a room of `records`.
-- Assumes nothing.
use Rattle.std.specs.Prelude.{◌≡◌, refl, Bool, true, leb, ltb, eqb, take, drop}
use Rattle.std.proofs.Common.{sym, ◌∙◌, ap, arith, eqb-true, leb-true, le-leb, take_all, get_or-append-add}
use Rattle.std.proofs.Math.Path.{subst}
use mathlib.Core.List.{List, [], ◌∷◌, ◌++◌, map, append_assoc}
use Rattle.std.proofs.Math.Option.{Option, none, some}
use Prim.Native.Nat.{ℕ, suc, ◌+◌, ◌-◌, ◌*◌, ◌≤◌}
use Rattle.std.proofs.Math.ListN.{length, get_or, replicate, length-append}
use Rattle.std.proofs.lemmas.List.{length-replicate, length-map, get_or_at}
use Rattle.std.proofs.Math.Seq.{take_at, drop-append-add}
use Rattle.laws.specs.Choice.{both, all, both_parts, false≢true}
use Rattle.laws.specs.Joined.{Each, joined_append, length_each}
use Rattle.laws.specs.Filled.{filled_up}
use Rattle.slots.specs.Rising.{rises, rising}
use Rattle.records.specs.Found.{Used}
use Rattle.records.specs.Padded.{NoZero}
use Rattle.records.specs.Room.{padded, room_of}
use Rattle.records.specs.Read.{joined_zeros}
use Rattle.contents.specs.Contents.{Pending, nothing, put, removal, Record, good_number, is_calendar, good_entries, good_record, comes_before, in_order, good_account}
use Rattle.contents.specs.Written.{live_bytes, pending_bytes, slot_of, room_bytes, up_to_zero, live_in, pending_in, record_in}
use Rattle.rooms.specs.Order.{before_order, number_least, number_used, length_filled, number_again, number_order_lem}

-- ---- a record's three parts

pub calendar_length : (c : List ℕ) → is_calendar c ≡ true → length c ≡ 64
unfolding is_calendar
calendar_length c q = eqb-true (length c) 64 (both_parts (eqb (length c) 64) (all (λ b. ltb b 256) c) q).0

-- the entries' calendars, where there are any
abbrev pub good_live : Option (List ℕ) → Bool
good_live none = true
good_live (some c) = is_calendar c

abbrev pub good_pending : Pending → Bool
good_pending nothing = true
good_pending (put c) = is_calendar c
good_pending removal = true

pub entries_parts : (l : Option (List ℕ)) (p : Pending) → good_entries l p ≡ true → (good_live l ≡ true) × (good_pending p ≡ true)
unfolding good_entries
entries_parts none nothing q = absurd (false≢true q)
entries_parts none (put c) q = (refl, q)
entries_parts none removal q = absurd (false≢true q)
entries_parts (some l) nothing q = (q, refl)
entries_parts (some l) (put c) q = both_parts (is_calendar l) (is_calendar c) q
entries_parts (some l) removal q = (q, refl)

length_live : (l : Option (List ℕ)) → good_live l ≡ true → length (live_bytes l) ≡ 65
unfolding live_bytes
length_live none q = refl
length_live (some c) q = ap suc (calendar_length c q)

length_pending : (p : Pending) → good_pending p ≡ true → length (pending_bytes p) ≡ 65
unfolding pending_bytes
length_pending nothing q = refl
length_pending (put c) q = ap suc (calendar_length c q)
length_pending removal q = refl

-- what stands behind the first ten bytes
module _ (n l : List ℕ) (h : length n ≡ 10) where
  behind_at : (k : ℕ) → get_or (n ++ l) (10 + k) 0 ≡ get_or l k 0
  behind_at k = ap (λ (i : ℕ). get_or (n ++ l) (i + k) 0) (sym h) ∙ get_or-append-add n l k 0

  behind_from : (k : ℕ) → drop (10 + k) (n ++ l) ≡ drop k l
  behind_from k = ap (λ (i : ℕ). drop (i + k) (n ++ l)) (sym h) ∙ drop-append-add n l k

live_again : (n p : List ℕ) (l : Option (List ℕ)) → length n ≡ 10 → good_live l ≡ true → live_in (n ++ (live_bytes l ++ p)) ≡ l
unfolding live_bytes
live_again n p none h q = rw (behind_at n (0 ∷ (replicate 64 0 ++ p)) h 0)
live_again n p (some c) h q =
    rw (behind_at n (1 ∷ (c ++ p)) h 0, behind_from n (1 ∷ (c ++ p)) h 1) (ap some (take_at c p 64 (calendar_length c q)))

pending_again : (n l : List ℕ) (p : Pending) → length n ≡ 10 → length l ≡ 65 → good_pending p ≡ true → pending_in (n ++ (l ++ pending_bytes p)) ≡ p
unfolding pending_bytes
pending_again n l nothing h k q = rw (behind_at n (l ++ (0 ∷ replicate 64 0)) h 65, get_or_at l 0 (replicate 64 0) 0 65 k)
pending_again n l (put c) h k q =
    let d : drop 66 (l ++ (1 ∷ c)) ≡ c = ap (λ (i : ℕ). drop (i + 1) (l ++ (1 ∷ c))) (sym k) ∙ drop-append-add l (1 ∷ c) 1 in
    let e = calendar_length c q in
    rw (behind_at n (l ++ (1 ∷ c)) h 65, get_or_at l 1 c 0 65 k, behind_from n (l ++ (1 ∷ c)) h 66) (ap put (ap (take 64) d ∙ take_all 64 c (omega arith)))
pending_again n l removal h k q = rw (behind_at n (l ++ (2 ∷ replicate 64 0)) h 65, get_or_at l 2 (replicate 64 0) 0 65 k)

-- ---- a record's slot

made : {n m : List ℕ} {l k : Option (List ℕ)} {p o : Pending} → n ≡ m → l ≡ k → p ≡ o
    → ◌≡◌ {A = Record} (record { number = n; live = l; pending = p }) (record { number = m; live = k; pending = o })
made e f g = rw (e, f, g)

first_used : (x t : List ℕ) → NoZero x → 1 ≤ length x → get_or (x ++ t) 0 0 ≡ 0 → ⊥
first_used [] t u h = absurd (omega arith)
first_used (b ∷ x) t u h = u.0

module _ (r : Record) (q : good_record r ≡ true) where
  pub record_parts : (good_number r.number ≡ true) × (good_entries r.live r.pending ≡ true)
  unfolding good_record
  record_parts = both_parts (good_number r.number) (good_entries r.live r.pending) q

  pub record_number : good_number r.number ≡ true
  record_number = record_parts.0

  entries_good : (good_live r.live ≡ true) × (good_pending r.pending ≡ true)
  entries_good = entries_parts r.live r.pending record_parts.1

  ten : length (filled_up 10 r.number) ≡ 10
  ten = length_filled r.number record_number

  pub length_slot : length (slot_of r) ≡ 140
  unfolding slot_of
  length_slot =
      let n = ten in
      let l = length_live r.live entries_good.0 in
      let p = length_pending r.pending entries_good.1 in
      simp length-append (omega arith)

  -- the slot begins with the number, filled up
  pub slot_number : take 10 (slot_of r) ≡ filled_up 10 r.number
  unfolding slot_of
  slot_number = take_at (filled_up 10 r.number) (live_bytes r.live ++ pending_bytes r.pending) 10 ten

  pub number_in_slot : up_to_zero (take 10 (slot_of r)) ≡ r.number
  number_in_slot = ap up_to_zero slot_number ∙ number_again r.number record_number

  -- a slot's record is read again
  pub slot_again : record_in (slot_of r) ≡ r
  unfolding record_in slot_of
  slot_again =
      let n : up_to_zero (take 10 (slot_of r)) ≡ r.number = number_in_slot in
      let l : live_in (slot_of r) ≡ r.live = live_again (filled_up 10 r.number) (pending_bytes r.pending) r.live ten entries_good.0 in
      let p : pending_in (slot_of r) ≡ r.pending =
      pending_again (filled_up 10 r.number) (live_bytes r.live) r.pending ten (length_live r.live entries_good.0) entries_good.1 in
      made n l p

  -- the slot is in use: no permitted character is 0
  pub slot_used : get_or (slot_of r) 0 0 ≡ 0 → ⊥
  unfolding slot_of filled_up
  slot_used =
      let x = r.number in
      let z : List ℕ = replicate (10 - length x) 0 in
      let t = live_bytes r.live ++ pending_bytes r.pending in
      subst (λ (l : List ℕ). get_or l 0 0 ≡ 0 → ⊥) (sym (append_assoc x z t))
      (first_used x (z ++ t) (number_used x record_number) (number_least x record_number))

-- ---- the slots of good records

pub slots_each : (rs : List Record) → all good_record rs ≡ true → Each 140 (map slot_of rs)
slots_each [] q = tt
slots_each (r ∷ rs) q =
    let w = both_parts (good_record r) (all good_record rs) q in
    (length_slot r w.0, slots_each rs w.1)

pub slots_used : (rs : List Record) → all good_record rs ≡ true → Used (map slot_of rs)
slots_used [] q = tt
slots_used (r ∷ rs) q =
    let w = both_parts (good_record r) (all good_record rs) q in
    (slot_used r w.0, slots_used rs w.1)

-- one slot comes before another as the numbers do
pub slot_rises : (r s : Record) → good_record r ≡ true → good_record s ≡ true → rises (slot_of r) (slot_of s) ≡ comes_before r.number s.number
unfolding rises
slot_rises r s p q =
    rw (slot_number r p, slot_number s q, number_order_lem r.number s.number (record_number r p) (record_number s q))
    (sym (before_order r.number s.number))

-- slots rise as the records are in order
pub slots_rising : (rs : List Record) → all good_record rs ≡ true → rising (map slot_of rs) ≡ in_order rs
unfolding rising in_order
slots_rising [] q = refl
slots_rising (r ∷ []) q = refl
slots_rising (r ∷ s ∷ rs) q =
    let w = both_parts (good_record r) (all good_record (s ∷ rs)) q in
    let v = both_parts (good_record s) (all good_record rs) w.1 in
    rw (slot_rises r s w.0 v.0) (ap (both (comes_before r.number s.number)) (slots_rising (s ∷ rs) w.1))

-- ---- a room is a room of `records`

pub room_slots : (quota : ℕ) (rs : List Record) → room_bytes quota rs ≡ room_of 140 quota (map slot_of rs)
unfolding room_bytes room_of padded
room_slots quota rs =
    rw (length-map rs slot_of, joined_append (map slot_of rs) (replicate (quota - length rs) (replicate 140 0)), joined_zeros (quota - length rs))

pub length_room : (quota : ℕ) (rs : List Record) → all good_record rs ≡ true → length rs ≤ quota → length (room_bytes quota rs) ≡ quota * 140
unfolding room_bytes
length_room quota rs q h =
    let l = length_each 140 (map slot_of rs) (slots_each rs q) in
    let m = length-map rs slot_of in
    simp (length-append, length-replicate) (omega arith)

-- ---- a good account

module _ (quota : ℕ) (rs : List Record) (q : good_account quota rs ≡ true) where
  account_parts : (leb (length rs) quota ≡ true) × (both (all good_record rs) (in_order rs) ≡ true)
  unfolding good_account
  account_parts = both_parts (leb (length rs) quota) (both (all good_record rs) (in_order rs)) q

  pub account_fits : length rs ≤ quota
  account_fits = leb-true (length rs) quota account_parts.0

  pub account_records : all good_record rs ≡ true
  account_records = (both_parts (all good_record rs) (in_order rs) account_parts.1).0

  pub account_order : in_order rs ≡ true
  account_order = (both_parts (all good_record rs) (in_order rs) account_parts.1).1

pub account_good : (quota : ℕ) (rs : List Record) → length rs ≤ quota → all good_record rs ≡ true → in_order rs ≡ true → good_account quota rs ≡ true
unfolding good_account
account_good quota rs h p q = rw (le-leb (length rs) quota h, p, q)
