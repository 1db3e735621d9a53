-- A number's place among records in order, by which it is looked up and changed.
-- Assumes nothing.
use Rattle.std.specs.Prelude.{◌≡◌, refl, true, List, [], ◌∷◌, ◌++◌, map, ℕ, suc, ◌+◌, length, get_or, take, drop, Result, Ok, Err}
use Rattle.std.proofs.Common.{sym, ◌∙◌, ap, append-nil, suc-le-suc, arith, ne_eqb}
use Rattle.std.proofs.Math.Option.{Option, none}
use Rattle.laws.specs.Choice.{all, both_parts}
use Rattle.laws.specs.Filled.{filled_up}
use Rattle.std.specs.declared.cmp.Ordering.{Ordering}
use Rattle.std.specs.declared.cmp.Ordering.TheVariants.{Less, Equal, Greater}
use Rattle.slots.specs.Order.{order_of}
use Rattle.slots.specs.Find.{number_order, find_of, Within}
use Rattle.records.specs.Linear.{by_order}
use Rattle.records.specs.Found.{find_in}
use Rattle.records.specs.Read.{find_room}
use Rattle.contents.specs.Contents.{Record, good_number, good_record, in_order, good_account}
use Rattle.contents.specs.Written.{slot_of, room_bytes}
use Rattle.contents.specs.Calls.{lookup, listed, changed, record_at}
use Rattle.rooms.specs.Order.{number_order_lem}
use Rattle.rooms.specs.Slots.{record_number, slot_number, slot_used, slots_each, slots_used, slots_rising, room_slots, account_records, account_order}
use Rattle.rooms.specs.Lookup.{tail_order, lookup_passed, lookup_found, lookup_gap, changed_passed, changed_found, changed_gap}

-- a number's place among records, from the first on; k is the first one's index
unfoldable pub place_in : List ℕ → List Record → ℕ → Result ℕ ℕ
place_in x [] k = Err k
place_in x (r ∷ rs) k = by_order (order_of r.number x) (place_in x rs (suc k)) (Ok k) (Err k)

-- ---- halving the room finds this place

slot_order_lem : (x : List ℕ) (r : Record) → good_number x ≡ true → good_record r ≡ true → number_order (filled_up 10 x) (slot_of r) ≡ order_of r.number x
unfolding number_order
slot_order_lem x r p q = rw (number_order, ne_eqb (get_or (slot_of r) 0 0) 0 (slot_used r q), slot_number r q) (number_order_lem r.number x (record_number r q) p)

find_slots : (x : List ℕ) (rs : List Record) (k : ℕ) → good_number x ≡ true → all good_record rs ≡ true → find_in (filled_up 10 x) (map slot_of rs) k ≡ place_in x rs k
unfolding find_in place_in
find_slots x [] k p q = refl
find_slots x (r ∷ rs) k p q =
    let w = both_parts (good_record r) (all good_record rs) q in
    rw (slot_order_lem x r p w.0, find_slots x rs (suc k) p w.1)

pub find_place : (quota : ℕ) (rs : List Record) (x : List ℕ) → good_account quota rs ≡ true → good_number x ≡ true → find_of (room_bytes quota rs) (filled_up 10 x) ≡ place_in x rs 0
find_place quota rs x q p =
    let g = account_records quota rs q in
    ap (λ (s : List ℕ). find_of s (filled_up 10 x)) (room_slots quota rs)
    ∙ find_room quota (map slot_of rs) (slots_each rs g) (slots_used rs g) (slots_rising rs g ∙ account_order quota rs q) (filled_up 10 x)
    ∙ find_slots x rs 0 p g

-- ---- what is at a place

-- the record that was found
abbrev pub found_in : Result ℕ ℕ → List Record → Option Record
found_in (Ok k) rs = record_at k rs
found_in (Err k) rs = none

-- the records with what stands at a place changed
unfoldable pub changed_at : Result ℕ ℕ → (Option Record → Option Record) → List Record → List Record
changed_at (Ok k) f rs = take k rs ++ (listed (f (record_at k rs)) ++ drop (k + 1) rs)
changed_at (Err k) f rs = take k rs ++ (listed (f none) ++ drop k rs)

-- one place on
abbrev later_found : Result ℕ ℕ → Result ℕ ℕ
later_found (Ok k) = Ok (suc k)
later_found (Err k) = Err (suc k)

later_by : (o : Ordering) (f : Result ℕ ℕ) (k : ℕ) → by_order o (later_found f) (Ok (suc k)) (Err (suc k)) ≡ later_found (by_order o f (Ok k) (Err k))
later_by Less f k = refl
later_by Equal f k = refl
later_by Greater f k = refl

place_later : (x : List ℕ) (rs : List Record) (k : ℕ) → place_in x rs (suc k) ≡ later_found (place_in x rs k)
unfolding place_in
place_later x [] k = refl
place_later x (r ∷ rs) k = rw (place_later x rs (suc k)) (later_by (order_of r.number x) (place_in x rs (suc k)) k)

place_by : (x : List ℕ) (r : Record) (rs : List Record) (o : Ordering) → order_of r.number x ≡ o → place_in x (r ∷ rs) 0 ≡ by_order o (later_found (place_in x rs 0)) (Ok 0) (Err 0)
unfolding place_in
place_by x r rs o e = rw (e, place_later x rs 0)

found_later : (p : Result ℕ ℕ) (r : Record) (rs : List Record) → found_in (later_found p) (r ∷ rs) ≡ found_in p rs
unfolding record_at
found_later (Ok k) r rs = refl
found_later (Err k) r rs = refl

changed_later : (p : Result ℕ ℕ) (f : Option Record → Option Record) (r : Record) (rs : List Record) → changed_at (later_found p) f (r ∷ rs) ≡ r ∷ changed_at p f rs
unfolding changed_at record_at
changed_later (Ok k) f r rs =
    let e : suc k + 1 ≡ suc (k + 1) = omega arith in
    rw e
changed_later (Err k) f r rs = refl

-- a place is among the records or at their end
within_by : (n : ℕ) (o : Ordering) (p : Result ℕ ℕ) → Within n p → Within (suc n) (by_order o (later_found p) (Ok 0) (Err 0))
within_by n Less (Ok k) h = suc-le-suc h
within_by n Less (Err k) h = suc-le-suc h
within_by n Equal p h = omega arith
within_by n Greater p h = omega arith

pub place_within : (x : List ℕ) (rs : List Record) → Within (length rs) (place_in x rs 0)
unfolding place_in
place_within x [] = omega arith
place_within x (r ∷ rs) = rw (place_later x rs 0) (within_by (length rs) (order_of r.number x) (place_in x rs 0) (place_within x rs))

-- ---- a number is looked up in its place, and changed there

look_by : (x : List ℕ) (r : Record) (rs : List Record) → in_order (r ∷ rs) ≡ true → (o : Ordering) → order_of r.number x ≡ o
    → lookup x rs ≡ found_in (place_in x rs 0) rs → lookup x (r ∷ rs) ≡ found_in (place_in x (r ∷ rs) 0) (r ∷ rs)
unfolding record_at
look_by x r rs w Less e ih = lookup_passed x r rs e ∙ ih ∙ rw (place_by x r rs Less e) (sym (found_later (place_in x rs 0) r rs))
look_by x r rs w Equal e ih = lookup_found x r rs e ∙ rw (place_by x r rs Equal e)
look_by x r rs w Greater e ih = lookup_gap x r rs w e ∙ rw (place_by x r rs Greater e)

change_by : (x : List ℕ) (f : Option Record → Option Record) (r : Record) (rs : List Record) (o : Ordering) → order_of r.number x ≡ o
    → changed x f rs ≡ changed_at (place_in x rs 0) f rs → changed x f (r ∷ rs) ≡ changed_at (place_in x (r ∷ rs) 0) f (r ∷ rs)
unfolding changed_at record_at
change_by x f r rs Less e ih =
    changed_passed x r rs f e ∙ ap (λ (l : List Record). r ∷ l) ih ∙ rw (place_by x r rs Less e) (sym (changed_later (place_in x rs 0) f r rs))
change_by x f r rs Equal e ih = changed_found x r rs f e ∙ rw (place_by x r rs Equal e)
change_by x f r rs Greater e ih = changed_gap x r rs f e ∙ rw (place_by x r rs Greater e)

pub lookup_place : (x : List ℕ) (rs : List Record) → in_order rs ≡ true → lookup x rs ≡ found_in (place_in x rs 0) rs
unfolding lookup place_in
lookup_place x [] w = refl
lookup_place x (r ∷ rs) w = look_by x r rs w (order_of r.number x) refl (lookup_place x rs (tail_order r rs w))

pub changed_place : (x : List ℕ) (f : Option Record → Option Record) (rs : List Record) → changed x f rs ≡ changed_at (place_in x rs 0) f rs
unfolding changed place_in changed_at
changed_place x f [] = sym (append-nil (listed (f none)))
changed_place x f (r ∷ rs) = change_by x f r rs (order_of r.number x) refl (changed_place x f rs)
