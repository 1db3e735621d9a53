-- A room: which bytes are one.
-- Assumes nothing.
use Rattle.std.specs.Prelude.{◌≡◌, refl, Bool, true, List, [], ◌∷◌, ◌⊎◌, eqb, ltb, length, get_or, take, drop, replicate}
use Rattle.std.proofs.Math.Path.{sym}
use Rattle.std.proofs.Common.{◌∙◌, ap, inl, inr, lit≤, ne_eqb, eqb-true, le-leb, le-ltb, length-drop, take-take, take_all, drop-drop, get_or-take, length-take-le}
use Rattle.std.proofs.Math.Bool.{false}
use Prim.Native.Nat.{ℕ, zero, suc, ◌+◌, ◌-◌, ◌*◌, ◌/◌, ◌%◌, ◌≤◌, ◌<◌}
use native.Mathlib.Omega.{arith}
use Rattle.std.proofs.Math.Nat.{sub-zero}
use Rattle.laws.specs.Choice.{pick, both, choose, all, both_parts, both_assoc, both_false, false≢true}
use Rattle.laws.specs.Joined.{joined}
use Rattle.values.specs.Values.{same_text}
use Rattle.gaps.specs.Zero.{all_zero}
use Rattle.slots.specs.Order.{order_of}
use Rattle.slots.specs.Rising.{is_before}
use Rattle.slots.specs.Words.{Bytes, high_of, low_of, four, rises_to, bytes_take, high_take, low_take, words_rise}
use Rattle.contents.specs.Contents.{Record, good_record, comes_before, in_order, good_account}
use Rattle.contents.specs.Written.{up_to_zero, slot_of, room_bytes, record_in, records_in}
use Rattle.rooms.specs.Order.{number_least}
use Rattle.rooms.specs.Slots.{record_number, length_slot, length_room, account_records, account_fits}
use Rattle.rooms.specs.Registers.{room_cons}
use Rattle.slot_check.specs.Same.{bytes_drop, same_append, same_zeros}
use Rattle.slot_check.specs.Number.{is_number, before_any, before_first_lem, before_filled}
use Rattle.slot_check.specs.Word.{number_first}
use Rattle.slot_check.specs.Slot.{is_slot, slot_parts}

-- whether n slots are used ones whose numbers rise, the first above the number before it, and zeros from the first unused one on
unfoldable pub slots_fit : List ℕ → ℕ → List ℕ → Bool
slots_fit before zero b = true
slots_fit before (suc n) b =
    pick (eqb (get_or b 0 0) 0) (all_zero b)
    (both (is_before (order_of before (take 10 b))) (both (is_slot (take 140 b)) (slots_fit (take 10 b) n (drop 140 b))))

-- whether bytes are a good account's room
unfoldable pub is_room : ℕ → List ℕ → Bool
is_room n b = both (good_account n (records_in n b)) (same_text (room_bytes n (records_in n b)) b)

-- ---- the order of the records, each against the one before it

unfoldable pub rising_from : List ℕ → List Record → Bool
rising_from x [] = true
rising_from x (r ∷ rs) = both (comes_before x r.number) (rising_from r.number rs)

order_from : (r : Record) (rs : List Record) → in_order (r ∷ rs) ≡ rising_from r.number rs
unfolding in_order rising_from
order_from r [] = refl
order_from r (q ∷ rs) = ap (both (comes_before r.number q.number)) (order_from q rs)

-- ---- lengths

pub records_le : (n : ℕ) (b : List ℕ) → length (records_in n b) ≤ n
unfolding records_in
records_le zero b = omega arith
records_le (suc n) b = choose (eqb (get_or b 0 0) 0) (λ p. rw p (omega arith)) (λ p. rw p (let h = records_le n (drop 140 b) in omega arith))

pub room_length : (n : ℕ) (rs : List Record) → good_account n rs ≡ true → length (room_bytes n rs) ≡ n * 140
room_length n rs q = length_room n rs (account_records n rs q) (account_fits n rs q)

-- ---- slot by slot

-- the bytes of the number before: zeros, or those of a number
abbrev Told : List ℕ → Type 0
Told x = (x ≡ replicate 10 0) ⊎ (is_number x ≡ true)

told_before : (x y : List ℕ) → Told x → is_number y ≡ true → is_before (order_of x y) ≡ comes_before (up_to_zero x) (up_to_zero y)
unfolding up_to_zero
told_before x y (inl e) q = rw e (before_first_lem y q)
told_before x y (inr p) q = before_filled x y p q

regrouped : (g a c o s t : Bool) → g ≡ true → s ≡ true → both (both (both g a) (both c o)) (both s t) ≡ both c (both (both a o) t)
regrouped g a c o s t p q = rw (p, q) (go a c)
  where
    go : (a c : Bool) → both (both a (both c o)) t ≡ both c (both (both a o) t)
    go true c = both_assoc c o t
    go false c = sym (both_false c)

-- a record's slot, then the room of the others
first_row : (r : Record) (rs : List Record) (n : ℕ) (b : List ℕ) → good_record r ≡ true
    → same_text (room_bytes (suc n) (r ∷ rs)) b ≡ both (same_text (slot_of r) (take 140 b)) (same_text (room_bytes n rs) (drop 140 b))
first_row r rs n b g =
    rw (room_cons n r rs)
    (same_append (slot_of r) (room_bytes n rs) b
    ∙ ap (λ (k : ℕ). both (same_text (slot_of r) (take k b)) (same_text (room_bytes n rs) (drop k b))) (length_slot r g))

-- good records in order behind the number x, written
abbrev good_rows : List ℕ → ℕ → List Record → List ℕ → Bool
good_rows x n rs b = both (both (all good_record rs) (rising_from (up_to_zero x) rs)) (same_text (room_bytes n rs) b)

slot_number : (b : List ℕ) → is_slot (take 140 b) ≡ true → length (take 140 b) ≡ 140 → is_number (take 10 b) ≡ true
slot_number b q h =
    let e : is_number (take 10 (take 140 b)) ≡ true = (both_parts _ _ (sym (slot_parts (take 140 b) h) ∙ q)).0 in
    rw (take-take 10 140 b (lit≤ tt)) at e

module _ (x : List ℕ) (n : ℕ) (b : List ℕ) (t : Told x) (h : length b ≡ suc n * 140) (rs : List Record) where
  slot_length : length (take 140 b) ≡ 140
  slot_length = length-take-le 140 b (omega arith)

  number_here : (record_in (take 140 b)).number ≡ up_to_zero (take 10 b)
  unfolding record_in
  number_here = rw (take-take 10 140 b (lit≤ tt))

  slot_here : is_slot (take 140 b) ≡ true → good_rows x (suc n) (record_in (take 140 b) ∷ rs) b ≡ both (is_before (order_of x (take 10 b))) (good_rows (take 10 b) n rs (drop 140 b))
  unfolding is_slot rising_from
  slot_here q =
      let r : Record = record_in (take 140 b) in
      let w = both_parts (good_record r) (same_text (slot_of r) (take 140 b)) q in
      let m = slot_number b q slot_length in
      rw (first_row r rs n b w.0)
      (regrouped (good_record r) (all good_record rs) (comes_before (up_to_zero x) r.number) (rising_from r.number rs) (same_text (slot_of r) (take 140 b)) (same_text (room_bytes n rs) (drop 140 b)) w.0 w.1
      ∙ rw (number_here, told_before x (take 10 b) t m))

  no_slot : is_slot (take 140 b) ≡ false → good_rows x (suc n) (record_in (take 140 b) ∷ rs) b ≡ false
  unfolding is_slot
  no_slot q =
      let r : Record = record_in (take 140 b) in
      choose (good_record r)
      (λ g.
      let e : same_text (slot_of r) (take 140 b) ≡ false = rw g at q in
      rw (first_row r rs n b g, e) (both_false (both (all good_record (r ∷ rs)) (rising_from (up_to_zero x) (r ∷ rs)))))
      (λ g. rw g)

no_rows : (x : List ℕ) (n : ℕ) (b : List ℕ) → length b ≡ n * 140 → good_rows x n [] b ≡ all_zero b
unfolding rising_from room_bytes joined
no_rows x n b h = rw sub-zero (same_zeros (n * 140) b h)

rows_fit : (x : List ℕ) (n : ℕ) (b : List ℕ) → Told x → length b ≡ n * 140 → good_rows x n (records_in n b) b ≡ slots_fit x n b
unfolding slots_fit records_in all_zero
rows_fit x zero [] t h = no_rows x 0 [] h
rows_fit x zero (d ∷ b) t h = absurd (omega arith)
rows_fit x (suc n) b t h =
    let rs : List Record = records_in n (drop 140 b) in
    let d = length-drop 140 b in
    choose (eqb (get_or b 0 0) 0)
    (λ p. rw p (no_rows x (suc n) b h))
    (λ p.
    choose (is_slot (take 140 b))
    (λ q.
    let ih = rows_fit (take 10 b) n (drop 140 b) (inr (slot_number b q (slot_length x n b t h rs))) (omega arith) in
    rw p (slot_here x n b t h rs q ∙ rw q (ap (both (is_before (order_of x (take 10 b)))) ih)))
    (λ q. rw p (no_slot x n b t h rs q ∙ rw q (sym (both_false (is_before (order_of x (take 10 b))))))))

-- before the first record's number stands none
some_number : (r : Record) → good_record r ≡ true → comes_before [] r.number ≡ true
some_number r q = before_any r.number (number_least r.number (record_number r q))

from_none : (rs : List Record) → both (all good_record rs) (in_order rs) ≡ both (all good_record rs) (rising_from [] rs)
unfolding rising_from in_order
from_none [] = refl
from_none (r ∷ rs) =
    choose (good_record r)
    (λ p. ap (both (all good_record (r ∷ rs))) (order_from r rs ∙ sym (rw (some_number r p))))
    (λ p. rw p)

-- what `is_room` tests
pub room_is : (n : ℕ) (b : List ℕ) → length b ≡ n * 140 → is_room n b ≡ slots_fit (replicate 10 0) n b
unfolding is_room good_account up_to_zero
room_is n b h =
    let rs : List Record = records_in n b in
    rw (le-leb (length rs) n (records_le n b), from_none rs) (rows_fit (replicate 10 0) n b (inl refl) h)

-- ---- for the code

slots_end : (x : List ℕ) (n : ℕ) (b : List ℕ) → n ≡ 0 → slots_fit x n b ≡ true
unfolding slots_fit
slots_end x zero b h = refl
slots_end x (suc n) b h = absurd (omega arith)

zero_first : (b : List ℕ) → eqb (get_or b 0 0) 0 ≡ false → all_zero b ≡ false
unfolding all_zero
zero_first [] p = absurd (false≢true (sym p))
zero_first (c ∷ b) p = rw p

zero_take : (n : ℕ) (b : List ℕ) → all_zero b ≡ true → all_zero (take n b) ≡ true
unfolding all_zero
zero_take zero b q = refl
zero_take (suc n) [] q = refl
zero_take (suc n) (c ∷ b) q = choose (eqb c 0) (λ p. rw p (zero_take n b (rw p at q))) (λ p. absurd (false≢true (rw p at q)))

-- nothing comes before zeros, as many
before_zeros : (x y : List ℕ) → length x ≡ length y → all_zero y ≡ true → is_before (order_of x y) ≡ false
unfolding all_zero order_of
before_zeros [] [] h q = refl
before_zeros [] (d ∷ y) h q = absurd (omega arith)
before_zeros (c ∷ x) [] h q = refl
before_zeros (c ∷ x) (d ∷ y) h q =
    choose (eqb d 0)
    (λ p.
    let e = eqb-true d 0 p in
    choose (ltb d c)
    (λ r. rw (le-ltb c d (omega arith), r))
    (λ r. rw (le-ltb c d (omega arith), r) (before_zeros x y (omega arith) (rw p at q))))
    (λ p. absurd (false≢true (rw p at q)))

module _ (x : List ℕ) (b : List ℕ) where
  slots_falls : (n : ℕ) → 0 < n → is_before (order_of x (take 10 b)) ≡ false → slots_fit x n b ≡ all_zero b
  unfolding slots_fit
  slots_falls zero h q = absurd (omega arith)
  slots_falls (suc n) h q = choose (eqb (get_or b 0 0) 0) (λ p. rw p) (λ p. rw (p, q) (sym (zero_first b p)))

  module _ (u : is_before (order_of x (take 10 b)) ≡ true) (e : length x ≡ 10) (l : 10 ≤ length b) where
    slots_no_slot : (n : ℕ) → 0 < n → is_slot (take 140 b) ≡ false → slots_fit x n b ≡ false
    unfolding slots_fit
    slots_no_slot zero h q = absurd (omega arith)
    slots_no_slot (suc n) h q =
        choose (eqb (get_or b 0 0) 0)
        (λ p.
        rw p
        (choose (all_zero b)
        (λ z. absurd (false≢true (sym (before_zeros x (take 10 b) (e ∙ sym (length-take-le 10 b l)) (zero_take 10 b z)) ∙ u)))
        (λ z. z)))
        (λ p. rw (p, u, q))

  slots_on : (n : ℕ) → 0 < n → is_before (order_of x (take 10 b)) ≡ true → is_slot (take 140 b) ≡ true → (get_or b 0 0 ≡ 0 → ⊥) → slots_fit x n b ≡ slots_fit (take 10 b) (n - 1) (drop 140 b)
  unfolding slots_fit
  slots_on zero h u v d = absurd (omega arith)
  slots_on (suc n) h u v d =
      let k : suc n - 1 ≡ n = omega arith in
      rw (ne_eqb (get_or b 0 0) 0 d, u, v, k)

-- the number before is in two words, and so many slots are left from an index on
pub record Left (room : List ℕ) (high low at : ℕ) : Type 0 where
  pub number : List ℕ
  pub ten : length number ≡ 10
  pub all : Bytes number
  pub upper : high ≡ high_of number
  pub lower : low ≡ low_of number
  pub slots : ℕ
  pub end : length room ≡ at + slots * 140
  pub same : slots_fit number slots (drop at room) ≡ is_room (length room / 140) room

zero_bytes : (n : ℕ) → Bytes (replicate n 0)
zero_bytes zero i = omega arith
zero_bytes (suc n) zero = omega arith
zero_bytes (suc n) (suc i) = zero_bytes n i

pub left_start : (room : List ℕ) → length room % 140 ≡ 0 → Left room 0 0 0
unfolding high_of low_of four
left_start room h =
    record {
      number = replicate 10 0;
      ten = refl;
      all = zero_bytes 10;
      upper = refl;
      lower = refl;
      slots = length room / 140;
      end = omega arith;
      same = sym (room_is (length room / 140) room (omega arith));
    }

module _ (room : List ℕ) (f : Bytes room) (high low at : ℕ) (l : Left room high low at) where
  abbrev whole : Bool
  whole = is_room (length room / 140) room

  abbrev rest : List ℕ
  rest = drop at room

  pub left_end : length room ≤ at → true ≡ whole
  left_end h = let e = l.end in sym (slots_end l.number l.slots rest (omega arith)) ∙ l.same

  module _ (h : at < length room) where
    pub room_for_slot : at + 140 ≤ length room
    room_for_slot = let e = l.end in omega arith

    slots_left : 0 < l.slots
    slots_left = let e = l.end in omega arith

    rest_length : 140 ≤ length rest
    rest_length = let d = length-drop at room in let k = room_for_slot in omega arith

    module _
        (k m : ℕ)
        (p : k ≡ high_of (take (at + 140 - at) rest))
        (q : m ≡ low_of (take (at + 140 - at) rest))
      where
        upper_here : k ≡ high_of (take 10 rest)
        upper_here = p ∙ high_take (at + 140 - at) rest (omega arith) ∙ sym (high_take 10 rest (omega arith))

        lower_here : m ≡ low_of (take 10 rest)
        lower_here = q ∙ low_take (at + 140 - at) rest (omega arith) ∙ sym (low_take 10 rest (omega arith))

        bytes_here : Bytes (take 10 rest)
        bytes_here = bytes_take 10 rest (bytes_drop at room f)

        ten_here : length (take 10 rest) ≡ 10
        ten_here = length-take-le 10 rest (let e = rest_length in omega arith)

        module _ (u : Bool) (r : u ≡ rises_to high low k m) where
          told_rises : is_before (order_of l.number (take 10 rest)) ≡ u
          told_rises = sym (r ∙ rw (l.upper, l.lower, upper_here, lower_here) (words_rise l.number (take 10 rest) l.all bytes_here l.ten ten_here))

          pub left_unused : u ≡ false → (z : Bool) → z ≡ all_zero (take (length room - at) rest) → z ≡ whole
          left_unused t z e =
              let d = length-drop at room in
              e ∙ ap all_zero (take_all (length room - at) rest (omega arith)) ∙ sym (slots_falls l.number rest l.slots slots_left (told_rises ∙ t)) ∙ l.same

          module _ (t : u ≡ true) (v : Bool) (e : v ≡ is_slot (take (at + 140 - at) rest)) where
            told_slot : is_slot (take 140 rest) ≡ v
            told_slot =
                let g : 140 ≡ at + 140 - at = omega arith in
                ap (λ (n : ℕ). is_slot (take n rest)) g ∙ sym e

            pub left_no_slot : v ≡ false → false ≡ whole
            left_no_slot w = sym (slots_no_slot l.number rest (told_rises ∙ t) l.ten (let g = rest_length in omega arith) l.slots slots_left (told_slot ∙ w)) ∙ l.same

            pub left_on : v ≡ true → Left room k m (at + 140)
            left_on w =
                let g = l.end in
                let s : is_slot (take 140 rest) ≡ true = told_slot ∙ w in
                let n : is_number (take 10 rest) ≡ true = slot_number rest s (length-take-le 140 rest rest_length) in
                record {
                  number = take 10 rest;
                  ten = ten_here;
                  all = bytes_here;
                  upper = upper_here;
                  lower = lower_here;
                  slots = l.slots - 1;
                  end = omega arith;
                  same =
                      ap (slots_fit (take 10 rest) (l.slots - 1)) (sym (drop-drop 140 at room))
                      ∙ sym (slots_on l.number rest l.slots slots_left (told_rises ∙ t) s (λ z. number_first (take 10 rest) ten_here n (get_or-take 10 rest 0 0 (lit≤ tt) ∙ z)))
                      ∙ l.same;
                }
