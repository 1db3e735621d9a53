-- A room of 140-byte slots as records: what `find` and `used` answer on it, and which bytes are such a room.
-- Assumes nothing.
use Rattle.std.specs.Prelude.{◌≡◌, true, List, [], ◌∷◌, ◌++◌, eqb, get_or, take, drop, replicate}
use Rattle.std.proofs.Math.Path.{refl}
use Rattle.std.proofs.Common.{sym, ◌∙◌, ap, arith, eqb-true, ne_eqb, length-drop, take-append-drop, length-take-le}
use Prim.Native.Nat.{ℕ, zero, suc, ◌+◌, ◌*◌, ◌/◌, ◌-◌, ◌≤◌}
use Rattle.std.proofs.Math.ListN.{length}
use Rattle.std.proofs.lemmas.List.{replicate-append-replicate}
use Rattle.laws.specs.Choice.{choose, both_parts}
use Rattle.laws.specs.Joined.{joined, Each, joined_append, each_replicate, each_drop, length_each, drop_joined}
use Rattle.gaps.specs.Zero.{all_zero}
use Rattle.slots.specs.Slots.{cut, slots_of, length_slots}
use Rattle.slots.specs.Find.{find_of}
use Rattle.slots.specs.Rising.{rising, leading}
use Rattle.records.specs.Joined.{slots_joined}
use Rattle.records.specs.Found.{find_in, Used, Unused, find_rising}
use Rattle.records.specs.Room.{padded, room_of, each_padded}

-- ---- from records to bytes

zeros_unused : (m : ℕ) → Unused (replicate m (replicate 140 0))
zeros_unused zero = tt
zeros_unused (suc m) = (refl, zeros_unused m)

module _ (n : ℕ) (rs : List (List ℕ)) (each : Each 140 rs) (used : Used rs) where
  -- in a room of records whose numbers rise, halving finds what a walk along the records finds
  pub find_room : rising rs ≡ true → (x : List ℕ) → find_of (room_of 140 n rs) x ≡ find_in x rs 0
  unfolding room_of padded
  find_room q x =
      find_rising x rs (replicate (n - length rs) (replicate 140 0)) used (zeros_unused (n - length rs)) q each
      (each_replicate 140 (n - length rs) (replicate 140 0) refl)

  leading_zeros : (m : ℕ) → leading (replicate m (replicate 140 0)) ≡ 0
  unfolding leading
  leading_zeros zero = refl
  leading_zeros (suc m) = refl

-- the used slots of a room are its records
leading_used : (rs zs : List (List ℕ)) → Used rs → leading zs ≡ 0 → leading (rs ++ zs) ≡ length rs
unfolding leading
leading_used [] zs u z = z
leading_used (r ∷ rs) zs u z = rw (ne_eqb (get_or r 0 0) 0 u.0) (ap suc (leading_used rs zs u.1 z))

pub leading_room : (n : ℕ) (rs : List (List ℕ)) → Each 140 rs → Used rs → leading (slots_of (room_of 140 n rs)) ≡ length rs
unfolding room_of padded
leading_room n rs e u =
    rw (slots_joined (padded 140 n rs) (each_padded 140 n rs e))
    (leading_used rs (replicate (n - length rs) (replicate 140 0)) u (leading_zeros n rs e u (n - length rs)))

-- ---- from bytes to records

pub zero_list : (l : List ℕ) → all_zero l ≡ true → l ≡ replicate (length l) 0
unfolding all_zero
zero_list [] q = refl
zero_list (b ∷ l) q =
    let w = both_parts (eqb b 0) (all_zero l) q in
    rw (eqb-true b 0 w.0) (ap (λ (x : List ℕ). 0 ∷ x) (zero_list l w.1))

pub joined_zeros : (m : ℕ) → joined (replicate m (replicate 140 0)) ≡ replicate (m * 140) 0
unfolding joined
joined_zeros zero = refl
joined_zeros (suc m) =
    let e : suc m * 140 ≡ 140 + m * 140 = omega arith in
    rw (joined_zeros m, e) (replicate-append-replicate 140 (m * 140) 0)

joined_cut : (n : ℕ) (s : List ℕ) → length s ≡ n * 140 → joined (cut 140 n s) ≡ s
unfolding joined cut
joined_cut zero [] h = refl
joined_cut zero (b ∷ s) h = absurd (omega arith)
joined_cut (suc n) s h =
    let d = length-drop 140 s in
    rw (joined_cut n (drop 140 s) (omega arith)) (take-append-drop 140 s)

pub each_cut : (n : ℕ) (s : List ℕ) → length s ≡ n * 140 → Each 140 (cut 140 n s)
unfolding cut
each_cut zero s h = tt
each_cut (suc n) s h =
    let d = length-drop 140 s in
    (length-take-le 140 s (omega arith), each_cut n (drop 140 s) (omega arith))

-- the slots in use, then only zeros
pub leading_le : (rs : List (List ℕ)) → leading rs ≤ length rs
unfolding leading
leading_le [] = omega arith
leading_le (r ∷ rs) = choose (eqb (get_or r 0 0) 0) (λ p. rw p (omega arith)) (λ p. rw p (let h = leading_le rs in omega arith))

-- they lie within the room
pub used_within : (room : List ℕ) (used : ℕ) → used ≡ leading (slots_of room) → used ≤ length room / 140
used_within room used e =
    let h = leading_le (slots_of room) in
    let l = length_slots room in
    omega arith

zero_slots : (m : ℕ) (qs : List (List ℕ)) → Each 140 qs → length qs ≡ m → all_zero (joined qs) ≡ true → joined qs ≡ joined (replicate m (replicate 140 0))
zero_slots m qs e l q = zero_list (joined qs) q ∙ rw (length_each 140 qs e, l) (sym (joined_zeros m))

room_of_lem : (n u : ℕ) (ss : List (List ℕ)) → Each 140 ss → length ss ≡ n → u ≤ n → all_zero (drop (u * 140) (joined ss)) ≡ true → joined ss ≡ room_of 140 n (take u ss)
unfolding room_of padded
room_of_lem n u ss e l h q =
    let t : length (take u ss) ≡ u = length-take-le u ss (omega arith) in
    let d = length-drop u ss in
    sym (ap joined (take-append-drop u ss))
    ∙ joined_append (take u ss) (drop u ss)
    ∙ rw (zero_slots (n - u) (drop u ss) (each_drop 140 u ss e) (omega arith) (rw (drop_joined 140 u ss e) at q), t)
    (sym (joined_append (take u ss) (replicate (n - u) (replicate 140 0))))

-- bytes that are zero behind the slots in use are a room of the records in these slots
pub room_read : (n : ℕ) (s : List ℕ) → length s ≡ n * 140 → all_zero (drop (leading (slots_of s) * 140) s) ≡ true → s ≡ room_of 140 n (take (leading (slots_of s)) (slots_of s))
unfolding slots_of
room_read n s h q =
    let e : length s / 140 ≡ n = omega arith in
    let j : joined (slots_of s) ≡ s = rw e (joined_cut n s h) in
    let c : Each 140 (slots_of s) = rw e (each_cut n s h) in
    let l = length_slots s in
    let k = leading_le (slots_of s) in
    sym j ∙ room_of_lem n (leading (slots_of s)) (slots_of s) c (omega arith) (omega arith) (rw j q)
