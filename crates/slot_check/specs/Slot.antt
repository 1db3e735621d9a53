-- A slot in use: which bytes are one.
-- Assumes nothing.
use Rattle.std.specs.Prelude.{◌≡◌, Bool, get_or, take, drop}
use Rattle.std.proofs.Math.Path.{refl, sym}
use Rattle.std.proofs.Common.{◌∙◌, ap, arith, length-drop, drop-cons, drop-drop, take_all}
use Rattle.std.proofs.Math.Bool.{true, false}
use mathlib.Core.List.{List, ◌∷◌, ◌++◌}
use Rattle.std.proofs.Math.Option.{none, some}
use Prim.Native.Nat.{ℕ, ◌+◌, ◌≤◌, ◌<◌}
use Rattle.std.proofs.Math.Dec.{eqb, leb}
use borrow.Author.Tests.{eq-eqb, ne_eqb, eqb-true, eqb-false, le-leb, lt-leb}
use Rattle.std.proofs.Math.ListN.{length}
use Rattle.std.proofs.Math.Seq.{length-take-le}
use Rattle.laws.specs.Choice.{pick, both, either, choose, both_true, both_false, eqb_comm}
use Rattle.laws.specs.Filled.{filled_up}
use Rattle.values.specs.Values.{same_text}
use Rattle.gaps.specs.Zero.{all_zero}
use Rattle.contents.specs.Contents.{nothing, put, removal, is_calendar, good_number, good_entries, good_record}
use Rattle.contents.specs.Written.{up_to_zero, live_bytes, pending_bytes, slot_of, live_in, pending_in, record_in}
use Rattle.rooms.specs.Order.{same_itself}
use Rattle.rooms.specs.Slots.{length_slot}
use Rattle.slots.specs.Words.{Bytes}
use Rattle.slot_check.specs.Same.{bytes_drop, bytes_all, same_append, same_zeros, other_length}
use Rattle.slot_check.specs.Number.{is_number, length_filled, length_up}

-- whether bytes are a good record, written
unfoldable pub is_slot : List ℕ → Bool
is_slot s = both (good_record (record_in s)) (same_text (slot_of (record_in s)) s)

-- what the two flags ask of the calendars behind them, of which it is told whether they are zero: "a removal only beside a live
-- calendar; at least one of the two is there"
unfoldable pub flags_fit : ℕ → ℕ → Bool → Bool → Bool
flags_fit live pending noLive noPut =
    pick (eqb live 0) (both (eqb pending 1) noLive)
    (both (eqb live 1) (either (eqb pending 1) (both (leb pending 2) noPut)))

-- ---- flags and calendars

module _ (f : ℕ) (c : List ℕ) (h : length c ≡ 64) where
  live_same : same_text (live_bytes (pick (eqb f 0) none (some c))) (f ∷ c) ≡ pick (eqb f 0) (all_zero c) (eqb f 1)
  unfolding live_bytes same_text
  live_same =
      choose (eqb f 0)
      (λ p.
      let e = eqb-true f 0 p in
      rw e (same_zeros 64 c h))
      (λ p. rw (p, same_itself c) (both_true (eqb 1 f) ∙ eqb_comm 1 f))

  pending_same : same_text (pending_bytes (pick (eqb f 0) nothing (pick (eqb f 1) (put c) removal))) (f ∷ c) ≡ pick (eqb f 0) (all_zero c) (either (eqb f 1) (both (eqb f 2) (all_zero c)))
  unfolding pending_bytes same_text
  pending_same =
      choose (eqb f 0)
      (λ p.
      let e = eqb-true f 0 p in
      rw e (same_zeros 64 c h))
      (λ p.
      choose (eqb f 1)
      (λ q.
      let e = eqb-true f 1 q in
      rw e (same_itself c))
      (λ q. rw (p, q) (rw (eqb_comm 2 f, same_zeros 64 c h))))

  live_length : length (live_bytes (pick (eqb f 0) none (some c))) ≡ 65
  unfolding live_bytes
  live_length = choose (eqb f 0) (λ p. rw p) (λ p. rw (p, h))

module _ (l p : ℕ) (c d : List ℕ) (hc : is_calendar c ≡ true) (hd : is_calendar d ≡ true) (z w : Bool) where
  entries_fit :
      both (good_entries (pick (eqb l 0) none (some c)) (pick (eqb p 0) nothing (pick (eqb p 1) (put d) removal)))
      (both (pick (eqb l 0) z (eqb l 1)) (pick (eqb p 0) w (either (eqb p 1) (both (eqb p 2) w))))
      ≡ flags_fit l p z w
  unfolding good_entries flags_fit
  entries_fit =
      choose (eqb l 0)
      (λ a.
      choose (eqb p 0)
      (λ b.
      let e = eqb-true p 0 b in
      rw (a, e))
      (λ b.
      choose (eqb p 1)
      (λ g. rw (a, b, g, hd) (both_true z))
      (λ g. rw (a, b, g))))
      (λ a.
      choose (eqb p 0)
      (λ b.
      let e = eqb-true p 0 b in
      rw (a, e, hc))
      (λ b.
      choose (eqb p 1)
      (λ g. rw (a, b, g, hc, hd))
      (λ g.
      let m = eqb-false p 0 b in
      let n = eqb-false p 1 g in
      rw (a, b, g, hc) (ap (λ (x : Bool). both (eqb l 1) (both x w)) (third p m n)))))
    where
      third : (p : ℕ) → (p ≡ 0 → ⊥) → (p ≡ 1 → ⊥) → eqb p 2 ≡ leb p 2
      third p m n =
          choose (eqb p 2)
          (λ e. let q = eqb-true p 2 e in rw q)
          (λ e. let q = eqb-false p 2 e in rw e (sym (lt-leb p 2 (omega arith))))

-- ---- a slot by its parts

module _ (s : List ℕ) (h : length s ≡ 140) where
  -- number, then flags and calendars
  pub slot_parts :
      is_slot s
      ≡ both (is_number (take 10 s)) (both (good_entries (live_in s) (pending_in s)) (same_text (live_bytes (live_in s) ++ pending_bytes (pending_in s)) (drop 10 s)))
  unfolding is_slot good_record record_in slot_of is_number
  slot_parts =
      let n : List ℕ = up_to_zero (take 10 s) in
      let u = length_up (take 10 s) in
      let t = length-take-le 10 s (omega arith) in
      let l : length (filled_up 10 n) ≡ 10 = length_filled 10 n (omega arith) in
      rw (same_append (filled_up 10 n) (live_bytes (live_in s) ++ pending_bytes (pending_in s)) s, l)
      (crossed (good_number n) (good_entries (live_in s) (pending_in s)) (same_text (filled_up 10 n) (take 10 s)) (same_text (live_bytes (live_in s) ++ pending_bytes (pending_in s)) (drop 10 s)))
    where
      crossed : (a b c d : Bool) → both (both a b) (both c d) ≡ both (both a c) (both b d)
      crossed true true c d = refl
      crossed true false c d = sym (both_false c)
      crossed false b c d = refl

  part_length : (k : ℕ) → k + 64 ≤ 140 → length (take 64 (drop k s)) ≡ 64
  part_length k g =
      let d = length-drop k s in
      length-take-le 64 (drop k s) (omega arith)

  entries_same :
      same_text (live_bytes (live_in s) ++ pending_bytes (pending_in s)) (drop 10 s)
      ≡ both (pick (eqb (get_or s 10 0) 0) (all_zero (take 64 (drop 11 s))) (eqb (get_or s 10 0) 1))
      (pick (eqb (get_or s 75 0) 0) (all_zero (take 64 (drop 76 s))) (either (eqb (get_or s 75 0) 1) (both (eqb (get_or s 75 0) 2) (all_zero (take 64 (drop 76 s))))))
  entries_same =
      let c : List ℕ = take 64 (drop 11 s) in
      let d : List ℕ = take 64 (drop 76 s) in
      let n = length-drop 76 s in
      let t : take 65 (drop 10 s) ≡ get_or s 10 0 ∷ c = ap (take 65) (drop-cons s 10 0 (omega arith)) in
      let v : drop 75 s ≡ get_or s 75 0 ∷ d = drop-cons s 75 0 (omega arith) ∙ ap (λ (x : List ℕ). get_or s 75 0 ∷ x) (sym (take_all 64 (drop 76 s) (omega arith))) in
      let u : drop 65 (drop 10 s) ≡ get_or s 75 0 ∷ d = drop-drop 65 10 s ∙ v in
      same_append (live_bytes (live_in s)) (pending_bytes (pending_in s)) (drop 10 s)
      ∙ ap (λ (k : ℕ). both (same_text (live_bytes (live_in s)) (take k (drop 10 s))) (same_text (pending_bytes (pending_in s)) (drop k (drop 10 s)))) (live_length (get_or s 10 0) c (part_length 11 (omega arith)))
      ∙ ap (λ (x : List ℕ). both (same_text (live_bytes (live_in s)) x) (same_text (pending_bytes (pending_in s)) (drop 65 (drop 10 s)))) t
      ∙ ap (λ (x : List ℕ). both (same_text (live_bytes (live_in s)) (get_or s 10 0 ∷ c)) (same_text (pending_bytes (pending_in s)) x)) u
      ∙ rw (live_same (get_or s 10 0) c (part_length 11 (omega arith)), pending_same (get_or s 75 0) d (part_length 76 (omega arith)))

  module _ (b : Bytes s) where
    calendar_at : (k : ℕ) → k + 64 ≤ 140 → is_calendar (take 64 (drop k s)) ≡ true
    unfolding is_calendar
    calendar_at k g = rw (eq-eqb (length (take 64 (drop k s))) 64 (part_length k g)) (bytes_all 64 (drop k s) (bytes_drop k s b))

    pub slot_is : is_slot s ≡ both (is_number (take 10 s)) (flags_fit (get_or s 10 0) (get_or s 75 0) (all_zero (take 64 (drop 11 s))) (all_zero (take 64 (drop 76 s))))
    slot_is =
        let c : List ℕ = take 64 (drop 11 s) in
        let d : List ℕ = take 64 (drop 76 s) in
        slot_parts
        ∙ ap (both (is_number (take 10 s)))
        (ap (both (good_entries (live_in s) (pending_in s))) entries_same
        ∙ entries_fit (get_or s 10 0) (get_or s 75 0) c d (calendar_at 11 (omega arith)) (calendar_at 76 (omega arith)) (all_zero c) (all_zero d))

-- ---- for the code, way by way

module _ (l p : ℕ) (z w : Bool) where
  pub fits_put : l ≡ 0 → p ≡ 1 → z ≡ flags_fit l p z w
  unfolding flags_fit
  fits_put e q = rw (e, q)

  pub fits_none : l ≡ 0 → (p ≡ 1 → ⊥) → false ≡ flags_fit l p z w
  unfolding flags_fit
  fits_none e q = rw (e, ne_eqb p 1 q)

  pub fits_no_flag : (l ≡ 0 → ⊥) → (l ≡ 1 → ⊥) → false ≡ flags_fit l p z w
  unfolding flags_fit
  fits_no_flag e q = rw (ne_eqb l 0 e, ne_eqb l 1 q)

  module _ (e : l ≡ 1) where
    pub fits_both : p ≡ 1 → true ≡ flags_fit l p z w
    unfolding flags_fit
    fits_both q = rw (e, q)

    module _ (q : p ≡ 1 → ⊥) where
      pub fits_no_entry : 2 < p → false ≡ flags_fit l p z w
      unfolding flags_fit
      fits_no_entry k = rw (e, ne_eqb p 1 q, lt-leb p 2 k)

      pub fits_live : p ≤ 2 → w ≡ flags_fit l p z w
      unfolding flags_fit
      fits_live k = rw (e, ne_eqb p 1 q, le-leb p 2 k)

module _ (s : List ℕ) (h : length s ≡ 140) (b : Bytes s) (m : Bool) (q : m ≡ is_number (take 10 s)) where
  pub slot_no_number : m ≡ false → false ≡ is_slot s
  slot_no_number t = sym (slot_is s h b ∙ rw (← q, t))

  pub slot_number_fits : m ≡ true → flags_fit (get_or s 10 0) (get_or s 75 0) (all_zero (take 64 (drop 11 s))) (all_zero (take 64 (drop 76 s))) ≡ is_slot s
  slot_number_fits t = sym (slot_is s h b ∙ rw (← q, t))

-- ---- bytes of another length are no slot

pub other_slot : (s : List ℕ) → (length s ≡ 140 → ⊥) → is_slot s ≡ false
unfolding is_slot
other_slot s h =
    choose (good_record (record_in s))
    (λ g.
    let l = length_slot (record_in s) g in
    rw g (other_length (slot_of (record_in s)) s (λ e. h (sym e ∙ l))))
    (λ g. rw g)
