-- A room whose bytes are all 0 from an index on: a new slot moves none of those.
-- Assumes nothing.
use Prim.Native.Nat.{ℕ, ◌+◌, ◌-◌, ◌≤◌, min, max}
use Rattle.std.specs.Prelude.{◌≡◌, true, drop, replicate}
use Rattle.std.proofs.Common.{sym, ◌∙◌, length-drop, length-append, drop_of_length-le, take_all, take_at, drop_at, take-add, drop-drop}
use Rattle.std.proofs.Math.Path.{ap}
use mathlib.Core.List.{List, ◌++◌, append_assoc, append-nil}
use native.Mathlib.Omega.{arith}
use Rattle.std.proofs.Math.Decide.{dec_lt}
use Rattle.std.proofs.Math.ListN.{length, take}
use Rattle.std.proofs.lemmas.List.{length-replicate, replicate-append-replicate}
use Rattle.std.proofs.Math.Seq.{take-take, paste, length-take-le}
use Rattle.std.proofs.lemmas.List.Edits.{drop-paste}
use Rattle.laws.specs.Lists.{drop_take}
use Rattle.laws.specs.Put.{put_at, put_room, length_put}
use Rattle.gaps.specs.Zero.{all_zero}
use Rattle.gaps.specs.Move.{inserted, inserted_in, inserted_fits}
use Rattle.records.specs.Read.{zero_list}

-- all bytes of a room from an index on are 0
abbrev pub Ends : List ℕ → ℕ → Type 0
Ends room end = (end ≤ length room) × (drop end room ≡ replicate (length room - end) 0)

take_zeros : (m n : ℕ) → take m (replicate {A = ℕ} (m + n) 0) ≡ replicate m 0
take_zeros m n = ap (take m) (sym (replicate-append-replicate m n 0)) ∙ take_at (replicate m 0) (replicate n 0) m (length-replicate m 0)

drop_zeros : (m n : ℕ) → drop m (replicate {A = ℕ} (m + n) 0) ≡ replicate n 0
drop_zeros m n = ap (drop m) (sym (replicate-append-replicate m n 0)) ∙ drop_at (replicate m 0) (replicate n 0) m (length-replicate m 0)

-- bytes put before an index leave what follows it
put_before : (room : List ℕ) (at top : ℕ) (part : List ℕ) → at + length part ≤ top → top ≤ length room → drop top (put_at room at part) ≡ drop top room
put_before room at top part a k =
    let n : ℕ = length part in
    let m : ℕ = top - (at + n) in
    let e : at + n + m ≡ top = omega arith in
    ap (drop top) (put_room room at part (omega arith))
    ∙ ap (λ (i : ℕ). drop i (paste room at part n)) (sym e)
    ∙ sym (drop-drop m (at + n) (paste room at part n))
    ∙ ap (drop m) (drop-paste room at part n (omega arith) (omega arith))
    ∙ drop-drop m (at + n) room
    ∙ ap (λ (i : ℕ). drop i room) e

-- ---- where a room ends

module _ (room : List ℕ) where
  pub ends_zero : (end : ℕ) → end ≤ length room → all_zero (take (length room - end) (drop end room)) ≡ true → Ends room end
  ends_zero end h q =
      let l = length-drop end room in
      let w = take_all (length room - end) (drop end room) (omega arith) in
      (h, zero_list (drop end room) (rw w at q) ∙ ap (λ (n : ℕ). replicate n 0) l)

  pub ends_whole : Ends room (length room)
  ends_whole =
      let e : length room - length room ≡ 0 = omega arith in
      (omega arith, rw e (drop_of_length-le room {i = length room} (omega arith)))

  module _ (end : ℕ) (z : Ends room end) where
    pub ends_further : (top : ℕ) → end ≤ top → top ≤ length room → Ends room top
    ends_further top h k =
        let m : ℕ = top - end in
        let e : end + m ≡ top = omega arith in
        let e₂ : length room - end ≡ m + (length room - top) = omega arith in
        (k, ap (λ (i : ℕ). drop i room) (sym e) ∙ sym (drop-drop m end room) ∙ ap (drop m) (z.1 ∙ ap (λ (i : ℕ). replicate i 0) e₂) ∙ drop_zeros m (length room - top))

    pub ends_put : (at top : ℕ) (part last : List ℕ) → at + length part ≤ top → end ≤ top → top ≤ length room → last ≡ put_at room at part → Ends last top
    ends_put at top part last a h k q = rw (q, length_put room at part) (k, put_before room at top part a k ∙ (ends_further top h k).1)

    -- ---- a part put in at an index

    module _ (at : ℕ) (part : List ℕ) (h : at ≤ end) where
      -- zeros moved up are zeros
      moved : end + length part ≤ length room
          → take (end - at) (drop at room) ++ drop (end + length part) room ≡ take (length room - (at + length part)) (drop at room)
      moved k =
          let n : ℕ = length part in
          let j : ℕ = length room - (end + n) in
          let e : length room - (at + n) ≡ end - at + j = omega arith in
          let e₂ : at + (end - at) ≡ end = omega arith in
          let e₃ : length room - end ≡ j + n = omega arith in
          let w = ends_further (end + n) (omega arith) k in
          let v : take j (drop (end - at) (drop at room)) ≡ replicate j 0 = ap (take j) (drop-drop (end - at) at room ∙ ap (λ (i : ℕ). drop i room) e₂ ∙ z.1 ∙ ap (λ (i : ℕ). replicate i 0) e₃) ∙ take_zeros j n in
          ap (λ (l : List ℕ). take (end - at) (drop at room) ++ l) (w.1 ∙ sym v)
          ∙ sym (ap (λ (i : ℕ). take i (drop at room)) e ∙ take-add (end - at) j (drop at room))

      module _ (top : ℕ) (t : top ≡ min (end + length part) (length room)) where
        -- all that reaches the end of the room
        front_whole : length room ≤ end + length part → inserted_in (take top room) at part ++ drop top room ≡ inserted_in room at part
        front_whole k =
            let e : length room ≤ top = omega arith in
            rw (take_all top room e, drop_of_length-le room {i = top} e) (append-nil (inserted_in room at part))

        front_part : end + length part ≤ length room → inserted_in (take top room) at part ++ drop top room ≡ inserted_in room at part
        unfolding inserted
        front_part k =
            let n : ℕ = length part in
            let e : top ≡ end + n = omega arith in
            let e₂ : end + n - (at + n) ≡ end - at = omega arith in
            let l : length (take (end + n) room) ≡ end + n = length-take-le (end + n) room k in
            let d : take (end - at) (drop at (take (end + n) room)) ≡ take (end - at) (drop at room) = ap (take (end - at)) (drop_take at (end + n) room) ∙ take-take (end - at) (end + n - at) (drop at room) (omega arith) in
            rw (e, inserted_fits (take (end + n) room) at part (omega arith), inserted_fits room at part (omega arith), l, e₂, d, take-take at (end + n) room (omega arith))
            (append_assoc (take at room) (part ++ take (end - at) (drop at room)) (drop (end + n) room)
            ∙ ap (λ (l : List ℕ). take at room ++ l) (append_assoc part (take (end - at) (drop at room)) (drop (end + n) room) ∙ ap (λ (l : List ℕ). part ++ l) (moved k)))

        -- only the front is moved
        pub front_inserted : (last : List ℕ) → last ≡ inserted_in (take top room) at part → last ++ drop top room ≡ inserted_in room at part
        front_inserted last q =
            ap (λ (l : List ℕ). l ++ drop top room) q
            ∙ elim (dec_lt (length room) (end + length part)) [
              | yes l ↦ front_whole (omega arith)
              | no l ↦ front_part (omega arith)
            ]

        pub ends_inserted : (last : List ℕ) → length last ≡ top → Ends (last ++ drop top room) top
        ends_inserted last l =
            let w = ends_further top (omega arith) (omega arith) in
            let d = length-drop top room in
            let a = length-append last (drop top room) in
            let e : length (last ++ drop top room) ≡ length room = omega arith in
            rw e (w.0, drop_at last (drop top room) top l ∙ w.1)

-- ---- what `put_service` leaves

module _ (room : List ℕ) (end top : ℕ) (z : Ends room end) where
  pub entry_put : (at : ℕ) (entry last : List ℕ) → at + 140 ≤ length room → top ≡ max end (at + 140) → length entry ≡ 65 → last ≡ put_at room (at + 75) entry → Ends last top
  entry_put at entry last h t l q = ends_put room end z (at + 75) top entry last (omega arith) (omega arith) (omega arith) q

  pub slot_inserted : (at from : ℕ) (slot last : List ℕ) → at ≤ length room → from ≡ max at end → top ≡ min (from + 140) (length room) → length slot ≡ 140
      → length last ≡ length (take top room) → last ≡ inserted_in (take top room) at slot → (last ++ drop top room ≡ inserted_in room at slot) × Ends (last ++ drop top room) top
  slot_inserted at from slot last h f t s l q =
      let w = ends_further room end z from (omega arith) (omega arith) in
      let t₂ : top ≡ min (from + length slot) (length room) = rw s t in
      let k = length-take-le top room (omega arith) in
      (front_inserted room from w at slot (omega arith) top t₂ last q, ends_inserted room from w at slot (omega arith) top t₂ last (l ∙ k))
