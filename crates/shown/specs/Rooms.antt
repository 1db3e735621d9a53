-- In the room of good records the k-th slot's record is the k-th record.
-- Assumes nothing.
use Rattle.std.specs.Prelude.{◌≡◌, true, replicate}
use Rattle.std.proofs.Common.{sym, ◌∙◌, add-zero, lit≤}
use Rattle.std.proofs.Math.Path.{ap}
use mathlib.Core.List.{List, map}
use Prim.Native.Nat.{ℕ, ◌+◌, ◌-◌, ◌*◌, ◌/◌, ◌≤◌, ◌<◌}
use native.Mathlib.Omega.{arith}
use Rattle.std.proofs.Math.Decide.{dec_lt}
use borrow.Author.Tests.{eq-eqb, ne_eqb, lt-ltb, le-ltb}
use Rattle.std.proofs.Math.ListN.{length, get_or, length-map, get_or-replicate}
use Rattle.std.proofs.Math.Seq.{get_or-append-add}
use Rattle.laws.specs.Joined.{joined, length_each}
use Rattle.contents.specs.Contents.{Record, good_account}
use Rattle.contents.specs.Written.{slot_of, room_bytes}
use Rattle.contents.specs.Calls.{record_at}
use Rattle.rooms.specs.Slots.{slot_again, slot_used, slots_each, length_room, account_fits, account_records}
use Rattle.rooms.specs.Places.{record_there, record_past, record_good, slot_there, slot_byte}
use Rattle.shown.specs.Shown.{record_of}

module _ (quota : ℕ) (rs : List Record) (g : good_account quota rs ≡ true) (k : ℕ) where
  -- behind the records a slot is not used
  unused_there : length rs ≤ k → k < quota → get_or (room_bytes quota rs) (k * 140) 0 ≡ 0
  unfolding room_bytes
  unused_there h l =
      let t : List ℕ = joined (map slot_of rs) in
      let e = length_each 140 (map slot_of rs) (slots_each rs (account_records quota rs g)) in
      let m = length-map rs slot_of in
      let i : k * 140 ≡ length t + (k - length rs) * 140 = omega arith in
      ap (λ (j : ℕ). get_or (room_bytes quota rs) j 0) i
      ∙ get_or-append-add t (replicate ((quota - length rs) * 140) 0) ((k - length rs) * 140) 0
      ∙ get_or-replicate ((quota - length rs) * 140) ((k - length rs) * 140) 0 0 (omega arith)

  slots_there : length (room_bytes quota rs) / 140 ≡ quota
  slots_there = let l = length_room quota rs (account_records quota rs g) (account_fits quota rs g) in omega arith

  -- the law
  pub record_shown : record_of (room_bytes quota rs) k ≡ record_at k rs
  unfolding record_of
  record_shown =
      let q = account_records quota rs g in
      let h = account_fits quota rs g in
      elim (dec_lt k (length rs)) [
        | yes l ↦
            let t = record_there k rs l in
            let r = t.0 in
            let b : get_or (room_bytes quota rs) (k * 140) 0 ≡ get_or (slot_of r) 0 0 =
            ap (λ (j : ℕ). get_or (room_bytes quota rs) j 0) (sym (add-zero (k * 140))) ∙ slot_byte quota rs k r q h t.1 0 (lit≤ tt) in
            let n = record_good k rs r q t.1 in
            rw (slots_there, lt-ltb k quota (omega arith), b, ne_eqb (get_or (slot_of r) 0 0) 0 (slot_used r n), slot_there quota rs k r q h t.1, slot_again r n) (sym t.1)
        | no l ↦
            elim (dec_lt k quota) [
              | yes m ↦ rw (slots_there, lt-ltb k quota m, eq-eqb (get_or (room_bytes quota rs) (k * 140) 0) 0 (unused_there (omega arith) m)) (sym (record_past k rs (omega arith)))
              | no m ↦ rw (slots_there, le-ltb k quota (omega arith)) (sym (record_past k rs (omega arith)))
            ]
      ]
