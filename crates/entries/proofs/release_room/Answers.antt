-- `entries::release_room` meets its contract. Invariant: of whatever room the slots before the loop were released, so are those that it has passed.
-- Assumes nothing.
use mathlib.Core.Path.{refl, ◌∙◌}
use mathlib.Core.List.{List}
use Prim.Native.Nat.{ℕ, ◌+◌, ◌*◌, ◌≤◌}
use native.Mathlib.Omega.{arith}
use lib.ListN.{take, drop}
use Rattle.slots.specs.Rising.{leading}
use Rattle.slots.specs.Slots.{slots_of}
use Rattle.records.specs.Read.{used_within}
use Rattle.entries.specs.Released.{SoFar, one_le, turn, used_stop, used_end, count_end, left_end}
use Rattle.entries.proofs.release_room.Goals.{else-loop-k-test, then-loop-k-test+then-room-k-eq0}
use Rattle.entries.proofs.release_room.Goals as goal

pub overflow_mul-to : goal.overflow_mul-to
overflow_mul-to c =
    let v = c.settle_front-front.ensures.1 in
    let room = c.args.room.now in
    let w = used_within room (leading (slots_of room)) refl in
    omega arith

pub overflow_add-count : goal.overflow_add-count
overflow_add-count c = let o = one_le (take 140 (drop (c.loop-k.k * 140) c.loop-k.room)) in omega arith

pub loop-k-preserved : goal.loop-k-preserved
loop-k-preserved c =
    let l = c.loop-k in
    let t = c.settle-to in
    let o = c.pending_at-count in
    let f = c.settle_front-front in
    let next : (s : List ℕ) → SoFar s f.new.room f.result.slots (f.result.slots * 140) f.result.pending → SoFar s t.new.room (l.k + 1) t.result (l.count + o.result) =
    λ s u.
    let e = u.0 in
    turn s l.room l.k l.to l.count (l.invariant.3 s u) (omega arith) c.if-room-k-eq0.false o.result t.result t.new.room o.ensures t.auto.room (t.ensures.told, (t.ensures.left, t.ensures.behind)) in
    let v = next c.args.room.now f.ensures in
    (t.auto.room ∙ l.invariant.0, v.2, v.3, next)

pub returns : goal.returns
returns c =
    let s = c.args.room.now in
    let l = c.loop-k in
    let f = c.settle_front-front.ensures in
    let v = l.invariant.3 s f in
    let w = used_within s (leading (slots_of s)) refl in
    let g = f.0 in
    let a = v.0 in
    let b = v.1 in
    let e : leading (slots_of s) ≤ l.k =
    elim c.loop-k-test.branch [
      | else-loop-k-test w ↦ used_end s l.k l.room v.4 v.1 (let y = w.loop-k-test.false in omega arith)
      | then-loop-k-test+then-room-k-eq0 w ↦ used_stop s l.k l.room v.4 v.1 (let y = w.loop-k-test.true in omega arith) w.if-room-k-eq0.true
    ] in
    record {
      told = count_end s l.k l.count e v.6;
      left = c.clear_from.ensures ∙ left_end s l.room l.k l.to v.0 (omega arith) e v.5;
    }
