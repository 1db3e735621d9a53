-- The laws of a release for the code: one slot, and one turn of the loop.
-- Assumes nothing.
use Rattle.std.specs.Prelude.{◌≡◌, ℕ, ◌+◌, ◌-◌, ◌*◌, ◌/◌, ◌≤◌, ◌<◌, eqb, drop, replicate}
use Rattle.std.proofs.Math.Path.{refl, sym, ap}
use Rattle.std.proofs.Common.{◌∙◌, subst, add-one, lit≤, length-append, drop_of_length-le, take-append-drop, get_or-drop, take-add, take_at, drop_at}
use mathlib.Core.List.{List, [], ◌∷◌, ◌++◌, append_assoc, append-nil}
use native.Mathlib.Omega.{arith}
use borrow.Author.Tests.{eq-eqb, ne_eqb, eqb-false}
use Rattle.std.proofs.Math.ListN.{length, get_or, take, length-drop}
use Rattle.std.proofs.lemmas.List.{length-replicate, take-append-le}
use Rattle.std.proofs.Math.Seq.{get_or-take, take-take, take_all, drop-drop, drop-cons, length-take-le, paste}
use Rattle.std.proofs.lemmas.List.Edits.{length-paste, take-paste, drop-paste}
use borrow.Rule.Slice.PartMut.{mid_of, put_mid}
use Rattle.laws.specs.Choice.{choose}
use Rattle.laws.specs.Lists.{drop_here, drop_take}
use Rattle.laws.specs.Put.{put_at, put_front}
use Rattle.laws.specs.Filled.{filled_up}
use Rattle.gaps.specs.Zero.{zero_from}
use Rattle.gaps.specs.Move.{closed, closed_in, closed_fits}
use Rattle.slots.specs.Slots.{slots_of, slot_at}
use Rattle.slots.specs.Rising.{leading, leading_stop, leading_on}
use Rattle.records.specs.Read.{leading_le, used_within}
use Rattle.entries.specs.Release.{made_live, kept_slot, settled_slot, settled_slots, pending_one, pending_slots, used_slots, released_room}

-- a byte of the slot at an index
pub slot_byte : (s : List ℕ) (at j : ℕ) → j < 140 → get_or (take 140 (drop at s)) j 0 ≡ get_or s (at + j) 0
slot_byte s at j h = get_or-take 140 (drop at s) j 0 h ∙ get_or-drop at s j 0

pub length_slot : (s : List ℕ) (at : ℕ) → at + 140 ≤ length s → length (take 140 (drop at s)) ≡ 140
length_slot s at h = let d = length-drop at s in length-take-le 140 (drop at s) (omega arith)

-- ---- for `pending_at`

module _ (s : List ℕ) (at : ℕ) where
  pub one_none : get_or s (at + 75) 0 ≡ 0 → 0 ≡ pending_one (take 140 (drop at s))
  unfolding pending_one
  one_none q = sym (rw (slot_byte s at 75 (lit≤ tt), eq-eqb (get_or s (at + 75) 0) 0 q))

  pub one_some : (get_or s (at + 75) 0 ≡ 0 → ⊥) → 1 ≡ pending_one (take 140 (drop at s))
  unfolding pending_one
  one_some q = sym (rw (slot_byte s at 75 (lit≤ tt), ne_eqb (get_or s (at + 75) 0) 0 q))

pub one_le : (slot : List ℕ) → pending_one slot ≤ 1
unfolding pending_one
one_le slot = choose (eqb (get_or slot 75 0) 0) (λ p. rw p (omega arith)) (λ p. rw p (omega arith))

-- ---- for `whole_slot`

pub whole : (s : List ℕ) (at : ℕ) → at + 140 ≤ length s → (n : ℕ) → n ≡ 140 → put_at (replicate 140 0) 0 (take n (drop at s)) ≡ take 140 (drop at s)
whole s at h n e =
    let l = length_slot s at h in
    rw e (put_front (replicate 140 0) (take 140 (drop at s)) (omega arith) ∙ rw l (append-nil (take 140 (drop at s))))

length_live : (slot : List ℕ) → length slot ≡ 140 → length (made_live slot) ≡ 140
unfolding made_live
length_live slot h =
    let d = length-drop 76 slot in
    let a = length-take-le 10 slot (omega arith) in
    let b = length-take-le 64 (drop 76 slot) (omega arith) in
    let c = length-append (take 64 (drop 76 slot)) (replicate 65 0) in
    let r = length-replicate {A = ℕ} 65 0 in
    length-append (take 10 slot) (1 ∷ (take 64 (drop 76 slot) ++ replicate 65 0)) ∙ omega arith

length_kept : (slot : List ℕ) → length slot ≡ 140 → length (kept_slot slot) ≡ 140
unfolding kept_slot
length_kept slot h = choose (eqb (get_or slot 75 0) 0) (λ p. rw p h) (λ p. rw p (length_live slot h))

-- ---- for `make_live`

-- a slot written over itself
paste_same : (s : List ℕ) (at : ℕ) → s ≡ paste s at (take 140 (drop at s)) 140
paste_same s at = sym (rw (take-take 140 140 (drop at s) (lit≤ tt), ← take-add at 140 s) (take-append-drop (at + 140) s))

module _ (s : List ℕ) (at : ℕ) where
  pub live_none : get_or s (at + 75) 0 ≡ 0 → s ≡ paste s at (kept_slot (take 140 (drop at s))) 140
  unfolding kept_slot
  live_none q = rw (slot_byte s at 75 (lit≤ tt), eq-eqb (get_or s (at + 75) 0) 0 q) (paste_same s at)

  module _ (h : at + 140 ≤ length s) (l : get_or s (at + 75) 0 ≤ 1) (q : get_or s (at + 75) 0 ≡ 0 → ⊥) where
    -- the flag and the calendar that become live, and what is cleared
    abbrev entry : List ℕ
    entry = 1 ∷ (take 64 (drop (at + 76) s) ++ replicate 65 0)

    kept_is : take 140 (kept_slot (take 140 (drop at s))) ≡ take 10 (drop at s) ++ entry
    unfolding kept_slot made_live
    kept_is =
        let m = length_kept (take 140 (drop at s)) (length_slot s at h) in
        take_all 140 (kept_slot (take 140 (drop at s))) (omega arith)
        ∙ rw (slot_byte s at 75 (lit≤ tt), ne_eqb (get_or s (at + 75) 0) 0 q, take-take 10 140 (drop at s) (lit≤ tt), drop_take 76 140 (drop at s), drop-drop 76 at s)
        (rw (take-take 64 64 (drop (at + 76) s) (lit≤ tt)))

    moved_is : closed_in (take 130 (drop (at + 10) s)) 0 65 ≡ entry
    unfolding closed
    moved_is =
        let d = length-drop (at + 10) s in
        let m = length-take-le 130 (drop (at + 10) s) (omega arith) in
        let e : at + 10 + 65 ≡ at + 75 = omega arith in
        let e₂ : at + 75 + 1 ≡ at + 76 = omega arith in
        let one : get_or s (at + 75) 0 ≡ 1 = omega arith in
        closed_fits (take 130 (drop (at + 10) s)) 0 65 (omega arith)
        ∙ rw (drop_take 65 130 (drop (at + 10) s), drop-drop 65 (at + 10) s, e, drop_here s (at + 75) (omega arith), e₂, one)

    pub live_put : (n : ℕ) (last : List ℕ) → n ≡ 130 → last ≡ closed_in (mid_of (at + 10) n s) 0 65 → put_mid (at + 10) n s last ≡ paste s at (kept_slot (take 140 (drop at s))) 140
    live_put n last e g =
        let z : at + 10 + 130 ≡ at + 140 = omega arith in
        rw (g, e, moved_is, kept_is, drop-drop 130 (at + 10) s, z, take-add at 10 s)
        (sym (append_assoc (take at s ++ take 10 (drop at s)) entry (drop (at + 140) s))
        ∙ ap (λ (x : List ℕ). x ++ drop (at + 140) s) (append_assoc (take at s) (take 10 (drop at s)) entry))

-- ---- for `move_slot`

module _ (s : List ℕ) (from to : ℕ) where
  pub move_put : from + 140 ≤ length s → to ≤ from → (n : ℕ) (slot last : List ℕ) → n ≡ 140 → slot ≡ take 140 (drop from s) → last ≡ put_at (mid_of to n s) 0 slot
      → put_mid to n s last ≡ paste s to (take 140 (drop from s)) 140
  move_put h t n slot last e q g =
      let x : List ℕ = take 140 (drop from s) in
      let m = length_slot s from h in
      let k = length_slot s to (omega arith) in
      let p : put_at (take 140 (drop to s)) 0 x ≡ x =
      put_front (take 140 (drop to s)) x (omega arith) ∙ rw (drop_of_length-le (take 140 (drop to s)) {i = length x} (omega arith)) (append-nil x) in
      rw (g, q, e, p, drop-drop 140 to s, take_all 140 x (omega arith)) (sym (append_assoc (take to s) x (drop (to + 140) s)))

-- ---- for `settle`

module _ (s : List ℕ) (from to : ℕ) where
  abbrev settled : List ℕ
  settled = settled_slot (take 140 (drop from s))

  -- where it ends, what stands before that, and what stands behind the slot
  abbrev pub Settled : ℕ → List ℕ → Type 0
  Settled r b = (r ≡ to + length settled) × ((take r b ≡ take to s ++ settled) × (drop (from + 140) b ≡ drop (from + 140) s))

  settled_gone : 1 < get_or s (from + 75) 0 → settled ≡ []
  unfolding settled_slot
  settled_gone h =
      rw (slot_byte s from 75 (lit≤ tt), ne_eqb (get_or s (from + 75) 0) 0 (λ e. omega arith), ne_eqb (get_or s (from + 75) 0) 1 (λ e. omega arith))

  settled_kept : get_or s (from + 75) 0 ≤ 1 → settled ≡ kept_slot (take 140 (drop from s))
  unfolding settled_slot kept_slot
  settled_kept h =
      rw (slot_byte s from 75 (lit≤ tt))
      (choose (eqb (get_or s (from + 75) 0) 0)
      (λ p. rw p)
      (λ p. let ne = eqb-false (get_or s (from + 75) 0) 0 p in rw (p, eq-eqb (get_or s (from + 75) 0) 1 (omega arith))))

  pub settle_gone : 1 < get_or s (from + 75) 0 → Settled to s
  settle_gone h = rw (settled_gone h) (omega arith, (sym (append-nil (take to s)), refl))

  -- a slot written in its place and then to an index before it
  module _ (h : from + 140 ≤ length s) (t : to ≤ from) (k b n : List ℕ) (l : length k ≡ 140) (p : b ≡ paste s from k 140) (m : n ≡ paste b to (take 140 (drop from b)) 140) where
    abbrev placed : length b ≡ length s
    placed = ap length p ∙ length-paste s from k 140 h (omega arith)

    there : take 140 (drop from b) ≡ k
    there =
        rw (p, append_assoc (take from s) (take 140 k) (drop (from + 140) s), drop_at (take from s) (take 140 k ++ drop (from + 140) s) from (length-take-le from s (omega arith)), take_all 140 k (omega arith))
        (take_at k (drop (from + 140) s) 140 l)

    before : take to b ≡ take to s
    before =
        let f = length-take-le from s (omega arith) in
        rw (p, append_assoc (take from s) (take 140 k) (drop (from + 140) s))
        (take-append-le to (take from s) (take 140 k ++ drop (from + 140) s) (omega arith) ∙ take-take to from s t)

    placed_front : take (to + 140) n ≡ take to s ++ k
    placed_front =
        let e = placed in
        let c = ap length there in
        rw m (take-paste b to (take 140 (drop from b)) 140 (omega arith) (omega arith) ∙ rw (there, before, take_all 140 k (omega arith)))

    placed_behind : drop (from + 140) n ≡ drop (from + 140) s
    placed_behind =
        let e = placed in
        let c = ap length there in
        let j : ℕ = from - to in
        let z : from + 140 ≡ to + 140 + j = omega arith in
        ap (λ (i : ℕ). drop i n) z
        ∙ sym (drop-drop j (to + 140) n)
        ∙ ap (drop j) (ap (drop (to + 140)) m ∙ drop-paste b to (take 140 (drop from b)) 140 (omega arith) (omega arith))
        ∙ drop-drop j (to + 140) b
        ∙ ap (λ (i : ℕ). drop i b) (sym z)
        ∙ ap (drop (from + 140)) p
        ∙ drop-paste s from k 140 (omega arith) (omega arith)

  pub settle_kept : (b n : List ℕ) → from + 140 ≤ length s → to ≤ from → get_or s (from + 75) 0 ≤ 1 → b ≡ paste s from (kept_slot (take 140 (drop from s))) 140
      → n ≡ paste b to (take 140 (drop from b)) 140 → Settled (to + 140) n
  settle_kept b n h t l p m =
      let k : List ℕ = kept_slot (take 140 (drop from s)) in
      let c = length_kept (take 140 (drop from s)) (length_slot s from h) in
      rw (settled_kept l) (omega arith, (placed_front h t k b n c p m, placed_behind h t k b n c p m))

  -- the same in its place
  settle_here : (b : List ℕ) → to ≡ from → from + 140 ≤ length s → get_or s (from + 75) 0 ≤ 1 → b ≡ paste s from (kept_slot (take 140 (drop from s))) 140 → Settled (from + 140) b
  settle_here b e h l p = subst (λ (i : ℕ). Settled (i + 140) b) e (settle_kept b b h (omega arith) l p (rw e (paste_same b from)))

-- ---- for `settle_front`, `release_room`

settled_le : (slot : List ℕ) → length slot ≡ 140 → length (settled_slot slot) ≤ 140
unfolding settled_slot
settled_le slot h =
    choose (eqb (get_or slot 75 0) 0)
    (λ p. rw p (omega arith))
    (λ p.
    choose (eqb (get_or slot 75 0) 1)
    (λ q. rw (p, q) (let l = length_live slot h in omega arith))
    (λ q. rw (p, q) (omega arith)))

module _ (s : List ℕ) where
  length_used : length (used_slots s) ≡ leading (slots_of s)
  unfolding used_slots
  length_used = length-take-le (leading (slots_of s)) (slots_of s) (leading_le (slots_of s))

  module _ (k : ℕ) (h : k < leading (slots_of s)) where
    used_here : drop k (used_slots s) ≡ take 140 (drop (k * 140) s) ∷ drop (k + 1) (used_slots s)
    unfolding used_slots
    used_here =
        let l = length_used in
        let w = used_within s (leading (slots_of s)) refl in
        rw (add-one, drop-cons (used_slots s) k [] (omega arith), get_or-take (leading (slots_of s)) (slots_of s) k [] h, slot_at s k (omega arith))

    -- the slot read is that of the room as it was
    slot_same : (b : List ℕ) → drop (k * 140) b ≡ drop (k * 140) s → take 140 (drop (k * 140) b) ≡ take 140 (drop (k * 140) s)
    slot_same b q = ap (take 140) q

    count_turn : (b : List ℕ) (count one : ℕ) → drop (k * 140) b ≡ drop (k * 140) s → one ≡ pending_one (take 140 (drop (k * 140) b))
        → count + pending_slots (drop k (used_slots s)) ≡ pending_slots (used_slots s) → count + one + pending_slots (drop (k + 1) (used_slots s)) ≡ pending_slots (used_slots s)
    unfolding pending_slots
    count_turn b count one q p v =
        let e : one ≡ pending_one (take 140 (drop (k * 140) s)) = p ∙ ap pending_one (slot_same b q) in
        let w : count + (pending_one (take 140 (drop (k * 140) s)) + pending_slots (drop (k + 1) (used_slots s))) ≡ pending_slots (used_slots s) = (rw used_here at v) in
        omega arith

    module _ (b : List ℕ) (to r : ℕ) (n : List ℕ) (lb : length b ≡ length s) (t : to ≤ k * 140) (q : drop (k * 140) b ≡ drop (k * 140) s) (p : Settled b (k * 140) to r n) where
      to_turn : r ≤ (k + 1) * 140
      to_turn =
          let w = used_within s (leading (slots_of s)) refl in
          let l = settled_le (take 140 (drop (k * 140) b)) (length_slot b (k * 140) (omega arith)) in
          let e = p.0 in
          omega arith

      rest_turn : drop ((k + 1) * 140) n ≡ drop ((k + 1) * 140) s
      rest_turn =
          let e : (k + 1) * 140 ≡ k * 140 + 140 = omega arith in
          rw e (p.1.1 ∙ sym (drop-drop 140 (k * 140) b) ∙ ap (drop 140) q ∙ drop-drop 140 (k * 140) s)

      left_turn : take to b ++ settled_slots (drop k (used_slots s)) ≡ settled_slots (used_slots s) → take r n ++ settled_slots (drop (k + 1) (used_slots s)) ≡ settled_slots (used_slots s)
      unfolding settled_slots
      left_turn v =
          ap (λ (l : List ℕ). l ++ settled_slots (drop (k + 1) (used_slots s))) p.1.0
          ∙ append_assoc (take to b) (settled_slot (take 140 (drop (k * 140) b))) (settled_slots (drop (k + 1) (used_slots s)))
          ∙ ap (λ (l : List ℕ). take to b ++ (l ++ settled_slots (drop (k + 1) (used_slots s)))) (ap settled_slot (slot_same b q))
          ∙ (rw used_here at v)

  -- whether the slots go on, by the first byte of the one at hand
  module _ (k : ℕ) (b : List ℕ) (q : drop (k * 140) b ≡ drop (k * 140) s) (v : k + leading (drop k (slots_of s)) ≡ leading (slots_of s)) where
    first_same : get_or b (k * 140) 0 ≡ get_or s (k * 140) 0
    first_same =
        let z : k * 140 ≡ k * 140 + 0 = omega arith in
        ap (λ (i : ℕ). get_or b i 0) z ∙ sym (get_or-drop (k * 140) b 0 0) ∙ ap (λ (l : List ℕ). get_or l 0 0) q ∙ get_or-drop (k * 140) s 0 0 ∙ ap (λ (i : ℕ). get_or s i 0) (sym z)

    used_on : k < length s / 140 → (get_or b (k * 140) 0 ≡ 0 → ⊥) → (k < leading (slots_of s)) × (k + 1 + leading (drop (k + 1) (slots_of s)) ≡ leading (slots_of s))
    used_on h f =
        let e = leading_on s k h (λ g. f (first_same ∙ g)) in
        (omega arith, omega arith)

    pub used_stop : k < length s / 140 → get_or b (k * 140) 0 ≡ 0 → leading (slots_of s) ≤ k
    used_stop h f =
        let e = leading_stop s k h (sym first_same ∙ f) in
        omega arith

    pub used_end : length s / 140 ≤ k → leading (slots_of s) ≤ k
    used_end h =
        let w = used_within s (leading (slots_of s)) refl in
        omega arith

  -- the slots before the k-th are released, into as many bytes, and so many of them had a pending entry; the others are as they were
  abbrev pub SoFar : List ℕ → ℕ → ℕ → ℕ → Type 0
  SoFar b k to count =
      (length b ≡ length s)
      × (k + leading (drop k (slots_of s)) ≡ leading (slots_of s))
      × (to ≤ k * 140)
      × (count ≤ k)
      × (drop (k * 140) b ≡ drop (k * 140) s)
      × (take to b ++ settled_slots (drop k (used_slots s)) ≡ settled_slots (used_slots s))
      × (count + pending_slots (drop k (used_slots s)) ≡ pending_slots (used_slots s))

  pub turn : (b : List ℕ) (k to count : ℕ) → SoFar b k to count → k < length s / 140 → (get_or b (k * 140) 0 ≡ 0 → ⊥) → (one r : ℕ) (n : List ℕ)
      → one ≡ pending_one (take 140 (drop (k * 140) b)) → length n ≡ length b → Settled b (k * 140) to r n → SoFar n (k + 1) r (count + one)
  turn b k to count v h f one r n o l p =
      let u = used_on k b v.4 v.1 h f in
      let m = one_le (take 140 (drop (k * 140) b)) in
      let c = v.3 in (
        l ∙ v.0,
        u.1,
        to_turn k u.0 b to r n v.0 v.2 v.4 p,
        omega arith,
        rest_turn k u.0 b to r n v.0 v.2 v.4 p,
        left_turn k u.0 b to r n v.0 v.2 v.4 p v.5,
        count_turn k u.0 b count one v.4 o v.6,
      )

  -- the same where the slot stays in its place
  pub turn_here : (b : List ℕ) (k count : ℕ) → SoFar b k (k * 140) count → k < length s / 140 → (get_or b (k * 140) 0 ≡ 0 → ⊥) → get_or b (k * 140 + 75) 0 ≤ 1 → (one : ℕ) (n : List ℕ)
      → one ≡ pending_one (take 140 (drop (k * 140) b)) → length n ≡ length b → n ≡ paste b (k * 140) (kept_slot (take 140 (drop (k * 140) b))) 140 → SoFar n (k + 1) ((k + 1) * 140) (count + one)
  turn_here b k count v h f g one n o l p =
      let e : k * 140 + 140 ≡ (k + 1) * 140 = omega arith in
      let m = v.0 in
      subst (λ (i : ℕ). SoFar n (k + 1) i (count + one)) e (turn b k (k * 140) count v h f one (k * 140 + 140) n o l (settle_here b (k * 140) (k * 140) n refl (omega arith) g p))

  pub used_all : (k : ℕ) → leading (slots_of s) ≤ k → drop k (used_slots s) ≡ []
  used_all k h = let l = length_used in drop_of_length-le (used_slots s) {i = k} (omega arith)

  pub count_end : (k count : ℕ) → leading (slots_of s) ≤ k → count + pending_slots (drop k (used_slots s)) ≡ pending_slots (used_slots s) → count ≡ pending_slots (used_slots s)
  unfolding pending_slots
  count_end k count h v =
      let w : count + 0 ≡ pending_slots (used_slots s) = (rw (used_all k h) at v) in
      omega arith

  pub left_end : (b : List ℕ) (k to : ℕ) → length b ≡ length s → to ≤ length b → leading (slots_of s) ≤ k
      → take to b ++ settled_slots (drop k (used_slots s)) ≡ settled_slots (used_slots s) → zero_from b to ≡ released_room s
  unfolding zero_from released_room filled_up settled_slots
  left_end b k to lb t h v =
      let e : take to b ≡ settled_slots (used_slots s) = sym (append-nil (take to b)) ∙ (rw (used_all k h) at v) in
      let l : length (settled_slots (used_slots s)) ≡ to = sym (ap length e) ∙ length-take-le to b t in
      rw (lb, e, l)
