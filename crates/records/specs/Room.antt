-- A room of n slots: records one behind the other, then zeros. What the code does to its bytes, said over the records.
-- Assumes nothing.
use Rattle.std.specs.Prelude.{◌≡◌, refl, List, [], ◌∷◌, ◌++◌, set, replicate}
use Rattle.std.proofs.Common.{sym, ◌∙◌, append_assoc, append-nil, arith, mul_comm, length-append, length-drop, length-set, length-take-le}
use Rattle.std.proofs.Math.Path.{ap}
use Prim.Native.Nat.{ℕ, zero, suc, ◌+◌, ◌*◌, ◌-◌, ◌≤◌, ◌<◌}
use Rattle.std.proofs.Math.Nat.{suc-mul, mul-sub}
use Rattle.std.proofs.Math.ListN.{length, take, drop}
use Rattle.std.proofs.lemmas.List.{length-replicate, replicate-append-replicate, take-append-le, drop-append-le, set-append_left}
use Rattle.std.proofs.Math.Seq.{paste, take-append-add, take_all, set_split}
use Rattle.gaps.specs.Move.{closed, inserted}
use Rattle.laws.specs.Joined.{joined, Each, joined_append, each_append, each_drop, each_replicate, length_each, take_joined, drop_joined}

-- a record before the k-th
unfoldable pub insert_at : ℕ → List ℕ → List (List ℕ) → List (List ℕ)
insert_at k r rs = take k rs ++ (r ∷ drop k rs)

-- all but the k-th
unfoldable pub remove_at : ℕ → List (List ℕ) → List (List ℕ)
remove_at k rs = take k rs ++ drop (suc k) rs

-- ---- lists that are filled up to a length

module _ {A : Type 0} where
  take_replicate : (m : ℕ) (z : A) → take m (replicate (suc m) z) ≡ replicate m z
  take_replicate zero z = refl
  take_replicate (suc m) z = ap (λ (l : List A). z ∷ l) (take_replicate m z)

  padded_insert : (rs : List A) (z r : A) (n k : ℕ) → length rs < n → k ≤ length rs
      → take k (rs ++ replicate (n - length rs) z) ++ (r ∷ take (n - suc k) (drop k (rs ++ replicate (n - length rs) z))) ≡ (take k rs ++ (r ∷ drop k rs)) ++ replicate (n - suc (length rs)) z
  padded_insert rs z r n k h g =
      let m : ℕ = n - suc (length rs) in
      let e₁ : n - length rs ≡ suc m = omega arith in
      let e₂ : n - suc k ≡ length (drop k rs) + m = let d = length-drop k rs in omega arith in
      rw (take-append-le k rs (replicate (n - length rs) z) g, drop-append-le k rs (replicate (n - length rs) z) g, e₁, e₂, take-append-add (drop k rs) (replicate (suc m) z) m, take_replicate m z)
      (sym (append_assoc (take k rs) (r ∷ drop k rs) (replicate m z)))

  padded_remove : (rs : List A) (z : A) (n k : ℕ) → length rs ≤ n → k < length rs
      → take k (rs ++ replicate (n - length rs) z) ++ (drop (suc k) (rs ++ replicate (n - length rs) z) ++ (z ∷ [])) ≡ (take k rs ++ drop (suc k) rs) ++ replicate (n - (length rs - 1)) z
  padded_remove rs z n k h g =
      let m : ℕ = n - length rs in
      let e : n - (length rs - 1) ≡ m + 1 = omega arith in
      rw (take-append-le k rs (replicate m z) (omega arith), drop-append-le (suc k) rs (replicate m z) g, append_assoc (drop (suc k) rs) (replicate m z) (z ∷ []), replicate-append-replicate m 1 z, e)
      (sym (append_assoc (take k rs) (drop (suc k) rs) (replicate (m + 1) z)))

pub length_insert : (k : ℕ) (r : List ℕ) (rs : List (List ℕ)) → k ≤ length rs → length (take k rs ++ (r ∷ drop k rs)) ≡ suc (length rs)
length_insert k r rs h =
    let d = length-drop k rs in
    let t = length-take-le k rs h in
    simp length-append (omega arith)

length_remove : (k : ℕ) (rs : List (List ℕ)) → k < length rs → length (take k rs ++ drop (suc k) rs) ≡ length rs - 1
length_remove k rs h =
    let d = length-drop (suc k) rs in
    let t = length-take-le k rs (omega arith) in
    simp length-append (omega arith)

-- ---- slots of one size

module _ (size : ℕ) where
  -- records, and empty slots up to n
  unfoldable pub padded : ℕ → List (List ℕ) → List (List ℕ)
  padded n rs = rs ++ replicate (n - length rs) (replicate size 0)

  -- the room's bytes
  unfoldable pub room_of : ℕ → List (List ℕ) → List ℕ
  room_of n rs = joined (padded n rs)

  -- the bytes behind the first suc k of m slots
  rest : (m k : ℕ) → m * size - (k * size + size) ≡ (m - suc k) * size
  rest m k = rw (← suc-mul k size, mul_comm (m - suc k) size, mul-sub size m (suc k), mul_comm size m, mul_comm size (suc k))

  module _ (ss : List (List ℕ)) (each : Each size ss) (k : ℕ) (h : k < length ss) where
    -- a slot put in at slot k: the last slot falls out
    pub slots_insert : (r : List ℕ) → length r ≡ size → inserted (joined ss) (k * size) r ≡ joined (take k ss ++ (r ∷ take (length ss - suc k) (drop k ss)))
    unfolding joined inserted
    slots_insert r e =
        rw (e, length_each size ss each, rest (length ss) k, take_joined size k ss each, drop_joined size k ss each, take_joined size (length ss - suc k) (drop k ss) (each_drop size k ss each))
        (sym (joined_append (take k ss) (r ∷ take (length ss - suc k) (drop k ss))))

    -- slot k closed: an empty slot at the end
    pub slots_remove : closed (joined ss) (k * size) size ≡ joined (take k ss ++ (drop (suc k) ss ++ (replicate size 0 ∷ [])))
    unfolding joined closed
    slots_remove = rw (← suc-mul k size, take_joined size k ss each, drop_joined size (suc k) ss each)
        (sym (rw (joined_append (take k ss) (drop (suc k) ss ++ (replicate size 0 ∷ [])), joined_append (drop (suc k) ss) (replicate size 0 ∷ []), append-nil)))

    -- slot k written over
    pub slots_set : (r : List ℕ) → length r ≡ size → paste (joined ss) (k * size) r size ≡ joined (set ss k r)
    unfolding joined
    slots_set r e =
        rw (← suc-mul k size, take_joined size k ss each, drop_joined size (suc k) ss each, take_all size r (omega arith), set_split ss k r h, joined_append (take k ss) (r ∷ drop (suc k) ss))
        (append_assoc (joined (take k ss)) r (joined (drop (suc k) ss)))

  module _ (n : ℕ) (rs : List (List ℕ)) (each : Each size rs) where
    pub each_padded : Each size (padded n rs)
    unfolding padded
    each_padded = each_append size rs (replicate (n - length rs) (replicate size 0)) each (each_replicate size (n - length rs) (replicate size 0) (length-replicate size 0))

    pub length_padded : length rs ≤ n → length (padded n rs) ≡ n
    unfolding padded
    length_padded h = rw (length-append, length-replicate) (omega arith)

    pub room_insert : length rs < n → (k : ℕ) → k ≤ length rs → (r : List ℕ) → length r ≡ size → inserted (room_of n rs) (k * size) r ≡ room_of n (insert_at k r rs)
    unfolding room_of padded insert_at
    room_insert h k g r e =
        let l = length_padded (omega arith) in
        slots_insert (padded n rs) each_padded k (omega arith) r e
        ∙ ap joined (rw (l, length_insert k r rs g) (padded_insert rs (replicate size 0) r n k h g))

    pub room_remove : length rs ≤ n → (k : ℕ) → k < length rs → closed (room_of n rs) (k * size) size ≡ room_of n (remove_at k rs)
    unfolding room_of padded remove_at
    room_remove h k g =
        let l = length_padded h in
        slots_remove (padded n rs) each_padded k (omega arith)
        ∙ ap joined (rw (length_remove k rs g) (padded_remove rs (replicate size 0) n k h g))

    pub room_set : length rs ≤ n → (k : ℕ) → k < length rs → (r : List ℕ) → length r ≡ size → paste (room_of n rs) (k * size) r size ≡ room_of n (set rs k r)
    unfolding room_of padded
    room_set h k g r e =
        let l = length_padded h in
        slots_set (padded n rs) each_padded k (omega arith) r e
        ∙ ap joined (rw (length-set rs k r) (set-append_left rs (replicate (n - length rs) (replicate size 0)) k r g))
