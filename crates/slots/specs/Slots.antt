-- Bytes as slots of one length.
-- Assumes nothing.
use Rattle.std.specs.Prelude.{◌≡◌, ℕ, zero, suc, ◌+◌, ◌*◌, ◌/◌, ◌<◌, List, [], ◌∷◌, length, get_or, take, drop, slice_index, slice_index_or}
use Rattle.std.proofs.Math.Path.{refl, sym, ap}
use Rattle.std.proofs.Common.{◌∙◌, arith, add-one, suc-mul, add-zero, le_of_suc-le-suc, not-suc-le-zero, lit≤, get_or-take, get_or-drop, drop-cons, drop-drop}
use Rattle.std.proofs.Math.Nat.{zero-mul, add_comm}

module _ (size : ℕ) where
  -- the first n slots
  unfoldable pub cut : ℕ → List ℕ → List (List ℕ)
  cut zero s = []
  cut (suc n) s = take size s ∷ cut n (drop size s)

  pub length_cut : (n : ℕ) (s : List ℕ) → length (cut n s) ≡ n
  unfolding cut
  length_cut zero s = refl
  length_cut (suc n) s = ap suc (length_cut n (drop size s))

  -- slot k begins at k times the size
  pub get_or_cut : (n : ℕ) (s : List ℕ) (k : ℕ) → k < n → slice_index_or (cut n s) k [] ≡ take size (drop (k * size) s)
  unfolding cut
  get_or_cut zero s k h = absurd (not-suc-le-zero h)
  get_or_cut (suc n) s zero h = rw zero-mul
  get_or_cut (suc n) s (suc k) h =
      let e : size + k * size ≡ suc k * size = add_comm size (k * size) ∙ sym (suc-mul k size) in
      get_or_cut n (drop size s) k (le_of_suc-le-suc h) ∙ ap (take size) (drop-drop (k * size) size s ∙ ap (λ (i : ℕ). drop i s) e)

pub first_of : (n : ℕ) (s : List ℕ) (at : ℕ) → 0 < n → slice_index (take n (drop at s)) 0 ≡ slice_index s at
first_of n s at h = rw (get_or-take n (drop at s) 0 0 h, get_or-drop, add-zero)

pub first_byte : (s : List ℕ) (at : ℕ) → slice_index (take 140 (drop at s)) 0 ≡ slice_index s at
first_byte s at = first_of 140 s at (lit≤ tt)

-- the slots of a room
unfoldable pub slots_of : List ℕ → List (List ℕ)
slots_of s = cut 140 (length s / 140) s

module _ (s : List ℕ) where
  pub length_slots : length (slots_of s) ≡ length s / 140
  unfolding slots_of
  length_slots = length_cut 140 (length s / 140) s

  module _ (k : ℕ) (h : k < length s / 140) where
    pub slot_at : get_or (slots_of s) k [] ≡ take 140 (drop (k * 140) s)
    unfolding slots_of
    slot_at = get_or_cut 140 (length s / 140) s k h

    -- the slots from k on begin with the one at k
    pub slot_here : drop k (slots_of s) ≡ take 140 (drop (k * 140) s) ∷ drop (k + 1) (slots_of s)
    slot_here = let l = length_slots in rw (add-one, drop-cons (slots_of s) k [] (omega arith), slot_at)
