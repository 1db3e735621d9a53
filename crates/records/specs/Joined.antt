-- Bytes that are slots written one behind the other, read as these slots.
-- Assumes nothing.
use Rattle.std.specs.Prelude.{◌≡◌, refl, List, [], ◌∷◌, ℕ, ◌/◌, length}
use Rattle.std.proofs.Common.{arith, take_at, drop_at}
use Rattle.laws.specs.Joined.{joined, Each, length_each}
use Rattle.slots.specs.Slots.{cut, slots_of}

pub cut_joined : (size : ℕ) (rs : List (List ℕ)) → Each size rs → cut size (length rs) (joined rs) ≡ rs
unfolding joined cut
cut_joined size [] h = refl
cut_joined size (r ∷ rs) h = rw (take_at r (joined rs) size h.0, drop_at r (joined rs) size h.0, cut_joined size rs h.1)

-- what is written as slots is read as these slots
pub slots_joined : (rs : List (List ℕ)) → Each 140 rs → slots_of (joined rs) ≡ rs
unfolding slots_of
slots_joined rs h =
    let l = length_each 140 rs h in
    let e : length (joined rs) / 140 ≡ length rs = omega arith in
    rw e (cut_joined 140 rs h)
