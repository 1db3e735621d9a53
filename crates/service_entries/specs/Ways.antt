-- The ways through the code, a law for each; what a call answered has a name of its own.
-- Assumes nothing.
use Rattle.std.specs.Prelude.{ℕ, ◌+◌, ◌*◌, ◌/◌, ◌≤◌, ◌<◌, ◌≡◌, refl, Bool, true, false, not, List, [], ◌∷◌, map, eqb, length, get_or, set, replicate, Result, Ok, Err, Option, Some, None}
use Rattle.std.proofs.Math.Path.{sym, ap}
use Rattle.std.proofs.Common.{subst, ◌∙◌, append-nil, arith, eq-eqb, ne_eqb, take_all}
use Rattle.syntax.specs.Bytes.{plain}
use Rattle.syntax.specs.Segment.{body_at}
use Rattle.laws.specs.Put.{put_at, put_room}
use Rattle.joining.specs.Joined.{days_joined, join_all}
use Rattle.slots.specs.Find.{find_of, Within, find_within}
use Rattle.gaps.specs.Move.{closed_in, inserted_in}
use Rattle.services.specs.declared.Service.{Service}
use Rattle.services.specs.Services.{periods_of}
use Rattle.service_entries.specs.declared.Known.{Known}
use Rattle.stages.specs.Stage.{number_in, days_of}
use Rattle.service_entries.specs.Room.{number_bytes, known_at, known_by, held_at, look_at, removal_entry, new_slot, put_by, put_in, slot_removed, remove_by, remove_in, remove_bytes, put_bytes, removes_in, puts_in}

-- ---- the days of a service

module _ (wish : Bool) (first : ℕ) (s l days : List ℕ) where
  pub join_none : l ≡ [] → join_all wish days first (map (body_at s) l) ≡ days
  unfolding join_all
  join_none e = rw e

  pub join_on : (at : ℕ) (rest : List ℕ) → l ≡ at ∷ rest → (last : List ℕ) → last ≡ days_joined wish days first (body_at s at)
      → join_all wish last first (map (body_at s) rest) ≡ join_all wish days first (map (body_at s) l)
  unfolding join_all
  join_on at rest e last b = rw (e, b)

pub days_are : (wish : Bool) (first : ℕ) (s l last : List ℕ) → last ≡ join_all wish (replicate 64 0) first (map (body_at s) l) → last ≡ days_of wish first s l
unfolding days_of
days_are wish first s l last q = q

-- ---- numbers and slots

pub number_copied : (x y last : List ℕ) → y ≡ x → last ≡ put_at (replicate 10 0) 0 (plain y) → last ≡ number_bytes (plain x)
unfolding number_bytes
number_copied x y last e q = q ∙ ap (λ (z : List ℕ). put_at (replicate 10 0) 0 (plain z)) e

pub look_held : (room x y : List ℕ) → x ≡ number_bytes y → held_at room x ≡ look_at room y
unfolding look_at
look_held room x y e = ap (held_at room) e

pub known_is : (room : List ℕ) (at : ℕ) → record { live = not (eqb (get_or room (at + 10) 0) 0); removal_pending = eqb (get_or room (at + 75) 0) 2 } ≡ known_at room at
unfolding known_at
known_is room at = refl

module _ (room x : List ℕ) (f : Result ℕ ℕ) (q : f ≡ find_of room x) where
  pub found_fits : (k : ℕ) → f ≡ Ok k → k * 140 + 140 ≤ length room
  found_fits k e =
      let w : k < length room / 140 = subst (Within (length room / 140)) (sym q ∙ e) (find_within room x) in
      omega arith

  pub gap_fits : (k : ℕ) → f ≡ Err k → k * 140 ≤ length room
  gap_fits k e =
      let w : k ≤ length room / 140 = subst (Within (length room / 140)) (sym q ∙ e) (find_within room x) in
      omega arith

  pub held_found : (k : ℕ) (r : Known) → f ≡ Ok k → r ≡ known_at room (k * 140) → Some r ≡ held_at room x
  held_found k r e a = ap Some a ∙ sym (ap (known_by room) (sym q ∙ e))

  pub held_gap : (k : ℕ) → f ≡ Err k → None ≡ held_at room x
  held_gap k e = sym (ap (known_by room) (sym q ∙ e))

  pub put_found : (k : ℕ) (entry last : List ℕ) → f ≡ Ok k → last ≡ put_at room (k * 140 + 75) entry → last ≡ put_in room x entry
  unfolding put_in
  put_found k entry last e a = a ∙ sym (ap (put_by room x entry) (sym q ∙ e))

  pub put_gap : (k : ℕ) (entry slot last : List ℕ) → f ≡ Err k → slot ≡ new_slot x entry → last ≡ inserted_in room (k * 140) slot → last ≡ put_in room x entry
  unfolding put_in
  put_gap k entry slot last e b a = a ∙ ap (inserted_in room (k * 140)) b ∙ sym (ap (put_by room x entry) (sym q ∙ e))

  pub remove_found : (k : ℕ) (last : List ℕ) → f ≡ Ok k → last ≡ slot_removed room (k * 140) → last ≡ remove_in room x
  unfolding remove_in
  remove_found k last e a = a ∙ sym (ap (remove_by room) (sym q ∙ e))

  pub remove_gap : (k : ℕ) → f ≡ Err k → room ≡ remove_in room x
  unfolding remove_in
  remove_gap k e = sym (ap (remove_by room) (sym q ∙ e))

module _ (room : List ℕ) (at : ℕ) (last : List ℕ) where
  pub remove_dead : get_or room (at + 10) 0 ≡ 0 → last ≡ closed_in room at 140 → last ≡ slot_removed room at
  unfolding slot_removed
  remove_dead q a = a ∙ sym (rw (eq-eqb (get_or room (at + 10) 0) 0 q))

  pub remove_live : (get_or room (at + 10) 0 ≡ 0 → ⊥) → (entry : List ℕ) → entry ≡ removal_entry → last ≡ put_at room (at + 75) entry → last ≡ slot_removed room at
  unfolding slot_removed
  remove_live q entry b a = a ∙ ap (put_at room (at + 75)) b ∙ sym (rw (ne_eqb (get_or room (at + 10) 0) 0 q))

pub entry_is : (flag : ℕ) (days last : List ℕ) → length days ≡ 64 → last ≡ put_at (set (replicate 65 0) 0 flag) 1 days → last ≡ flag ∷ days
entry_is flag days last h q =
    let e : 1 + length days ≡ 65 = omega arith in
    let k : 1 + length days ≤ length (set (replicate 65 0) 0 flag) = omega arith in
    q ∙ put_room (set (replicate 65 0) 0 flag) 1 days k
    ∙ rw (take_all (length days) days (omega arith), e) (ap (λ (l : List ℕ). flag ∷ l) (append-nil days))

pub slot_is : (x entry last next : List ℕ) → last ≡ put_at (replicate 140 0) 0 x → next ≡ put_at last 75 entry → next ≡ new_slot x entry
unfolding new_slot
slot_is x entry last next a b = b ∙ ap (λ (z : List ℕ). put_at z 75 entry) a

-- ---- one service after the other

module _ (s : List ℕ) (v : Service) (room : List ℕ) where
  pub removes_not : v.removal ≡ false → room ≡ remove_bytes s v room
  removes_not q = rw q

  pub removes_one : v.removal ≡ true → (x last : List ℕ) → x ≡ number_bytes (number_in s v) → last ≡ remove_in room x → last ≡ remove_bytes s v room
  removes_one q x last a b = rw q (b ∙ ap (remove_in room) a)

module _ (first : ℕ) (s rows : List ℕ) (v : Service) (room : List ℕ) where
  pub puts_not : v.removal ≡ true → room ≡ put_bytes first s rows v room
  puts_not q = rw q

  pub puts_one : v.removal ≡ false → (x days entry last : List ℕ) → x ≡ number_bytes (number_in s v) → days ≡ days_of true first s (periods_of rows v) → entry ≡ 1 ∷ days
      → last ≡ put_in room x entry → last ≡ put_bytes first s rows v room
  puts_one q x days entry last a b d e = rw (q, ← a, ← b) (e ∙ ap (put_in room x) d)

module _ (s : List ℕ) (l : List Service) (room : List ℕ) where
  pub removes_none : l ≡ [] → removes_in s l room ≡ room
  unfolding removes_in
  removes_none e = rw e

  pub removes_on : (v : Service) (rest : List Service) → l ≡ v ∷ rest → (last : List ℕ) → last ≡ remove_bytes s v room → removes_in s rest last ≡ removes_in s l room
  unfolding removes_in
  removes_on v rest e last a = rw (e, a)

module _ (first : ℕ) (s rows : List ℕ) (l : List Service) (room : List ℕ) where
  pub puts_none : l ≡ [] → puts_in first s rows l room ≡ room
  unfolding puts_in
  puts_none e = rw e

  pub puts_on : (v : Service) (rest : List Service) → l ≡ v ∷ rest → (last : List ℕ) → last ≡ put_bytes first s rows v room → puts_in first s rows rest last ≡ puts_in first s rows l room
  unfolding puts_in
  puts_on v rest e last a = rw (e, a)
