-- A register: which bytes are one.
-- Assumes nothing.
use Rattle.std.specs.Prelude.{◌≡◌, refl, Bool, true, false, ℕ, zero, suc, ◌+◌, ◌-◌, ◌*◌, ◌/◌, ◌%◌, ◌≤◌, ◌<◌, leb, length, get_or, take, drop, replicate}
use Rattle.std.proofs.Common.{sym, ◌∙◌, add-zero, eq-eqb, le-leb, leb-true, leb-false, take_all, take-take, get_or-take, get_or-drop, length-take-le}
use Rattle.std.proofs.Math.Path.{ap}
use mathlib.Core.List.{List, [], ◌∷◌, ◌++◌, map, append_assoc}
use native.Mathlib.Omega.{arith}
use Rattle.std.proofs.Math.Nat.{sub-zero}
use Rattle.std.proofs.lemmas.Bool.{lt-leb}
use Rattle.std.proofs.Math.ListN.{length-drop}
use Rattle.std.proofs.Math.Seq.{drop-drop}
use Rattle.laws.specs.Choice.{both, choose, both_assoc₃, both_false}
use Rattle.laws.specs.Joined.{joined, total}
use Rattle.laws.specs.Lists.{between, drop_take}
use Rattle.values.specs.Values.{same_text}
use Rattle.gaps.specs.Zero.{all_zero}
use Rattle.contents.specs.Contents.{Record, good_account, good_accounts, good_window, good_quotas, good}
use Rattle.contents.specs.Written.{two_bytes, head_of, room_bytes, rooms_bytes, written, records_in, accounts_in, numbers_in, held, is_register}
use Rattle.rooms.specs.Order.{same_itself}
use Rattle.rooms.specs.Registers.{length_register}
use Rattle.slots.specs.Words.{Bytes}
use Rattle.slot_check.specs.Same.{same_append, same_zeros}
use Rattle.checking.specs.Room.{is_room, room_length}

-- whether bytes are rooms of so many slots each, one behind the other, and zeros
unfoldable pub rooms_fit : List ℕ → List ℕ → Bool
rooms_fit [] b = all_zero b
rooms_fit (q ∷ qs) b = both (leb (q * 140) (length b)) (both (is_room q (take (q * 140) b)) (rooms_fit qs (drop (q * 140) b)))

-- ---- rooms

records_take : (n : ℕ) (b : List ℕ) → records_in n (take (n * 140) b) ≡ records_in n b
unfolding records_in
records_take zero b = refl
records_take (suc n) b =
    let e : suc n * 140 - 140 ≡ n * 140 = omega arith in
    rw (get_or-take (suc n * 140) b 0 0 (omega arith), take-take 140 (suc n * 140) b (omega arith), drop_take 140 (suc n * 140) b, e, records_take n (drop 140 b))

regrouped : (a g s t : Bool) → both a (both g (both s t)) ≡ both s (both a (both g t))
regrouped true true s t = refl
regrouped true false s t = sym (both_false s)
regrouped false g s t = sym (both_false s)

-- an account's room, then the others'
first_room : (q : ℕ) (qs : List ℕ) (n : ℕ) (b : List ℕ) (rs : List Record) (l : List (List Record)) → good_account q rs ≡ true → q ≤ n
    → same_text ((room_bytes q rs ++ rooms_bytes qs l) ++ replicate ((n - (q + total qs)) * 140) 0) b
    ≡ both (same_text (room_bytes q rs) (take (q * 140) b)) (same_text (rooms_bytes qs l ++ replicate ((n - q - total qs) * 140) 0) (drop (q * 140) b))
first_room q qs n b rs l g h =
    let e : n - (q + total qs) ≡ n - q - total qs = omega arith in
    let z : List ℕ = replicate ((n - q - total qs) * 140) 0 in
    rw (e, append_assoc (room_bytes q rs) (rooms_bytes qs l) z)
    (same_append (room_bytes q rs) (rooms_bytes qs l ++ z) b
    ∙ ap (λ (k : ℕ). both (same_text (room_bytes q rs) (take k b)) (same_text (rooms_bytes qs l ++ z) (drop k b))) (room_length q rs g))

-- good accounts in n slots, written
abbrev good_rooms : List ℕ → ℕ → List (List Record) → List ℕ → Bool
good_rooms qs n l b = both (leb (total qs) n) (both (good_accounts qs l) (same_text (rooms_bytes qs l ++ replicate ((n - total qs) * 140) 0) b))

room_here : (q : ℕ) (b : List ℕ) → is_room q (take (q * 140) b) ≡ both (good_account q (records_in q b)) (same_text (room_bytes q (records_in q b)) (take (q * 140) b))
unfolding is_room
room_here q b = rw (records_take q b)

fewer : (q t n : ℕ) → q ≤ n → leb (q + t) n ≡ leb t (n - q)
fewer q t n h =
    choose (leb t (n - q))
    (λ p. let k = leb-true t (n - q) p in rw p (le-leb (q + t) n (omega arith)))
    (λ p. let k = leb-false t (n - q) p in rw p (lt-leb (q + t) n (omega arith)))

rooms_fit_lem : (qs : List ℕ) (n : ℕ) (b : List ℕ) → length b ≡ n * 140 → good_rooms qs n (accounts_in qs b) b ≡ rooms_fit qs b
unfolding rooms_fit accounts_in good_accounts rooms_bytes total
rooms_fit_lem [] n b h = rw (le-leb 0 n (omega arith), sub-zero) (same_zeros (n * 140) b h)
rooms_fit_lem (q ∷ qs) n b h =
    let rs : List Record = records_in q b in
    let l : List (List Record) = accounts_in qs (drop (q * 140) b) in
    let d = length-drop (q * 140) b in
    choose (leb q n)
    (λ p.
    let k = leb-true q n p in
    choose (good_account q rs)
    (λ g.
    let ih = rooms_fit_lem qs (n - q) (drop (q * 140) b) (omega arith) in
    rw (le-leb (q * 140) (length b) (omega arith), first_room q qs n b rs l g k, room_here q b, g, fewer q (total qs) n k)
    (regrouped (leb (total qs) (n - q)) (good_accounts qs l) (same_text (room_bytes q rs) (take (q * 140) b)) (same_text (rooms_bytes qs l ++ replicate ((n - q - total qs) * 140) 0) (drop (q * 140) b))
    ∙ ap (both (same_text (room_bytes q rs) (take (q * 140) b))) ih))
    (λ g. rw (le-leb (q * 140) (length b) (omega arith), room_here q b, g) (both_false (leb (q + total qs) n))))
    (λ p.
    let k = leb-false q n p in
    rw (lt-leb (q + total qs) n (omega arith), lt-leb (q * 140) (length b) (omega arith)))

-- ---- the head

low_byte : (x y : ℕ) → x < 256 → (x + 256 * y) % 256 ≡ x
low_byte x y h = omega arith

high_byte : (x y : ℕ) → x < 256 → (x + 256 * y) / 256 ≡ y
high_byte x y h = omega arith

numbers_length : (n : ℕ) (b : List ℕ) → length (numbers_in n b) ≡ n
unfolding numbers_in
numbers_length zero b = refl
numbers_length (suc n) b = ap suc (numbers_length n (drop 2 b))

numbers_again : (n : ℕ) (b : List ℕ) → Bytes b → n * 2 ≤ length b → joined (map two_bytes (numbers_in n b)) ≡ take (n * 2) b
unfolding joined numbers_in
numbers_again zero b f h = refl
numbers_again (suc n) [] f h = absurd (omega arith)
numbers_again (suc n) (x ∷ []) f h = absurd (omega arith)
numbers_again (suc n) (x ∷ y ∷ b) f h =
    let e : suc n * 2 ≡ suc (suc (n * 2)) = omega arith in
    rw (e, low_byte x y (f 0), high_byte x y (f 0), numbers_again n b (λ i. f (suc (suc i))) (omega arith))

head_again : (b : List ℕ) → Bytes b → 18 ≤ length b → head_of (held b) ≡ take 18 b
unfolding head_of held
head_again [] f h = absurd (omega arith)
head_again (x ∷ []) f h = absurd (omega arith)
head_again (x ∷ y ∷ b) f h = rw (low_byte x y (f 0), high_byte x y (f 0), numbers_again 8 b (λ i. f (suc (suc i))) (omega arith))

head_here : (b rest : List ℕ) → Bytes b → 18 ≤ length b → same_text (head_of (held b) ++ rest) b ≡ same_text rest (drop 18 b)
head_here b rest f h = rw (head_again b f h) (same_append (take 18 b) rest b ∙ rw (length-take-le 18 b h, same_itself (take 18 b)))

-- ---- the whole

pub other_buffer : (b : List ℕ) → (length b ≡ 35858 → ⊥) → is_register b ≡ false
other_buffer b h = choose (is_register b) (λ q. absurd (h (length_register b q))) (λ q. q)

-- what `is_register` tests
pub register_is : (b : List ℕ) → Bytes b → length b ≡ 35858 → is_register b ≡ both (good_window (get_or b 0 0 + 256 * get_or b 1 0)) (rooms_fit (numbers_in 8 (drop 2 b)) (drop 18 b))
unfolding is_register good good_quotas written held
register_is b f h =
    let qs : List ℕ = numbers_in 8 (drop 2 b) in
    let l : List (List Record) = accounts_in qs (drop 18 b) in
    let rest : List ℕ = rooms_bytes qs l ++ replicate ((256 - total qs) * 140) 0 in
    let d = length-drop 18 b in
    rw (head_here b rest f (omega arith), eq-eqb (length qs) 8 (numbers_length 8 (drop 2 b)))
    (both_assoc₃ (good_window (get_or b 0 0 + 256 * get_or b 1 0)) (leb (total qs) 256) (good_accounts qs l) (same_text rest (drop 18 b))
    ∙ ap (both (good_window (get_or b 0 0 + 256 * get_or b 1 0))) (rooms_fit_lem qs 256 (drop 18 b) (omega arith)))

-- ---- for the code

-- the rooms of the accounts from k on begin at an index
pub record RoomsLeft (b : List ℕ) (at k : ℕ) : Type 0 where
  pub inside : at ≤ length b
  pub accounts : k ≤ 8
  pub same : rooms_fit (numbers_in (8 - k) (drop (2 + k * 2) b)) (drop at b) ≡ rooms_fit (numbers_in 8 (drop 2 b)) (drop 18 b)

pub rooms_start : (b : List ℕ) → 18 ≤ length b → RoomsLeft b 18 0
rooms_start b h = record { inside = h; accounts = omega arith; same = refl }

numbers_here : (b : List ℕ) (k : ℕ) → k < 8 → (n : ℕ) → n ≡ get_or b (2 + k * 2) 0 + 256 * get_or b (2 + k * 2 + 1) 0
    → numbers_in (8 - k) (drop (2 + k * 2) b) ≡ n ∷ numbers_in (8 - (k + 1)) (drop (2 + (k + 1) * 2) b)
unfolding numbers_in
numbers_here b k h n q =
    let e : 8 - k ≡ suc (8 - (k + 1)) = omega arith in
    let f : 2 + k * 2 + 2 ≡ 2 + (k + 1) * 2 = omega arith in
    rw (e, get_or-drop (2 + k * 2) b 0 0, get_or-drop (2 + k * 2) b 1 0, add-zero, ← q, drop-drop 2 (2 + k * 2) b, f)

module _ (b : List ℕ) (at k : ℕ) (l : RoomsLeft b at k) where
  abbrev fit : Bool
  fit = rooms_fit (numbers_in 8 (drop 2 b)) (drop 18 b)

  pub rooms_end : 8 ≤ k → (n : ℕ) → length b ≤ n → (z : Bool) → z ≡ all_zero (between b at n) → z ≡ fit
  unfolding rooms_fit numbers_in
  rooms_end h n m z q =
      let a = l.accounts in
      let e : 8 - k ≡ 0 = omega arith in
      let d = length-drop at b in
      q ∙ ap all_zero (take_all (n - at) (drop at b) (omega arith)) ∙ (rw e at l.same)

  module _ (h : k < 8) (n : ℕ) (e : n ≡ get_or b (2 + k * 2) 0 + 256 * get_or b (2 + k * 2 + 1) 0) where
    next_room : both (leb (n * 140) (length b - at)) (both (is_room n (take (n * 140) (drop at b))) (rooms_fit (numbers_in (8 - (k + 1)) (drop (2 + (k + 1) * 2) b)) (drop (at + n * 140) b))) ≡ fit
    unfolding rooms_fit
    next_room =
        rw (← length-drop at b, ← drop-drop (n * 140) at b)
        (ap (λ (qs : List ℕ). rooms_fit qs (drop at b)) (sym (numbers_here b k h n e)) ∙ l.same)

    pub rooms_too_long : length b - at < n * 140 → false ≡ fit
    rooms_too_long g = rw (lt-leb (n * 140) (length b - at) g) at next_room

    module _ (g : n * 140 ≤ length b - at) where
      pub room_inside : at + n * 140 ≤ length b
      room_inside = let i = l.inside in omega arith

      module _ (v : Bool) (q : v ≡ is_room (length (between b at (at + n * 140)) / 140) (between b at (at + n * 140))) where
        told_room : is_room n (take (n * 140) (drop at b)) ≡ v
        told_room =
            let d = length-drop at b in
            let f : at + n * 140 - at ≡ n * 140 = omega arith in
            let m : n * 140 / 140 ≡ n = omega arith in
            sym (q ∙ rw (f, length-take-le (n * 140) (drop at b) (omega arith), m))

        pub rooms_no_room : v ≡ false → false ≡ fit
        rooms_no_room t = rw (le-leb (n * 140) (length b - at) g, told_room, t) at next_room

        pub rooms_on : v ≡ true → RoomsLeft b (at + n * 140) (k + 1)
        rooms_on t =
            record {
              inside = room_inside;
              accounts = omega arith;
              same = rw (le-leb (n * 140) (length b - at) g, told_room, t) at next_room;
            }

module _ (b : List ℕ) (f : Bytes b) (h : length b ≡ 35858) (n : ℕ) (e : n ≡ get_or b 0 0 + 256 * get_or b 1 0) where
  window_is : is_register b ≡ both (leb (n + 512) 40177) (rooms_fit (numbers_in 8 (drop 2 b)) (drop 18 b))
  window_is = register_is b f h ∙ ap (λ (k : ℕ). both (leb (k + 512) 40177) (rooms_fit (numbers_in 8 (drop 2 b)) (drop 18 b))) (sym e)

  pub window_outside : 40177 < n + 512 → false ≡ is_register b
  window_outside k = sym (window_is ∙ rw (lt-leb (n + 512) 40177 k))

  pub window_inside : n + 512 ≤ 40177 → rooms_fit (numbers_in 8 (drop 2 b)) (drop 18 b) ≡ is_register b
  window_inside k = sym (window_is ∙ rw (le-leb (n + 512) 40177 k))
