-- The laws of opening for the code.
-- Assumes nothing.
use Rattle.std.specs.Prelude.{◌≡◌, refl, true, false, get_or, sum}
use Rattle.std.proofs.Math.Path.{sym, ap}
use Rattle.std.proofs.Common.{◌∙◌, add-one, take_all}
use mathlib.Core.List.{List, [], ◌∷◌, ◌++◌, map, map-append}
use Prim.Native.Nat.{ℕ, zero, suc, ◌+◌, ◌-◌, ◌*◌, ◌≤◌, ◌<◌}
use native.Mathlib.Omega.{arith}
use borrow.Author.Tests.{eq-eqb, ne_eqb, le-leb, lt-leb}
use Rattle.std.proofs.Math.ListN.{length, take, replicate}
use Rattle.std.proofs.lemmas.List.{replicate-append-replicate}
use Rattle.std.proofs.Math.Seq.{take-suc, length-take-le}
use Rattle.std.proofs.lemmas.List.Sums.{sum_by-cons}
use Rattle.laws.specs.Joined.{joined, total, joined_append}
use Rattle.answers.specs.Answers.{done, not_register, bad_opening}
use Rattle.dates.specs.Dates.{valid, number}
use Rattle.dates.specs.declared.Date.{Date}
use Rattle.laws.specs.Put.{put_at, put_none, put_put, put_take, length_put}
use Rattle.gaps.specs.Zero.{zero_from}
use Rattle.contents.specs.Contents.{good_quotas}
use Rattle.contents.specs.Written.{two_bytes, head_of, room_bytes, rooms_bytes, written}
use Rattle.contents.specs.Calls.{opened, may_open, open_answer, open_bytes}
use Rattle.rooms.specs.Registers.{length_numbers}

-- ---- for `total_of`

pub sum_is : (qs : List ℕ) → sum qs ≡ total qs
unfolding total
sum_is [] = refl
sum_is (q ∷ qs) = sum_by-cons (λ x. x) q qs ∙ ap (λ n. q + n) (sum_is qs)

-- ---- for `put_quotas`

-- no quota is more than all
pub quota_le : (qs : List ℕ) (k : ℕ) → get_or qs k 0 ≤ total qs
unfolding total
quota_le [] zero = omega arith
quota_le [] (suc k) = omega arith
quota_le (q ∷ qs) zero = omega arith
quota_le (q ∷ qs) (suc k) = let h = quota_le qs k in omega arith

-- the first k quotas, written
unfoldable pub quotas_to : List ℕ → ℕ → List ℕ
quotas_to qs k = joined (map two_bytes (take k qs))

module _ (qs s : List ℕ) where
  length_to : (k : ℕ) → k ≤ length qs → length (quotas_to qs k) ≡ k * 2
  unfolding quotas_to
  length_to k h =
      let l = length_numbers (take k qs) in
      let t = length-take-le k qs h in
      omega arith

  pub quotas_start : 2 ≤ length s → s ≡ put_at s 2 (quotas_to qs 0)
  unfolding quotas_to joined
  quotas_start h = sym (put_none s 2)

  quotas_more : (k : ℕ) → k < length qs → quotas_to qs k ++ two_bytes (get_or qs k 0) ≡ quotas_to qs (k + 1)
  unfolding quotas_to joined
  quotas_more k h =
      sym
      (rw (add-one, take-suc qs k 0 h, map-append two_bytes (take k qs) (get_or qs k 0 ∷ []), joined_append (map two_bytes (take k qs)) (two_bytes (get_or qs k 0) ∷ [])))

  pub quotas_turn : (b : List ℕ) (k n : ℕ) → k < length qs → 2 + k * 2 + 2 ≤ length s → n ≡ get_or qs k 0 → b ≡ put_at s 2 (quotas_to qs k)
      → put_at b (2 + k * 2) (two_bytes n) ≡ put_at s 2 (quotas_to qs (k + 1))
  quotas_turn b k n h l e v =
      let m = length_to k (omega arith) in
      rw (v, e)
      (put_put s 2 (quotas_to qs k) (2 + k * 2) (two_bytes (get_or qs k 0)) (omega arith) (omega arith)
      ∙ ap (put_at s 2) (quotas_more k h))

  pub quotas_end : (b : List ℕ) (k : ℕ) → length qs ≤ k → b ≡ put_at s 2 (quotas_to qs k) → b ≡ put_at s 2 (joined (map two_bytes qs))
  unfolding quotas_to
  quotas_end b k h v = v ∙ ap (λ (l : List ℕ). put_at s 2 (joined (map two_bytes l))) (take_all k qs h)

-- ---- an opened register

-- rooms with no records are zeros
empty_rooms : (qs : List ℕ) → rooms_bytes qs (replicate (length qs) []) ≡ replicate (total qs * 140) 0
unfolding rooms_bytes room_bytes total joined
empty_rooms [] = refl
empty_rooms (q ∷ qs) =
    let s : q - 0 ≡ q = omega arith in
    let e : (q + total qs) * 140 ≡ q * 140 + total qs * 140 = omega arith in
    rw (s, empty_rooms qs, e) (replicate-append-replicate (q * 140) (total qs * 140) 0)

module _ (first : Date) (qs : List ℕ) (e : length qs ≡ 8) (h : total qs ≤ 256) where
  rooms_zero : rooms_bytes qs (replicate 8 []) ≡ replicate (total qs * 140) 0
  rooms_zero = ap (λ (n : ℕ). rooms_bytes qs (replicate n [])) (sym e) ∙ empty_rooms qs

  -- an opened register is its head, and zeros
  written_open : (n : ℕ) → n ≡ 35840 → written (opened first qs) ≡ (two_bytes (number first) ++ joined (map two_bytes qs)) ++ replicate n 0
  unfolding written opened head_of
  written_open n m =
      let z : total qs * 140 + (256 - total qs) * 140 ≡ n = omega arith in
      ap (λ (l : List ℕ). (two_bytes (number first) ++ joined (map two_bytes qs)) ++ (l ++ replicate ((256 - total qs) * 140) 0)) rooms_zero
      ∙ ap (λ (l : List ℕ). (two_bytes (number first) ++ joined (map two_bytes qs)) ++ l) (replicate-append-replicate (total qs * 140) ((256 - total qs) * 140) 0)
      ∙ ap (λ (i : ℕ). (two_bytes (number first) ++ joined (map two_bytes qs)) ++ replicate i 0) z

  cleared : (s b : List ℕ) (n : ℕ) → length s ≡ 35858 → n ≡ number first → b ≡ put_at (put_at s 0 (two_bytes n)) 2 (joined (map two_bytes qs)) → zero_from b 18 ≡ written (opened first qs)
  unfolding zero_from
  cleared s b n l d v =
      let t : List ℕ = two_bytes n ++ joined (map two_bytes qs) in
      let w = length_numbers qs in
      let lt : length t ≡ 18 = omega arith in
      let v₂ : b ≡ put_at s 0 t = v ∙ put_put s 0 (two_bytes n) 2 (joined (map two_bytes qs)) (omega arith) (omega arith) in
      let lb : length b ≡ length s = ap length v₂ ∙ length_put s 0 t in
      let k : take 18 b ≡ t = ap (take 18) v₂ ∙ ap (λ (i : ℕ). take i (put_at s 0 t)) (sym lt) ∙ put_take s 0 t (omega arith) in
      let m : length b - 18 ≡ 35840 = omega arith in
      ap (λ (x : List ℕ). x ++ replicate (length b - 18) 0) (k ∙ ap (λ (i : ℕ). two_bytes i ++ joined (map two_bytes qs)) d) ∙ sym (written_open (length b - 18) m)

-- ---- for `open`

module _ (b : List ℕ) (first : Date) (qs : List ℕ) where
  pub open_length : (length b ≡ 35858 → ⊥) → (not_register ≡ open_answer b first qs) × (b ≡ open_bytes b first qs)
  unfolding open_answer open_bytes
  open_length h = (sym (rw (ne_eqb (length b) 35858 h)), sym (rw (ne_eqb (length b) 35858 h)))

  module _ (l : length b ≡ 35858) where
    not_open : may_open first qs ≡ false → (bad_opening ≡ open_answer b first qs) × (b ≡ open_bytes b first qs)
    unfolding open_answer open_bytes
    not_open q = (sym (rw (eq-eqb (length b) 35858 l, q)), sym (rw (eq-eqb (length b) 35858 l, q)))

    pub open_date : valid first ≡ false → (bad_opening ≡ open_answer b first qs) × (b ≡ open_bytes b first qs)
    unfolding may_open
    open_date q = not_open (rw q)

    module _ (v : valid first ≡ true) (n : ℕ) (d : n ≡ number first) where
      pub open_window : 39665 < n → (bad_opening ≡ open_answer b first qs) × (b ≡ open_bytes b first qs)
      unfolding may_open
      open_window h = not_open (rw (v, lt-leb (number first + 512) 40177 (omega arith)))

      module _ (w : n ≤ 39665) (e : length qs ≡ 8) (t : ℕ) (q : t ≡ total qs) where
        pub open_quotas : 256 < t → (bad_opening ≡ open_answer b first qs) × (b ≡ open_bytes b first qs)
        unfolding may_open good_quotas
        open_quotas h = not_open (rw (v, le-leb (number first + 512) 40177 (omega arith), eq-eqb (length qs) 8 e, lt-leb (total qs) 256 (omega arith)))

        may_open_lem : t ≤ 256 → may_open first qs ≡ true
        unfolding may_open good_quotas
        may_open_lem h = rw (v, le-leb (number first + 512) 40177 (omega arith), eq-eqb (length qs) 8 e, le-leb (total qs) 256 (omega arith))

        pub open_answer_lem : t ≤ 256 → done 0 ≡ open_answer b first qs
        unfolding open_answer
        open_answer_lem h = sym (rw (eq-eqb (length b) 35858 l, may_open_lem h))

        is_opened : t ≤ 256 → written (opened first qs) ≡ open_bytes b first qs
        unfolding open_bytes
        is_opened h = sym (rw (eq-eqb (length b) 35858 l, may_open_lem h))

        pub open_bytes_lem : t ≤ 256 → (x : List ℕ) → x ≡ put_at (put_at b 0 (two_bytes n)) 2 (joined (map two_bytes qs)) → zero_from x 18 ≡ open_bytes b first qs
        open_bytes_lem h x y = cleared first qs e (omega arith) b x n l d y ∙ is_opened h
