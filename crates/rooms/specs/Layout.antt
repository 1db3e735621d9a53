-- Written contents cut at one account's room: what is before it, the room, what is behind it. Accounts are counted from 0 here.
-- Assumes nothing.
use Rattle.std.specs.Prelude.{◌≡◌, refl, true, length, get_or, set, take, drop}
use Rattle.std.proofs.Common.{sym, ap, le_of_suc-le-suc, not-suc-le-zero}
use mathlib.Core.List.{List, [], ◌∷◌, ◌++◌, append_assoc}
use Prim.Native.Nat.{ℕ, zero, suc, ◌+◌, ◌-◌, ◌*◌, ◌≤◌, ◌<◌}
use native.Mathlib.Omega.{arith}
use Rattle.std.proofs.Math.ListN.{replicate, length-append}
use Rattle.std.proofs.Math.Seq.{set-get_or}
use Rattle.laws.specs.Choice.{both_parts, false≢true}
use Rattle.laws.specs.Joined.{total}
use Rattle.contents.specs.Contents.{Record, Contents, good_account, good_accounts, good}
use Rattle.contents.specs.Written.{head_of, room_bytes, rooms_bytes, written}
use Rattle.contents.specs.Calls.{view_of, with_records}
use Rattle.rooms.specs.Registers.{good_window_lem, good_quotas_lem, good_eight, good_accounts_lem, length_head, length_rooms}

-- ---- accounts with their quotas

pub good_lengths : (qs : List ℕ) (l : List (List Record)) → good_accounts qs l ≡ true → length l ≡ length qs
unfolding good_accounts
good_lengths [] [] q = refl
good_lengths [] (rs ∷ l) q = absurd (false≢true q)
good_lengths (n ∷ qs) [] q = absurd (false≢true q)
good_lengths (n ∷ qs) (rs ∷ l) q = ap suc (good_lengths qs l (both_parts (good_account n rs) (good_accounts qs l) q).1)

pub good_at : (qs : List ℕ) (l : List (List Record)) (k : ℕ) → good_accounts qs l ≡ true → k < length qs → good_account (get_or qs k 0) (get_or l k []) ≡ true
unfolding good_accounts
good_at [] l k q h = absurd (not-suc-le-zero h)
good_at (n ∷ qs) [] k q h = absurd (false≢true q)
good_at (n ∷ qs) (rs ∷ l) zero q h = (both_parts (good_account n rs) (good_accounts qs l) q).0
good_at (n ∷ qs) (rs ∷ l) (suc k) q h = good_at qs l k (both_parts (good_account n rs) (good_accounts qs l) q).1 (le_of_suc-le-suc h)

pub good_set : (qs : List ℕ) (l : List (List Record)) (k : ℕ) (rs : List Record) → good_accounts qs l ≡ true → good_account (get_or qs k 0) rs ≡ true
    → good_accounts qs (set l k rs) ≡ true
unfolding good_accounts
good_set [] [] k rs q h = refl
good_set [] (ps ∷ l) k rs q h = absurd (false≢true q)
good_set (n ∷ qs) [] k rs q h = absurd (false≢true q)
good_set (n ∷ qs) (ps ∷ l) zero rs q h = rw h (both_parts (good_account n ps) (good_accounts qs l) q).1
good_set (n ∷ qs) (ps ∷ l) (suc k) rs q h =
    let w = both_parts (good_account n ps) (good_accounts qs l) q in
    rw w.0 (good_set qs l k rs w.1 h)

good_front : (qs : List ℕ) (l : List (List Record)) (k : ℕ) → good_accounts qs l ≡ true → good_accounts (take k qs) (take k l) ≡ true
unfolding good_accounts
good_front qs l zero q = refl
good_front [] [] (suc k) q = refl
good_front [] (rs ∷ l) (suc k) q = absurd (false≢true q)
good_front (n ∷ qs) [] (suc k) q = absurd (false≢true q)
good_front (n ∷ qs) (rs ∷ l) (suc k) q =
    let w = both_parts (good_account n rs) (good_accounts qs l) q in
    rw w.0 (good_front qs l k w.1)

-- good contents with other good records of one account are good
pub good_with : (c : Contents) (account : ℕ) (rs : List Record) → good c ≡ true → good_account (view_of c account).quota rs ≡ true → good (with_records c account rs) ≡ true
unfolding good with_records view_of
good_with c account rs q h = rw (good_window_lem c q, good_quotas_lem c q) (good_set c.quotas c.accounts (account - 1) rs (good_accounts_lem c q) h)

-- ---- the quotas before an account and with it

pub total_more : (qs : List ℕ) (k : ℕ) → k < length qs → total (take (suc k) qs) ≡ total (take k qs) + get_or qs k 0
unfolding total
total_more [] k h = absurd (not-suc-le-zero h)
total_more (n ∷ qs) zero h = omega arith
total_more (n ∷ qs) (suc k) h =
    let t = total_more qs k (le_of_suc-le-suc h) in
    omega arith

pub total_front : (qs : List ℕ) (k : ℕ) → total (take k qs) ≤ total qs
unfolding total
total_front qs zero = omega arith
total_front [] (suc k) = omega arith
total_front (n ∷ qs) (suc k) =
    let t = total_front qs k in
    omega arith

-- ---- the rooms with one account's records changed

rooms_set : (qs : List ℕ) (l : List (List Record)) (k : ℕ) (rs : List Record) → length l ≡ length qs → k < length qs
    → rooms_bytes qs (set l k rs) ≡ rooms_bytes (take k qs) (take k l) ++ (room_bytes (get_or qs k 0) rs ++ rooms_bytes (drop (suc k) qs) (drop (suc k) l))
unfolding rooms_bytes
rooms_set [] l k rs e h = absurd (not-suc-le-zero h)
rooms_set (n ∷ qs) [] k rs e h = absurd (omega arith)
rooms_set (n ∷ qs) (ps ∷ l) zero rs e h = refl
rooms_set (n ∷ qs) (ps ∷ l) (suc k) rs e h =
    rw (rooms_set qs l k rs (omega arith) (le_of_suc-le-suc h))
    (sym
    (append_assoc (room_bytes n ps) (rooms_bytes (take k qs) (take k l)) (room_bytes (get_or qs k 0) rs ++ rooms_bytes (drop (suc k) qs) (drop (suc k) l))))

regroup : (h f r b z : List ℕ) → h ++ ((f ++ (r ++ b)) ++ z) ≡ (h ++ f) ++ (r ++ (b ++ z))
regroup h f r b z = simp append_assoc

-- the head and the rooms before, and the rooms behind and the zeros
unfoldable pub front_of : Contents → ℕ → List ℕ
front_of c k = head_of c ++ rooms_bytes (take k c.quotas) (take k c.accounts)

unfoldable pub behind_of : Contents → ℕ → List ℕ
behind_of c k = rooms_bytes (drop (suc k) c.quotas) (drop (suc k) c.accounts) ++ replicate ((256 - total c.quotas) * 140) 0

module _ (c : Contents) (q : good c ≡ true) (k : ℕ) (h : k < 8) where
  pub length_front : length (front_of c k) ≡ 18 + total (take k c.quotas) * 140
  unfolding front_of
  length_front =
      let l = length_head c (good_eight c q) in
      let r = length_rooms (take k c.quotas) (take k c.accounts) (good_front c.quotas c.accounts k (good_accounts_lem c q)) in
      simp length-append (omega arith)

  -- the law: other records of one account change its room alone
  pub with_room : (rs : List Record) → written (with_records c (suc k) rs) ≡ front_of c k ++ (room_bytes (get_or c.quotas k 0) rs ++ behind_of c k)
  unfolding written with_records front_of behind_of head_of
  with_room rs =
      let e : suc k - 1 ≡ k = omega arith in
      let n = good_eight c q in
      let front : List ℕ = rooms_bytes (take k c.quotas) (take k c.accounts) in
      let room : List ℕ = room_bytes (get_or c.quotas k 0) rs in
      let back : List ℕ = rooms_bytes (drop (suc k) c.quotas) (drop (suc k) c.accounts) in
      let zeros : List ℕ = replicate ((256 - total c.quotas) * 140) 0 in
      rw (e, rooms_set c.quotas c.accounts k rs (good_lengths c.quotas c.accounts (good_accounts_lem c q)) (omega arith))
      (regroup (head_of c) front room back zeros)

  pub with_own : with_records c (suc k) (get_or c.accounts k []) ≡ c
  unfolding with_records
  with_own =
      let e : suc k - 1 ≡ k = omega arith in
      rw (e, set-get_or c.accounts k [])
