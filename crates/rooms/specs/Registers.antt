-- "Good contents that are written the same are the same, and the same contents are the same bytes. A buffer is a register exactly when it is
-- some good contents, written."
-- Assumes nothing.
use Rattle.std.specs.Prelude.{◌≡◌, refl, true, false, List, [], ◌∷◌, ◌++◌, map, ℕ, zero, suc, ◌+◌, ◌-◌, ◌*◌, ◌/◌, ◌%◌, ◌≤◌, leb, eqb, length, get_or, drop, replicate}
use Rattle.std.proofs.Common.{sym, ◌∙◌, ap, append_assoc, arith, eqb-true, leb-true, ne_eqb, length-append, take_at, drop_at}
use Rattle.std.proofs.lemmas.List.{length-replicate}
use Rattle.std.proofs.Math.ListN.{get_or-append}
use Rattle.laws.specs.Choice.{both, all, both_parts, false≢true}
use Rattle.laws.specs.Joined.{joined, total}
use Rattle.values.specs.Values.{same_text}
use Rattle.contents.specs.Contents.{Record, Contents, good_record, good_account, good_accounts, good_window, good_quotas, good}
use Rattle.contents.specs.Written.{two_bytes, head_of, slot_of, room_bytes, rooms_bytes, written, records_in, accounts_in, numbers_in, held, is_register}
use Rattle.rooms.specs.Order.{same_told, same_itself}
use Rattle.rooms.specs.Slots.{length_slot, slot_again, slot_used, length_room, account_fits, account_records}

-- ---- what good contents are

module _ (c : Contents) (q : good c ≡ true) where
  good_parts : (good_window c.first ≡ true) × (both (good_quotas c.quotas) (good_accounts c.quotas c.accounts) ≡ true)
  unfolding good
  good_parts = both_parts (good_window c.first) (both (good_quotas c.quotas) (good_accounts c.quotas c.accounts)) q

  pub good_window_lem : good_window c.first ≡ true
  good_window_lem = good_parts.0

  pub good_quotas_lem : good_quotas c.quotas ≡ true
  good_quotas_lem = (both_parts (good_quotas c.quotas) (good_accounts c.quotas c.accounts) good_parts.1).0

  quotas_parts : (eqb (length c.quotas) 8 ≡ true) × (leb (total c.quotas) 256 ≡ true)
  unfolding good_quotas
  quotas_parts = both_parts (eqb (length c.quotas) 8) (leb (total c.quotas) 256) good_quotas_lem

  pub good_eight : length c.quotas ≡ 8
  good_eight = eqb-true (length c.quotas) 8 quotas_parts.0

  pub good_total : total c.quotas ≤ 256
  good_total = leb-true (total c.quotas) 256 quotas_parts.1

  pub good_accounts_lem : good_accounts c.quotas c.accounts ≡ true
  good_accounts_lem = (both_parts (good_quotas c.quotas) (good_accounts c.quotas c.accounts) good_parts.1).1

-- ---- the head

pub length_numbers : (qs : List ℕ) → length (joined (map two_bytes qs)) ≡ length qs * 2
unfolding joined
length_numbers [] = refl
length_numbers (q ∷ qs) = let h = length_numbers qs in omega arith

numbers_again : (qs t : List ℕ) → numbers_in (length qs) (joined (map two_bytes qs) ++ t) ≡ qs
unfolding joined numbers_in
numbers_again [] t = refl
numbers_again (q ∷ qs) t =
    let e : q % 256 + 256 * (q / 256) ≡ q = omega arith in
    rw (e, numbers_again qs t)

pub length_head : (c : Contents) → length c.quotas ≡ 8 → length (head_of c) ≡ 18
unfolding head_of
length_head c h = let n = length_numbers c.quotas in omega arith

-- ---- a room read again

pub room_cons : (quota : ℕ) (r : Record) (rs : List Record) → room_bytes (suc quota) (r ∷ rs) ≡ slot_of r ++ room_bytes quota rs
unfolding room_bytes joined
room_cons quota r rs =
    let e : suc quota - suc (length rs) ≡ quota - length rs = omega arith in
    rw e (append_assoc (slot_of r) (joined (map slot_of rs)) (replicate ((quota - length rs) * 140) 0))

-- a room with no record begins with a 0, one with a record does not
first_zero : (quota : ℕ) (t : List ℕ) → get_or (room_bytes (suc quota) [] ++ t) 0 0 ≡ 0
unfolding room_bytes joined
first_zero quota t =
    let e : (suc quota - 0) * 140 ≡ suc (quota * 140 + 139) = omega arith in
    rw e

slot_first : (r : Record) (t : List ℕ) → good_record r ≡ true → eqb (get_or (slot_of r ++ t) 0 0) 0 ≡ false
slot_first r t q =
    let l = length_slot r q in
    rw (get_or-append (slot_of r) t 0 0 (omega arith)) (ne_eqb (get_or (slot_of r) 0 0) 0 (slot_used r q))

records_again : (quota : ℕ) (rs : List Record) (t : List ℕ) → all good_record rs ≡ true → length rs ≤ quota → records_in quota (room_bytes quota rs ++ t) ≡ rs
unfolding records_in
records_again zero [] t q h = refl
records_again zero (r ∷ rs) t q h = absurd (omega arith)
records_again (suc quota) [] t q h = rw (first_zero quota t)
records_again (suc quota) (r ∷ rs) t q h =
    let w = both_parts (good_record r) (all good_record rs) q in
    let l = length_slot r w.0 in
    let a : room_bytes (suc quota) (r ∷ rs) ++ t ≡ slot_of r ++ (room_bytes quota rs ++ t) = rw (room_cons quota r rs) (append_assoc (slot_of r) (room_bytes quota rs) t) in
    rw (a, take_at (slot_of r) (room_bytes quota rs ++ t) 140 l, drop_at (slot_of r) (room_bytes quota rs ++ t) 140 l)
    (rw (slot_first r (room_bytes quota rs ++ t) w.0, slot_again r w.0, records_again quota rs t w.1 (omega arith)))

-- ---- the rooms

pub length_rooms : (qs : List ℕ) (l : List (List Record)) → good_accounts qs l ≡ true → length (rooms_bytes qs l) ≡ total qs * 140
unfolding rooms_bytes total good_accounts
length_rooms [] l q = refl
length_rooms (n ∷ qs) [] q = absurd (false≢true q)
length_rooms (n ∷ qs) (rs ∷ l) q =
    let w = both_parts (good_account n rs) (good_accounts qs l) q in
    let h = length_rooms qs l w.1 in
    let k = length_room n rs (account_records n rs w.0) (account_fits n rs w.0) in
    simp length-append (omega arith)

accounts_again : (qs : List ℕ) (l : List (List Record)) (t : List ℕ) → good_accounts qs l ≡ true → accounts_in qs (rooms_bytes qs l ++ t) ≡ l
unfolding rooms_bytes good_accounts accounts_in
accounts_again [] [] t q = refl
accounts_again [] (rs ∷ l) t q = absurd (false≢true q)
accounts_again (n ∷ qs) [] t q = absurd (false≢true q)
accounts_again (n ∷ qs) (rs ∷ l) t q =
    let w = both_parts (good_account n rs) (good_accounts qs l) q in
    let k = length_room n rs (account_records n rs w.0) (account_fits n rs w.0) in
    rw (
      append_assoc (room_bytes n rs) (rooms_bytes qs l) t,
      records_again n rs (rooms_bytes qs l ++ t) (account_records n rs w.0) (account_fits n rs w.0),
      drop_at (room_bytes n rs) (rooms_bytes qs l ++ t) (n * 140) k,
      accounts_again qs l t w.1,
    )

-- ---- the law

filled : {n m : ℕ} {l k : List ℕ} {p o : List (List Record)} → n ≡ m → l ≡ k → p ≡ o
    → ◌≡◌ {A = Contents} (record { first = n; quotas = l; accounts = p }) (record { first = m; quotas = k; accounts = o })
filled e f g = rw (e, f, g)

pub held_written : (c : Contents) → good c ≡ true → held (written c) ≡ c
unfolding held written head_of
held_written c q =
    let rest : List ℕ = rooms_bytes c.quotas c.accounts ++ replicate ((256 - total c.quotas) * 140) 0 in
    let eight = good_eight c q in
    let d : c.first % 256 + 256 * (c.first / 256) ≡ c.first = omega arith in
    let n : numbers_in 8 (drop 2 (written c)) ≡ c.quotas = ap (λ (k : ℕ). numbers_in k (joined (map two_bytes c.quotas) ++ rest)) (sym eight) ∙ numbers_again c.quotas rest in
    let r : drop 18 (written c) ≡ rest = drop_at (head_of c) rest 18 (length_head c eight) in
    filled d n (rw (n, r) (accounts_again c.quotas c.accounts (replicate ((256 - total c.quotas) * 140) 0) (good_accounts_lem c q)))

pub register_told : (b : List ℕ) → is_register b ≡ true → (good (held b) ≡ true) × (written (held b) ≡ b)
unfolding is_register
register_told b q =
    let w = both_parts (good (held b)) (same_text (written (held b)) b) q in
    (w.0, same_told (written (held b)) b w.1)

pub register_when : (c : Contents) → good c ≡ true → is_register (written c) ≡ true
unfolding is_register
register_when c q = rw (held_written c q, q) (same_itself (written c))

pub written_same : (c d : Contents) → good c ≡ true → good d ≡ true → written c ≡ written d → c ≡ d
written_same c d p q e = sym (held_written c p) ∙ ap held e ∙ held_written d q

pub length_written : (c : Contents) → good c ≡ true → length (written c) ≡ 35858
unfolding written
length_written c q =
    let h = length_head c (good_eight c q) in
    let r = length_rooms c.quotas c.accounts (good_accounts_lem c q) in
    let t = good_total c q in
    simp (length-append, length-replicate) (omega arith)

pub length_register : (b : List ℕ) → is_register b ≡ true → length b ≡ 35858
length_register b q =
    let w = register_told b q in
    sym (ap length w.1) ∙ length_written (held b) w.0
