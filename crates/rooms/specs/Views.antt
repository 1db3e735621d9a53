-- An account's room in a register: where it lies, that it is the account's records, and what comes of other records put there.
-- Assumes nothing.
use Rattle.std.specs.Prelude.{◌≡◌, true, ℕ, suc, ◌+◌, ◌-◌, ◌*◌, ◌≤◌, ◌<◌, leb, length, get_or, take, drop}
use Rattle.std.proofs.Math.Path.{refl, ap}
use Rattle.std.proofs.Common.{sym, ◌∙◌, leb-true, take_at, drop_at, drop-drop, get_or-set_other, set-set}
use mathlib.Core.List.{List, [], ◌++◌}
use native.Mathlib.Omega.{arith}
use borrow.Rule.Slice.PartMut.{mid_of, put_mid}
use Rattle.std.proofs.Math.Seq.{get_or-set_same}
use Rattle.std.proofs.lemmas.List.{set_comm}
use Rattle.laws.specs.Choice.{all, both_parts}
use Rattle.laws.specs.Lists.{between}
use Rattle.laws.specs.Joined.{total}
use Rattle.contents.specs.Contents.{Record, Contents, good_record, good_account, good_window, good}
use Rattle.contents.specs.Written.{room_bytes, numbers_in, written, held, is_register}
use Rattle.contents.specs.Calls.{is_account, view_of, with_records}
use Rattle.rooms.specs.Slots.{length_room, account_fits, account_records}
use Rattle.rooms.specs.Registers.{good_window_lem, good_eight, good_total, good_accounts_lem, held_written, register_told, register_when, length_register}
use Rattle.rooms.specs.Layout.{good_lengths, good_at, total_more, total_front, front_of, behind_of, length_front, with_room, with_own, good_with}

-- the quotas that any bytes say
unfoldable pub quotas_in : List ℕ → List ℕ
quotas_in b = numbers_in 8 (drop 2 b)

-- where an account's room begins, and where it ends: behind the head and the rooms of the accounts before it, and behind these and its own
unfoldable pub room_start : List ℕ → ℕ → ℕ
room_start b account = 18 + total (take (account - 1) (quotas_in b)) * 140

unfoldable pub room_end : List ℕ → ℕ → ℕ
room_end b account = 18 + total (take account (quotas_in b)) * 140

-- ---- an account's number, counted from 1, and from 0

pub account_number : (account : ℕ) → is_account account ≡ true → (1 ≤ account) × (account ≤ 8)
account_number account q =
    let w = both_parts (leb 1 account) (leb account 8) q in
    (leb-true 1 account w.0, leb-true account 8 w.1)

module _ (b : List ℕ) (q : is_register b ≡ true) where
  pub contents_good : good (held b) ≡ true
  contents_good = (register_told b q).0

  quotas_held : quotas_in b ≡ (held b).quotas
  unfolding quotas_in held
  quotas_held = refl

  module _ (account : ℕ) (h : is_account account ≡ true) where
    index : account - 1 < 8
    index = let w = account_number account h in omega arith

    back_up : suc (account - 1) ≡ account
    back_up = let w = account_number account h in omega arith

    -- ---- what the account holds is good

    pub view_good : good_account (view_of (held b) account).quota (view_of (held b) account).records ≡ true
    unfolding view_of
    view_good =
        let n = good_eight (held b) contents_good in
        let i = index in
        good_at (held b).quotas (held b).accounts (account - 1) (good_accounts_lem (held b) contents_good) (omega arith)

    pub view_first : good_window (view_of (held b) account).first ≡ true
    unfolding view_of
    view_first = good_window_lem (held b) contents_good

    -- ---- where the room lies

    pub room_size_lem : room_end b account ≡ room_start b account + (view_of (held b) account).quota * 140
    unfolding room_end room_start view_of
    room_size_lem =
        let n = good_eight (held b) contents_good in
        let i = index in
        let t = total_more (held b).quotas (account - 1) (omega arith) in
        let e : total (take account (held b).quotas) ≡ total (take (suc (account - 1)) (held b).quotas) = ap (λ (k : ℕ). total (take k (held b).quotas)) (sym back_up) in
        rw quotas_held (omega arith)

    pub room_within : room_end b account ≤ length b
    unfolding room_end
    room_within =
        let l = length_register b q in
        let m = good_total (held b) contents_good in
        let t = total_front (held b).quotas account in
        rw quotas_held (omega arith)

    start_least : 18 ≤ room_start b account
    unfolding room_start
    start_least = omega arith

    pub room_from : room_start b account ≤ room_end b account
    room_from = let e = room_size_lem in omega arith

    pub start_within : room_start b account ≤ length b
    start_within =
        let e = room_from in
        let t = room_within in
        omega arith

    -- "the quotas summing to at most 256"
    pub view_quota : (view_of (held b) account).quota ≤ 256
    view_quota =
        let l = length_register b q in
        let e = room_size_lem in
        let t = room_within in
        let s = start_least in
        omega arith

    start_is : length (front_of (held b) (account - 1)) ≡ room_start b account
    unfolding room_start
    start_is = rw quotas_held (length_front (held b) contents_good (account - 1) index)

    -- ---- the register cut there

    with_records_lem : (rs : List Record) → written (with_records (held b) account rs)
        ≡ front_of (held b) (account - 1) ++ (room_bytes (view_of (held b) account).quota rs ++ behind_of (held b) (account - 1))
    unfolding view_of
    with_records_lem rs =
        ap (λ (a : ℕ). written (with_records (held b) a rs)) (sym back_up) ∙ with_room (held b) contents_good (account - 1) index rs

    -- the records that are there, written back, change nothing
    pub view_back : with_records (held b) account (view_of (held b) account).records ≡ held b
    unfolding view_of
    view_back =
        ap (λ (a : ℕ). with_records (held b) a (get_or (held b).accounts (account - 1) [])) (sym back_up) ∙ with_own (held b) contents_good (account - 1) index

    pub written_back : written (with_records (held b) account (view_of (held b) account).records) ≡ b
    written_back = ap written view_back ∙ (register_told b q).1

    cut_here : b ≡ front_of (held b) (account - 1) ++ (room_bytes (view_of (held b) account).quota (view_of (held b) account).records ++ behind_of (held b) (account - 1))
    cut_here = sym written_back ∙ with_records_lem (view_of (held b) account).records

    length_view : length (room_bytes (view_of (held b) account).quota (view_of (held b) account).records) ≡ (view_of (held b) account).quota * 140
    length_view =
        let n = (view_of (held b) account).quota in
        let rs = (view_of (held b) account).records in
        length_room n rs (account_records n rs view_good) (account_fits n rs view_good)

    from_start : drop (room_start b account) b ≡ room_bytes (view_of (held b) account).quota (view_of (held b) account).records ++ behind_of (held b) (account - 1)
    from_start = ap (drop (room_start b account)) cut_here ∙ drop_at (front_of (held b) (account - 1)) _ (room_start b account) start_is

    size_is : room_end b account - room_start b account ≡ (view_of (held b) account).quota * 140
    size_is = let e = room_size_lem in omega arith

    -- the law: the bytes of the room are the account's records, written
    pub view_room : between b (room_start b account) (room_end b account) ≡ room_bytes (view_of (held b) account).quota (view_of (held b) account).records
    view_room = rw (from_start, size_is) (take_at _ (behind_of (held b) (account - 1)) ((view_of (held b) account).quota * 140) length_view)

    before_start : take (room_start b account) b ≡ front_of (held b) (account - 1)
    before_start = ap (take (room_start b account)) cut_here ∙ take_at (front_of (held b) (account - 1)) _ (room_start b account) start_is

    from_end : drop (room_end b account - room_start b account) (drop (room_start b account) b) ≡ behind_of (held b) (account - 1)
    from_end = rw (from_start, size_is)
        (drop_at (room_bytes (view_of (held b) account).quota (view_of (held b) account).records) (behind_of (held b) (account - 1)) ((view_of (held b) account).quota * 140) length_view)

    -- the law: other records put there are the contents with these records, written
    pub room_back : (rs : List Record)
        → put_mid (room_start b account) (room_end b account - room_start b account) b (room_bytes (view_of (held b) account).quota rs)
        ≡ written (with_records (held b) account rs)
    room_back rs = rw (before_start, from_end) (sym (with_records_lem rs))

    -- the same as the code lends the room, and gets it back
    module _ (from to : ℕ) (f : from ≡ room_start b account) (t : to ≡ room_end b account) where
      pub lent_is : mid_of from (to - from) b ≡ room_bytes (view_of (held b) account).quota (view_of (held b) account).records
      lent_is = rw (f, t) view_room

      pub lent_back : (rs : List Record) → put_mid from (to - from) b (room_bytes (view_of (held b) account).quota rs) ≡ written (with_records (held b) account rs)
      lent_back rs = rw (f, t) (room_back rs)

    -- ---- a register stays one

    module _ (rs : List Record) (g : good_account (view_of (held b) account).quota rs ≡ true) where
      pub register_stays : good (with_records (held b) account rs) ≡ true
      register_stays = good_with (held b) account rs contents_good g

      pub register_after : is_register (written (with_records (held b) account rs)) ≡ true
      register_after = register_when (with_records (held b) account rs) register_stays

      pub held_after : held (written (with_records (held b) account rs)) ≡ with_records (held b) account rs
      held_after = held_written (with_records (held b) account rs) register_stays

      -- what the account holds then
      pub records_after : (view_of (held (written (with_records (held b) account rs))) account).records ≡ rs
      unfolding view_of with_records
      records_after =
          let l = good_lengths (held b).quotas (held b).accounts (good_accounts_lem (held b) contents_good) in
          let n = good_eight (held b) contents_good in
          let i = index in
          ap (λ (c : Contents). (view_of c account).records) held_after ∙ get_or-set_same (held b).accounts (account - 1) rs [] (omega arith)

    -- what is before the room and behind it is as it was
    pub untouched : (rs : List Record) → all good_record rs ≡ true → length rs ≤ (view_of (held b) account).quota
        → (take (room_start b account) (written (with_records (held b) account rs)) ≡ take (room_start b account) b)
        × (drop (room_end b account) (written (with_records (held b) account rs)) ≡ drop (room_end b account) b)
    untouched rs g l =
        let room : List ℕ = room_bytes (view_of (held b) account).quota rs in
        let front : List ℕ = front_of (held b) (account - 1) in
        let behind : List ℕ = behind_of (held b) (account - 1) in
        let s = room_start b account in
        let e : room_end b account ≡ s + (view_of (held b) account).quota * 140 = room_size_lem in
        let d : room_end b account ≡ s + (room_end b account - s) = let z = room_from in omega arith in
        let n = length_room (view_of (held b) account).quota rs g l in (
          ap (take s) (with_records_lem rs) ∙ take_at front (room ++ behind) s start_is ∙ sym before_start,
          ap (drop (room_end b account)) (with_records_lem rs)
              ∙ ap (λ (k : ℕ). drop k (front ++ (room ++ behind))) e
              ∙ sym (drop-drop ((view_of (held b) account).quota * 140) s (front ++ (room ++ behind)))
              ∙ ap (drop ((view_of (held b) account).quota * 140)) (drop_at front (room ++ behind) s start_is)
              ∙ drop_at room behind ((view_of (held b) account).quota * 140) n
              ∙ sym from_end
              ∙ drop-drop (room_end b account - s) s b
              ∙ ap (λ (k : ℕ). drop k b) (sym d),
        )

-- ---- the views after other records of one account

module _ (c : Contents) (account : ℕ) (rs : List Record) where
  pub view_same : account - 1 < length c.accounts → (view_of (with_records c account rs) account).records ≡ rs
  unfolding view_of with_records
  view_same h = get_or-set_same c.accounts (account - 1) rs [] h

  pub quota_same : (other : ℕ) → (view_of (with_records c account rs) other).quota ≡ (view_of c other).quota
  unfolding view_of with_records
  quota_same other = refl

  pub first_same : (other : ℕ) → (view_of (with_records c account rs) other).first ≡ (view_of c other).first
  unfolding view_of with_records
  first_same other = refl

  pub records_twice : (ps : List Record) → with_records (with_records c account rs) account ps ≡ with_records c account ps
  unfolding with_records
  records_twice ps = rw (set-set c.accounts (account - 1) rs ps)

  module _ (other : ℕ) (h : is_account account ≡ true) (k : is_account other ≡ true) (n : account ≡ other → ⊥) where
    apart : account - 1 ≡ other - 1 → ⊥
    apart e =
        let a = account_number account h in
        let d = account_number other k in
        n (omega arith)

    pub view_other : view_of (with_records c account rs) other ≡ view_of c other
    unfolding view_of with_records
    view_other = rw (get_or-set_other c.accounts (account - 1) (other - 1) rs [] (λ e. apart (sym e)))

    pub records_swap : (ps : List Record) → with_records (with_records c account rs) other ps ≡ with_records (with_records c other ps) account rs
    unfolding with_records
    records_swap ps = rw (set_comm c.accounts (account - 1) (other - 1) rs ps apart)
