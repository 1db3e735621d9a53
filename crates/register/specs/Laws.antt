-- A call on an account's room, lent and put back, is the call on the account's view.
-- Assumes nothing.
use Rattle.std.specs.Prelude.{◌≡◌, Bool, true, false, ℕ, ◌-◌, ◌≤◌, ◌<◌, leb}
use Rattle.std.proofs.Math.Path.{sym, ap}
use Rattle.std.proofs.Common.{◌∙◌, le-leb}
use mathlib.Core.List.{List}
use Rattle.std.proofs.lemmas.Bool.{lt-leb}
use borrow.Rule.Slice.PartMut.{mid_of, put_mid}
use Rattle.laws.specs.Choice.{pick, choose}
use Rattle.answers.specs.Answers.{Answer, done, not_register, bad_account, nothing_pending}
use Rattle.contents.specs.Contents.{Record}
use Rattle.contents.specs.Written.{written, held, is_register, room_bytes}
use Rattle.contents.specs.Calls.{View, is_account, view_of, with_records, has_pending, lookup, changed, withdrawn, released, release_of, withdraw_of, record_at, shown_answer, shown_bytes, show_answer, show_bytes, answer_on, bytes_after, output_after}
use Rattle.rooms.specs.Views.{room_start, room_end, view_good, lent_is, lent_back}
use Rattle.entries.specs.Release.{pending_slots, used_slots, released_room}
use Rattle.entries.specs.Withdraw.{slot_found, withdraws, withdrawn_room}
use Rattle.entries.specs.Rooms.{release_count, release_left, withdraw_told, withdraw_left}
use Rattle.shown.specs.Shown.{record_of}
use Rattle.shown.specs.Rooms.{record_shown}

-- ---- for `is_account`

pub account_low : (account : ℕ) → account < 1 → false ≡ is_account account
account_low account h = sym (rw (lt-leb 1 account h))

pub account_is : (account : ℕ) → 1 ≤ account → leb account 8 ≡ is_account account
account_is account h = sym (rw (le-leb 1 account h))

-- ---- the tests of every call

module _ (b : List ℕ) (account : ℕ) (call : View → Answer ℕ) where
  pub answer_register : is_register b ≡ false → not_register ≡ answer_on b account call
  unfolding answer_on
  answer_register q = sym (rw q)

  pub answer_account : is_register b ≡ true → is_account account ≡ false → bad_account ≡ answer_on b account call
  unfolding answer_on
  answer_account q h = sym (rw (q, h))

  pub answer_view : is_register b ≡ true → is_account account ≡ true → call (view_of (held b) account) ≡ answer_on b account call
  unfolding answer_on
  answer_view q h = sym (rw (q, h))

module _ (b : List ℕ) (account : ℕ) (call : View → List Record) where
  pub bytes_register : is_register b ≡ false → b ≡ bytes_after b account call
  unfolding bytes_after
  bytes_register q = sym (rw q)

  pub bytes_account : is_register b ≡ true → is_account account ≡ false → b ≡ bytes_after b account call
  unfolding bytes_after
  bytes_account q h = sym (rw (q, h))

  pub bytes_view : is_register b ≡ true → is_account account ≡ true → written (with_records (held b) account (call (view_of (held b) account))) ≡ bytes_after b account call
  unfolding bytes_after
  bytes_view q h = sym (rw (q, h))

module _ (b : List ℕ) (account : ℕ) (out : List ℕ) (call : View → List ℕ) where
  pub output_register : is_register b ≡ false → out ≡ output_after b account out call
  unfolding output_after
  output_register q = sym (rw q)

  pub output_account : is_register b ≡ true → is_account account ≡ false → out ≡ output_after b account out call
  unfolding output_after
  output_account q h = sym (rw (q, h))

  pub output_view : is_register b ≡ true → is_account account ≡ true → call (view_of (held b) account) ≡ output_after b account out call
  unfolding output_after
  output_view q h = sym (rw (q, h))

-- ---- the room lent

module _ (b : List ℕ) (q : is_register b ≡ true) (account : ℕ) (h : is_account account ≡ true) (from to : ℕ) (f : from ≡ room_start b account) (t : to ≡ room_end b account) where
  abbrev view : View
  view = view_of (held b) account

  abbrev lent : List ℕ
  lent = mid_of from (to - from) b

  is_lent : lent ≡ room_bytes view.quota view.records
  is_lent = lent_is b q account h from to f t

  pub release_answer : (n : ℕ) → n ≡ pending_slots (used_slots lent) → done n ≡ answer_on b account (λ v. (release_of v).answer)
  unfolding release_of
  release_answer n e =
      ap done (e ∙ ap (λ (s : List ℕ). pending_slots (used_slots s)) is_lent ∙ release_count view.quota view.records (view_good b q account h))
      ∙ answer_view b account (λ v. (release_of v).answer) q h

  pub release_bytes : (l : List ℕ) → l ≡ released_room lent → put_mid from (to - from) b l ≡ bytes_after b account (λ v. (release_of v).records)
  unfolding release_of
  release_bytes l e =
      ap (put_mid from (to - from) b) (e ∙ ap released_room is_lent ∙ release_left view.quota view.records (view_good b q account h))
      ∙ lent_back b q account h from to f t (released view.records)
      ∙ bytes_view b account (λ v. (release_of v).records) q h

  module _ (x : List ℕ) where
    withdraw_answer : (p : Bool) → p ≡ withdraws lent (slot_found lent x) → pick p (done 0) nothing_pending ≡ answer_on b account (λ v. (withdraw_of x v).answer)
    unfolding withdraw_of
    withdraw_answer p e =
        let w : p ≡ has_pending (lookup x view.records) =
        e ∙ ap (λ (s : List ℕ). withdraws s (slot_found s x)) is_lent ∙ withdraw_told view.quota view.records (view_good b q account h) x in
        ap (λ (p : Bool). pick p (done 0) nothing_pending) w
        ∙ choose {X = pick (has_pending (lookup x view.records)) (done 0) nothing_pending ≡ (withdraw_of x view).answer} (has_pending (lookup x view.records)) (λ t. rw t) (λ t. rw t)
        ∙ answer_view b account (λ v. (withdraw_of x v).answer) q h

    pub withdraw_done : (p : Bool) → p ≡ withdraws lent (slot_found lent x) → p ≡ true → done 0 ≡ answer_on b account (λ v. (withdraw_of x v).answer)
    withdraw_done p e t = rw t at (withdraw_answer p e)

    pub withdraw_none : (p : Bool) → p ≡ withdraws lent (slot_found lent x) → p ≡ false → nothing_pending ≡ answer_on b account (λ v. (withdraw_of x v).answer)
    withdraw_none p e t = rw t at (withdraw_answer p e)

    pub withdraw_bytes : (l : List ℕ) → l ≡ withdrawn_room lent (slot_found lent x) → put_mid from (to - from) b l ≡ bytes_after b account (λ v. (withdraw_of x v).records)
    unfolding withdraw_of
    withdraw_bytes l e =
        ap (put_mid from (to - from) b) (e ∙ ap (λ (s : List ℕ). withdrawn_room s (slot_found s x)) is_lent ∙ withdraw_left view.quota view.records (view_good b q account h) x)
        ∙ lent_back b q account h from to f t (pick (has_pending (lookup x view.records)) (changed x withdrawn view.records) view.records)
        ∙ ap (λ (rs : List Record). written (with_records (held b) account rs)) (choose (has_pending (lookup x view.records)) (λ t. rw t) (λ t. rw t))
        ∙ bytes_view b account (λ v. (withdraw_of x v).records) q h

  module _ (k : ℕ) (out : List ℕ) where
    record_lent : record_of lent k ≡ record_at k view.records
    record_lent = ap (λ (s : List ℕ). record_of s k) is_lent ∙ record_shown view.quota view.records (view_good b q account h) k

    pub show_answer_lem : (a : Answer ℕ) → a ≡ shown_answer out (record_of lent k) → a ≡ answer_on b account (show_answer k out)
    unfolding show_answer
    show_answer_lem a e = e ∙ ap (shown_answer out) record_lent ∙ answer_view b account (show_answer k out) q h

    pub show_output : (l : List ℕ) → l ≡ shown_bytes out (record_of lent k) → l ≡ output_after b account out (show_bytes k out)
    unfolding show_bytes
    show_output l e = e ∙ ap (shown_bytes out) record_lent ∙ output_view b account out (show_bytes k out) q h
