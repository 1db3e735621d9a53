-- The ways through the code that stages in a room, and through the code that lends it.
-- Assumes nothing.
use Rattle.std.specs.Prelude.{ℕ, ◌+◌, ◌-◌, ◌/◌, ◌≤◌, ◌<◌, min, ◌≡◌, Bool, true, false, leb, length, Option}
use Rattle.std.proofs.Math.Path.{refl, ap}
use Rattle.std.proofs.Common.{sym, ◌∙◌, le-leb, leb-true, leb-false}
use mathlib.Core.List.{List, [], ◌∷◌}
use Rattle.answers.specs.declared.Refusal.{Refusal}
use native.Mathlib.Omega.{arith}
use Rattle.std.proofs.lemmas.Bool.{lt-leb}
use borrow.Rule.Slice.PartMut.{mid_of, put_mid}
use Rattle.laws.specs.Choice.{choose}
use Rattle.answers.specs.Answers.{Answer, done, refused, not_register, bad_account, naming}
use Rattle.answers.specs.Laws.{done_is}
use Rattle.slots.specs.Slots.{slots_of}
use Rattle.slots.specs.Rising.{leading}
use Rattle.interchange.specs.Reader.{Verdict, accepted, reading_of, numbers}
use Rattle.services.specs.Services.{services_of}
use Rattle.contents.specs.Contents.{Record}
use Rattle.contents.specs.Written.{room_bytes, written, held, is_register}
use Rattle.contents.specs.Calls.{View, Called, refused_call, is_account, view_of, with_records, answer_on, bytes_after}
use Rattle.rooms.specs.Views.{room_start, room_end, view_good, written_back, lent_is, lent_back}
use Rattle.service_tests.specs.declared.Totals.{Totals}
use Rattle.service_tests.specs.Tests.{counted, test_all, no_totals}
use Rattle.service_tests.specs.Passed.{passed_first}
use Rattle.service_tests.specs.Orders.{orders_all, services_count, orders_put}
use Rattle.services.specs.declared.Service.{Service}
use Rattle.stages.specs.Stage.{number_in, stage_services, stage_by, stage_of}
use Rattle.service_entries.specs.declared.Known.{Known}
use Rattle.service_entries.specs.Room.{look_at, removes_in, puts_in}
use Rattle.service_entries.specs.Orders.{put_orders}
use Rattle.records.specs.Read.{used_within}
use Rattle.staging.specs.Room.{room_tests, room_fits, room_answer, room_after}
use Rattle.staging.specs.Staged.{staged_room}
use Rattle.stages.specs.Kept.{reading_named}

-- ---- 15

module _ (room : List ℕ) (u : Totals) where
  pub fits_fewer : u.added ≤ u.dropped → true ≡ room_fits room u
  fits_fewer h =
      let k = used_within room (leading (slots_of room)) refl in
      sym (le-leb (leading (slots_of room) + u.added) (length room / 140 + u.dropped) (omega arith))

  pub fits_more : u.dropped < u.added → (used : ℕ) → used ≡ leading (slots_of room) → leb (u.added - u.dropped) (length room / 140 - used) ≡ room_fits room u
  fits_more h used e =
      let k = used_within room used e in
      choose (leb (u.added - u.dropped) (length room / 140 - used))
      (λ p.
      let a = leb-true (u.added - u.dropped) (length room / 140 - used) p in
      p ∙ sym (le-leb (leading (slots_of room) + u.added) (length room / 140 + u.dropped) (omega arith)))
      (λ p.
      let a = leb-false (u.added - u.dropped) (length room / 140 - used) p in
      p ∙ sym (lt-leb (leading (slots_of room) + u.added) (length room / 140 + u.dropped) (omega arith)))

-- ---- in a room

-- where the services that passed have no removal among them, nothing is removed
module _ (first : ℕ) (s rows : List ℕ) (look : List ℕ → Option Known) where
  removals_grow : (vs : List Service) (t u : Totals) → test_all first s rows look vs t ≡ done u → t.removals ≤ u.removals
  unfolding test_all
  removals_grow [] t u e =
      let q = ap (λ (x : Totals). x.removals) (done_is e) in
      omega arith
  removals_grow (v ∷ vs) t u e =
      let z = passed_first first s rows look v vs t u e in
      let h = removals_grow vs (counted v.removal (look (number_in s v)) t) u z.1 in
      omega arith

  none_removed : (vs : List Service) (t u : Totals) → test_all first s rows look vs t ≡ done u → u.removals ≡ 0 → (room : List ℕ) → removes_in s vs room ≡ room
  unfolding removes_in
  none_removed [] t u e q room = refl
  none_removed (v ∷ vs) t u e q room =
      let z = passed_first first s rows look v vs t u e in
      let h = removals_grow vs (counted v.removal (look (number_in s v)) t) u z.1 in
      choose v.removal
      (λ r. let g = rw r at h in absurd (omega arith))
      (λ r. rw r (none_removed vs (counted v.removal (look (number_in s v)) t) u z.1 q room))

module _ (room : List ℕ) (first : ℕ) (s rows : List ℕ) (n : ℕ) where
  abbrev Left : Answer Totals → Answer ℕ → List ℕ → Type 0
  Left x answer last = (answer ≡ room_answer room s x) × (last ≡ room_after room first s rows n x)

  pub room_unremoved : (u : Totals) → done u ≡ room_tests room first s rows n → u.removals ≡ 0 → removes_in s (services_of s rows n) room ≡ room
  room_unremoved u e q = none_removed first s rows (look_at room) (services_of s rows n) no_totals u (sym e) q room

  pub room_refused : (x : Refusal) → refused x ≡ room_tests room first s rows n → Left (room_tests room first s rows n) (refused x) room
  room_refused x e = rw (← e) (refl, refl)

  module _ (u : Totals) (e : done u ≡ room_tests room first s rows n) (b : Bool) (f : b ≡ room_fits room u) where
    pub room_over : b ≡ false → Left (room_tests room first s rows n) (refused (naming 15 (length s))) room
    room_over q = rw (← e, ← f, q) (refl, refl)

    pub room_done : b ≡ true → (mid last : List ℕ) → mid ≡ removes_in s (services_of s rows n) room → last ≡ puts_in first s rows (services_of s rows n) mid
        → Left (room_tests room first s rows n) (done u.services) last
    room_done q mid last a d = rw (← e, ← f, q) (refl, d ∙ ap (puts_in first s rows (services_of s rows n)) a)

    -- the orders that were kept of them put the same
    pub room_ordered : b ≡ true → (d kept mid last : List ℕ) → kept ≡ orders_all first s rows (look_at room) (services_of s rows n) no_totals d → length d ≡ 19200 → u.services ≤ 256
        → mid ≡ removes_in s (services_of s rows n) room → last ≡ put_orders kept 0 (min u.services (length kept / 75)) mid → length kept ≡ 19200
        → Left (room_tests room first s rows n) (done u.services) last
    room_ordered q d kept mid last k l h a p m =
        let c = services_count first s rows (look_at room) (services_of s rows n) no_totals u (sym e) in
        let z : min u.services (length kept / 75) ≡ length (services_of s rows n) = omega arith in
        let o = orders_put first s rows (look_at room) (services_of s rows n) no_totals u d mid (sym e) (omega arith) in
        room_done q mid last a (p ∙ ap (λ (x : ℕ). put_orders kept 0 x mid) z ∙ ap (λ (x : List ℕ). put_orders x 0 (length (services_of s rows n)) mid) k ∙ o)

-- ---- in a register

stage_accepted : (wish : Bool) (s : List ℕ) (v : View) → (reading_of wish s).verdict ≡ accepted
    → stage_of wish s v ≡ stage_services s (numbers (reading_of wish s).rows) (services_of s (numbers (reading_of wish s).rows) (length (reading_of wish s).rows)) v
unfolding stage_of
stage_accepted wish s v q = ap (λ (x : Verdict). stage_by s (numbers (reading_of wish s).rows) (length (reading_of wish s).rows) x v) q

module _ (b : List ℕ) (account : ℕ) (reg : is_register b ≡ true) (acc : is_account account ≡ true) where
  answer_is : (call : View → Answer ℕ) → answer_on b account call ≡ call (view_of (held b) account)
  unfolding answer_on
  answer_is call = rw (reg, acc)

  after_is : (call : View → List Record) → bytes_after b account call ≡ written (with_records (held b) account (call (view_of (held b) account)))
  unfolding bytes_after
  after_is call = rw (reg, acc)

  module _ (wish : Bool) (s : List ℕ) (ok : (reading_of wish s).verdict ≡ accepted) (first from to : ℕ) (e : first ≡ (held b).first) (f : from ≡ room_start b account) (t : to ≡ room_end b account) where
    abbrev view : View
    view = view_of (held b) account

    abbrev rows : List ℕ
    rows = numbers (reading_of wish s).rows

    abbrev count : ℕ
    count = length (reading_of wish s).rows

    abbrev lent : List ℕ
    lent = mid_of from (to - from) b

    first_is : first ≡ (view_of (held b) account).first
    unfolding view_of
    first_is = e

    -- what is answered and left in the room that is lent is what is answered and left in the register
    pub register_staged : (answer : Answer ℕ) (last : List ℕ)
        → answer ≡ room_answer (mid_of from (to - from) b) s (room_tests (mid_of from (to - from) b) first s (numbers (reading_of wish s).rows) (length (reading_of wish s).rows))
        → last ≡ room_after (mid_of from (to - from) b) first s (numbers (reading_of wish s).rows) (length (reading_of wish s).rows) (room_tests (mid_of from (to - from) b) first s (numbers (reading_of wish s).rows) (length (reading_of wish s).rows))
        → (answer ≡ answer_on b account (λ v. (stage_of wish s v).answer)) × (put_mid from (to - from) b last ≡ bytes_after b account (λ v. (stage_of wish s v).records))
    register_staged answer last a l =
        let room : List ℕ = room_bytes view.quota view.records in
        let same : lent ≡ room = lent_is b reg account acc from to f t in
        let w = staged_room s rows count view (view_good b reg account acc) (reading_named wish s count) in
        let c = ap (λ (x : Called). x.answer) (stage_accepted wish s view ok) in
        let d = ap (λ (x : Called). x.records) (stage_accepted wish s view ok) in
        let move : (x : List ℕ) (y : ℕ) → lent ≡ x → first ≡ y → room_answer lent s (room_tests lent first s rows count) ≡ room_answer x s (room_tests x y s rows count) = λ x y p q. rw (p, q) in
        let keep : (x : List ℕ) (y : ℕ) → lent ≡ x → first ≡ y → room_after lent first s rows count (room_tests lent first s rows count) ≡ room_after x y s rows count (room_tests x y s rows count) = λ x y p q. rw (p, q) in (
          a ∙ move room view.first same first_is ∙ w.0 ∙ sym c ∙ sym (answer_is (λ v. (stage_of wish s v).answer)),
          ap (put_mid from (to - from) b) (l ∙ keep room view.first same first_is ∙ w.1 ∙ ap (room_bytes view.quota) (sym d))
              ∙ lent_back b reg account acc from to f t (stage_of wish s view).records
              ∙ sym (after_is (λ v. (stage_of wish s v).records)),
        )

    module _ (held_rows : List ℕ) (n : ℕ) (r : held_rows ≡ numbers (reading_of wish s).rows) (k : n ≡ length (reading_of wish s).rows) where
      pub rows_staged : (answer : Answer ℕ) (last : List ℕ)
          → answer ≡ room_answer (mid_of from (to - from) b) s (room_tests (mid_of from (to - from) b) first s held_rows n)
          → last ≡ room_after (mid_of from (to - from) b) first s held_rows n (room_tests (mid_of from (to - from) b) first s held_rows n)
          → (answer ≡ answer_on b account (λ v. (stage_of wish s v).answer)) × (put_mid from (to - from) b last ≡ bytes_after b account (λ v. (stage_of wish s v).records))
      rows_staged answer last a l =
          let p : room_answer lent s (room_tests lent first s held_rows n) ≡ room_answer lent s (room_tests lent first s rows count) = rw (r, k) in
          let q : room_after lent first s held_rows n (room_tests lent first s held_rows n) ≡ room_after lent first s rows count (room_tests lent first s rows count) = rw (r, k) in
          register_staged answer last (a ∙ p) (l ∙ q)

-- ---- the refusals before the services

module _ (b : List ℕ) (account : ℕ) (answer : View → Answer ℕ) (after : View → List Record) where
  pub not_register_lem : is_register b ≡ false → (not_register ≡ answer_on b account answer) × (b ≡ bytes_after b account after)
  unfolding answer_on bytes_after
  not_register_lem q = rw q (refl, refl)

  pub no_account_lem : is_register b ≡ true → is_account account ≡ false → (bad_account ≡ answer_on b account answer) × (b ≡ bytes_after b account after)
  unfolding answer_on bytes_after
  no_account_lem q r = rw (q, r) (refl, refl)

pub account_low : (account : ℕ) → account < 1 → is_account account ≡ false
account_low account h = rw (lt-leb 1 account h)

pub account_high : (account : ℕ) → 1 ≤ account → 8 < account → is_account account ≡ false
account_high account h k = rw (le-leb 1 account h, lt-leb account 8 k)

pub account_some : (account : ℕ) → 1 ≤ account → account ≤ 8 → is_account account ≡ true
account_some account h k = rw (le-leb 1 account h, le-leb account 8 k)

stage_refused : (wish : Bool) (s : List ℕ) (v : View) (x : Refusal) → (reading_of wish s).verdict ≡ refused x → stage_of wish s v ≡ refused_call v (refused x)
unfolding stage_of
stage_refused wish s v x q = ap (λ (y : Verdict). stage_by s (numbers (reading_of wish s).rows) (length (reading_of wish s).rows) y v) q

-- 3 to 10: what the reader refuses changes nothing
pub read_stops : (b : List ℕ) (account : ℕ) → is_register b ≡ true → is_account account ≡ true → (wish : Bool) (s : List ℕ) (x : Refusal) → (reading_of wish s).verdict ≡ refused x
    → (refused x ≡ answer_on b account (λ v. (stage_of wish s v).answer)) × (b ≡ bytes_after b account (λ v. (stage_of wish s v).records))
read_stops b account reg acc wish s x q =
    let view : View = view_of (held b) account in
    let e = stage_refused wish s view x q in (
      sym (ap (λ (x : Called). x.answer) e) ∙ sym (answer_is b account reg acc (λ v. (stage_of wish s v).answer)),
      sym (after_is b account reg acc (λ v. (stage_of wish s v).records) ∙ ap (λ (x : Called). written (with_records (held b) account x.records)) e ∙ written_back b reg account acc),
    )
