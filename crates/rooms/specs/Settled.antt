-- An account stays good when its pending entries are released, or one is withdrawn.
-- Assumes nothing.
use Rattle.std.specs.Prelude.{◌≡◌, refl, true, List, [], ◌∷◌, ℕ, ◌≤◌, length}
use Rattle.std.proofs.Math.Option.{Option, none, some}
use Rattle.std.proofs.Common.{arith}
use Rattle.laws.specs.Choice.{all, choose, both_parts}
use Rattle.contents.specs.Contents.{Pending, nothing, put, removal, Record, good_number, is_calendar, good_entries, good_record, in_order, good_account}
use Rattle.contents.specs.Calls.{View, lookup, changed, settled_by, released, has_pending, kept_live, withdrawn, withdraw_of}
use Rattle.rooms.specs.Slots.{good_live, good_pending, entries_parts, record_number, record_parts, account_fits, account_records, account_order, account_good}
use Rattle.rooms.specs.Lookup.{before_told, tail_order, lookup_number, lookup_all}
use Rattle.rooms.specs.Listed.{Keeps, passes, count_of, before_first, order_listed, front_listed, all_listed, length_listed, none_order, first_after, skip_first}
use Rattle.rooms.specs.Changed.{changed_length, changed_account}

-- a record with a live calendar and nothing pending is good
live_good : (x c : List ℕ) → good_number x ≡ true → is_calendar c ≡ true → good_record (record { number = x; live = some c; pending = nothing }) ≡ true
unfolding good_record good_entries
live_good x c n q = rw (n, q)

-- ---- release

settled_keeps : (r : Record) (p : Pending) → Keeps r.number (settled_by r p)
settled_keeps r nothing = refl
settled_keeps r (put c) = refl
settled_keeps r removal = tt

settled_good : (r : Record) → good_record r ≡ true → (p : Pending) → good_pending p ≡ true → passes good_record (settled_by r p) ≡ true
settled_good r q nothing e = q
settled_good r q (put c) e = live_good r.number c (record_number r q) e
settled_good r q removal e = refl

pending_good : (r : Record) → good_record r ≡ true → good_pending r.pending ≡ true
pending_good r q = (entries_parts r.live r.pending (record_parts r q).1).1

count_one : (o : Option Record) → count_of o ≤ 1
count_one none = omega arith
count_one (some r) = omega arith

released_length : (rs : List Record) → length (released rs) ≤ length rs
unfolding released
released_length [] = omega arith
released_length (r ∷ rs) =
    let l = length_listed (settled_by r r.pending) (released rs) in
    let c = count_one (settled_by r r.pending) in
    let h = released_length rs in
    omega arith

released_all : (rs : List Record) → all good_record rs ≡ true → all good_record (released rs) ≡ true
unfolding released
released_all [] q = refl
released_all (r ∷ rs) q =
    let w = both_parts (good_record r) (all good_record rs) q in
    all_listed good_record (settled_by r r.pending) (released rs) (settled_good r w.0 r.pending (pending_good r w.0)) (released_all rs w.1)

released_front : (y : List ℕ) (rs : List Record) → in_order rs ≡ true → before_first y rs ≡ true → before_first y (released rs) ≡ true
unfolding released
released_front y [] w b = refl
released_front y (r ∷ rs) w b =
    let e = before_told y r.number b in
    front_listed r.number (released rs) y (settled_by r r.pending) (settled_keeps r r.pending) e (released_front y rs (tail_order r rs w) (skip_first y r rs w e))

released_order : (rs : List Record) → in_order rs ≡ true → in_order (released rs) ≡ true
unfolding released
released_order [] w = none_order
released_order (r ∷ rs) w =
    let t = tail_order r rs w in
    order_listed r.number (released rs) (settled_by r r.pending) (settled_keeps r r.pending) (released_front r.number rs t (first_after r rs w)) (released_order rs t)

pub released_good : (quota : ℕ) (rs : List Record) → good_account quota rs ≡ true → good_account quota (released rs) ≡ true
released_good quota rs q =
    let h = released_length rs in
    let k = account_fits quota rs q in
    account_good quota (released rs) (omega arith) (released_all rs (account_records quota rs q)) (released_order rs (account_order quota rs q))

-- ---- withdraw

kept_live_lem : (x : List ℕ) (r : Record) → r.number ≡ x → (l : Option (List ℕ)) → Keeps x (kept_live r l)
kept_live_lem x r e none = tt
kept_live_lem x r e (some c) = e

kept_good : (r : Record) → good_number r.number ≡ true → (l : Option (List ℕ)) → good_live l ≡ true → passes good_record (kept_live r l) ≡ true
kept_good r n none e = refl
kept_good r n (some c) e = live_good r.number c n e

kept_count : (r : Record) (l : Option (List ℕ)) → count_of (kept_live r l) ≤ 1
kept_count r l = count_one (kept_live r l)

module _ (x : List ℕ) (rs : List Record) where
  pub withdrawn_keeps : Keeps x (withdrawn (lookup x rs))
  withdrawn_keeps = go (lookup x rs) refl
    where
      go : (o : Option Record) → lookup x rs ≡ o → Keeps x (withdrawn o)
      go none e = tt
      go (some r) e = kept_live_lem x r (lookup_number x rs r e) r.live

  withdrawn_passes : all good_record rs ≡ true → passes good_record (withdrawn (lookup x rs)) ≡ true
  withdrawn_passes q = go (lookup x rs) refl
    where
      go : (o : Option Record) → lookup x rs ≡ o → passes good_record (withdrawn o) ≡ true
      go none e = refl
      go (some r) e =
          let g = lookup_all good_record x rs r q e in
          kept_good r (record_number r g) r.live (entries_parts r.live r.pending (record_parts r g).1).0

withdrawn_count : (o : Option Record) → count_of (withdrawn o) ≤ count_of o
withdrawn_count none = omega arith
withdrawn_count (some r) = kept_count r r.live

pub withdrawn_changed : (quota : ℕ) (x : List ℕ) (rs : List Record) → good_account quota rs ≡ true → good_account quota (changed x withdrawn rs) ≡ true
withdrawn_changed quota x rs q =
    let l = changed_length x withdrawn rs (account_order quota rs q) in
    let c = withdrawn_count (lookup x rs) in
    let k = account_fits quota rs q in
    changed_account x withdrawn quota rs q (withdrawn_keeps x rs) (withdrawn_passes x rs (account_records quota rs q)) (omega arith)

pub withdrawn_good : (quota : ℕ) (x : List ℕ) (v : View) → good_account quota v.records ≡ true → good_account quota (withdraw_of x v).records ≡ true
unfolding withdraw_of
withdrawn_good quota x v q =
    choose (has_pending (lookup x v.records))
    (λ p. rw p (withdrawn_changed quota x v.records q))
    (λ p. rw p q)
