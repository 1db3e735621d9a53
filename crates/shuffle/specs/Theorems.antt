-- Demand 3, and what stands beside it: nothing is learnt, nothing is touched, and the calls of a run are the public functions.
-- Assumes nothing.
use Rattle.std.specs.Prelude.{◌≡◌, refl, true, false, List, [], ◌∷◌, ℕ, ◌-◌, take, drop}
use Rattle.std.proofs.Common.{sym, ◌∙◌, ap, arith, get_or-set_same}
use Rattle.std.proofs.Math.Option.{Option, none, some}
use Rattle.laws.specs.Choice.{pick, both, choose}
use Rattle.answers.specs.Answers.{not_register}
use Rattle.contents.specs.Contents.{Record, Contents, good}
use Rattle.contents.specs.Written.{written, held, is_register}
use Rattle.contents.specs.Calls.{View, is_account, view_of, with_records, answer_on, bytes_after, output_after}
use Rattle.rooms.specs.Registers.{good_eight, good_accounts_lem, held_written, register_told, register_when}
use Rattle.rooms.specs.Slots.{account_fits, account_records}
use Rattle.rooms.specs.Layout.{good_at, good_lengths, good_with}
use Rattle.rooms.specs.Views.{room_start, room_end, account_number, view_good, untouched}
use Rattle.shuffle.specs.Calls.{replies, Apart, AnyOrder}
use Rattle.shuffle.specs.Buffer.{on_buffer, buffer_apart}
use Rattle.shuffle.specs.Order.{any_order}
use Rattle.shuffle.specs.Register.{Ask, Reply, records_by, lent_by, called}
use Rattle.shuffle.specs.Kept.{keeps}
use Rattle.shuffle.specs.InContents.{in_contents, by_view, in_yes, in_no, in_apart}

-- what a buffer holds, where it is a register
unfoldable register_in : List ℕ → Option Contents
register_in b = pick (is_register b) (some (held b)) none

-- 1 for every call where it is none
abbrev refused_all : ℕ × Ask → Reply
refused_all d = record { answer = not_register; output = lent_by d.1 }

some_is : {A : Type 0} {a b : A} → some a ≡ some b → a ≡ b
some_is q = cc

none≢some : {A : Type 0} {a : A} → none ≡ some a → ⊥
none≢some q = let z : ◌≡◌ {A = ℕ} 0 1 = cc in omega arith

-- what a call leaves is good contents again
stays : (c : Contents) (d : ℕ × Ask) → good c ≡ true → is_account d.0 ≡ true → good (by_view c d).0 ≡ true
unfolding view_of
stays c d g q =
    let n = good_eight c g in
    let w = account_number d.0 q in
    good_with c d.0 (records_by d.1 (view_of c d.0)) g
    (keeps d.1 (view_of c d.0) (good_at c.quotas c.accounts (d.0 - 1) (good_accounts_lem c g) (omega arith)))

-- a call on a buffer is the call on what it holds, written
called_is : (b : List ℕ) (d : ℕ × Ask) → called b d ≡ on_buffer register_in written in_contents refused_all b d
unfolding called on_buffer register_in answer_on bytes_after output_after
called_is b d =
    choose (is_register b)
    (λ p.
    choose (is_account d.0)
    (λ q. rw (called, p, q, in_yes (held b) d q))
    (λ q. rw (called, p, q, in_no (held b) d q, (register_told b p).1)))
    (λ p. rw (called, p))

good_after : (c : Contents) (d : ℕ × Ask) → good c ≡ true → good (in_contents c d).0 ≡ true
good_after c d g = choose (is_account d.0) (λ q. rw (in_yes c d q) (stays c d g q)) (λ q. rw (in_no c d q) g)

good_read : (b : List ℕ) (c : Contents) → register_in b ≡ some c → good c ≡ true
unfolding register_in
good_read b c q =
    choose (is_register b)
    (λ p. rw (← some_is (rw p at q)) (register_told b p).0)
    (λ p. absurd (none≢some (rw p at q)))

read_written : (c : Contents) → good c ≡ true → register_in (written c) ≡ some c
unfolding register_in
read_written c g = rw (register_when c g, held_written c g)

again : (b : List ℕ) (c : Contents) (d : ℕ × Ask) → register_in b ≡ some c → register_in (written (in_contents c d).0) ≡ some (in_contents c d).0
again b c d q = read_written (in_contents c d).0 (good_after c d (good_read b c q))

-- a run on good contents, written, is the run on the contents
called_written : (c : Contents) → good c ≡ true → (d : ℕ × Ask) → called (written c) d ≡ (written (in_contents c d).0, (in_contents c d).1)
unfolding on_buffer
called_written c g d = called_is (written c) d ∙ rw (read_written c g)

pub replies_written : (c : Contents) → good c ≡ true → (xs : List (ℕ × Ask)) → replies called (written c) xs ≡ replies in_contents c xs
unfolding replies
replies_written c g [] = refl
replies_written c g (d ∷ xs) = rw (called_written c g d) (ap (λ (l : List (ℕ × Reply)). (d.0, (in_contents c d).1) ∷ l) (replies_written (in_contents c d).0 (good_after c d g) xs))

pub called_apart : Apart called
called_apart b c d n =
    let w = buffer_apart register_in written in_contents refused_all again in_apart b c d n in
    rw (called_is b c, called_is b d, called_is (on_buffer register_in written in_contents refused_all b c).0 d, called_is (on_buffer register_in written in_contents refused_all b d).0 c) w

-- the demand: two lists of calls that have the same calls of each account in the same order give each account the same answers and outputs
-- in that order, and the same bytes at the end, whatever the buffer at the start
pub shuffled : AnyOrder called
shuffled = any_order called called_apart

-- ---- nothing is learnt

-- a call by an account sees a register only through the account's view
view_alone : (a : ℕ) (b c : List ℕ) → is_register b ≡ true → is_register c ≡ true → view_of (held b) a ≡ view_of (held c) a → (x : Ask) → (called b (a, x)).1 ≡ (called c (a, x)).1
unfolding called answer_on output_after
view_alone a b c p q v x = rw (p, q, v)

-- the view of an account after its own call
unfoldable view_after : ℕ → View → Ask → View
view_after a v x = record { first = v.first; quota = v.quota; records = records_by x v }

own_same : (c : Contents) (a : ℕ) (rs : List Record) → good c ≡ true → is_account a ≡ true → view_of (with_records c a rs) a ≡ record { first = (view_of c a).first; quota = (view_of c a).quota; records = rs }
unfolding view_of with_records
own_same c a rs g q =
    let n = good_eight c g in
    let m = good_lengths c.quotas c.accounts (good_accounts_lem c g) in
    let w = account_number a q in
    rw (get_or-set_same c.accounts (a - 1) rs [] (omega arith))

after_register : (b : List ℕ) (d : ℕ × Ask) → is_register b ≡ true → is_register (called b d).0 ≡ true
unfolding on_buffer register_in
after_register b d p = rw (called_is b d, p) (register_when (in_contents (held b) d).0 (good_after (held b) d (register_told b p).0))

after_held : (b : List ℕ) (d : ℕ × Ask) → is_register b ≡ true → held (called b d).0 ≡ (in_contents (held b) d).0
unfolding on_buffer register_in
after_held b d p = rw (called_is b d, p) (held_written (in_contents (held b) d).0 (good_after (held b) d (register_told b p).0))

own_view : (a : ℕ) (b : List ℕ) (x : Ask) → is_register b ≡ true → view_of (held (called b (a, x)).0) a ≡ pick (is_account a) (view_after a (view_of (held b) a) x) (view_of (held b) a)
unfolding view_after
own_view a b x p =
    ap (λ (c : Contents). view_of c a) (after_held b (a, x) p)
    ∙ choose (is_account a)
    (λ q. rw (in_yes (held b) (a, x) q, q) (own_same (held b) a (records_by x (view_of (held b) a)) (register_told b p).0 q))
    (λ q. rw (in_no (held b) (a, x) q, q))

-- two registers that are the same to an account, whatever the others hold: its calls get the same replies, and it finds them the same afterwards
pub nothing_learnt : (a : ℕ) (b c : List ℕ) → is_register b ≡ true → is_register c ≡ true → view_of (held b) a ≡ view_of (held c) a → (x : Ask)
    → ((called b (a, x)).1 ≡ (called c (a, x)).1) × (view_of (held (called b (a, x)).0) a ≡ view_of (held (called c (a, x)).0) a)
nothing_learnt a b c p q v x = (view_alone a b c p q v x, own_view a b x p ∙ rw v (sym (own_view a c x q)))

-- ---- nothing is touched

-- where the buffer is no register, or the number no account's, nothing changes
pub not_allowed : (b : List ℕ) (d : ℕ × Ask) → both (is_register b) (is_account d.0) ≡ false → (called b d).0 ≡ b
unfolding called bytes_after
not_allowed b d p = rw p

-- no call changes a byte outside its account's room
pub nothing_touched : (b : List ℕ) (d : ℕ × Ask) → is_register b ≡ true → is_account d.0 ≡ true
    → (take (room_start b d.0) (called b d).0 ≡ take (room_start b d.0) b) × (drop (room_end b d.0) (called b d).0 ≡ drop (room_end b d.0) b)
unfolding called bytes_after
nothing_touched b d p q =
    let v : View = view_of (held b) d.0 in
    let g = keeps d.1 v (view_good b p d.0 q) in
    rw (p, q) (untouched b p d.0 q (records_by d.1 v) (account_records v.quota (records_by d.1 v) g) (account_fits v.quota (records_by d.1 v) g))
